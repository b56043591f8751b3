-- What is printed for whole texts, on tables of as many rows as a book takes.
use Rattle.std.specs.Prelude.{◌≡◌, ℕ, ◌+◌, ◌<◌, ◌≤◌, List, ◌++◌, length, take, drop, replicate, pos, Ok, Err, Result}
use Rattle.refusals.specs.declared.Refusal.{Refusal}
use Rattle.refusals.specs.declared.Refusal.TheVariants.{Short}
use Rattle.schedule.specs.Made.{blank}
use Rattle.text.specs.Lines.{lines_of}
use Rattle.design.specs.declared.nodes.Node.TheVariants.{Free}
use Rattle.design.specs.Rows.{no_coupling}
use Rattle.design.specs.Table.{most_nodes, most_couplings, Loan, unopened_table}
use Rattle.kinds.specs.declared.arrival.Arrival.TheVariants.{NoPath}
use Rattle.timing.specs.declared.windows.Window.{Window}
use Rattle.windows.specs.declared.flags.Flag.TheVariants.{Clear}
use Rattle.states.specs.Views.{loan_of}
use Rattle.book.specs.declared.Book.{Book}
use Rattle.book.specs.declared.Book.TheVariants.{Unopened}
use Rattle.calling.specs.Requests.{LentRows}
use Rattle.calling.specs.Applied.{ResultRows, rows_in}
use Rattle.session.specs.Printing.{PrintsAll}
use Rattle.printing.specs.Room.{room_for}
use Rattle.printing.specs.Replies.{RepliesAll}
use Rattle.printing.specs.Overwriting.{overwritten}

-- how many rows all tables have
abbrev pub full_rows : LentRows
full_rows = record { nodes = most_nodes; couplings = most_couplings; flags = most_couplings; windows = most_nodes; column = most_nodes }

-- a blank schedule, and tables of free rows and of couplings of nothing
abbrev pub blank_loan : Loan
blank_loan = loan_of blank (replicate most_nodes Free) (replicate most_couplings no_coupling)

-- a window of nothing
abbrev pub no_window : Window
no_window = record { begins = pos 0; ends = pos 0 }

-- what stands at first in the tables that are lent for verdicts
abbrev pub blank_results : ResultRows
blank_results = rows_in (replicate most_couplings Clear) (replicate most_nodes no_window) (replicate most_nodes NoPath)

-- what is printed for a text whose lines are put to a book that is not opened
abbrev pub PrintedFor : List ℕ → List ℕ → Type 0
PrintedFor text printed = PrintsAll full_rows (unopened_table blank) (lines_of text) printed

-- What is printed for a text whose first part is put to a book that is not opened, and whose rest is put to the same book after rows of its tables were overwritten: the replies to both, and those to the first part are what is printed for it.
abbrev pub PrintedOverwritten : List ℕ → List ℕ → List ℕ → List ℕ → Type 0
PrintedOverwritten first records rest printed =
    (b : Book) × (loan : Loan) × (rows : ResultRows) × (b' : Book) × (loan' : Loan) × (rows' : ResultRows) × (before : List ℕ) × (after : List ℕ)
    × RepliesAll Unopened blank_loan blank_results (lines_of first) b loan rows before
    × PrintedFor first before
    × RepliesAll b (overwritten loan records) rows (lines_of rest) b' loan' rows' after
    × (printed ≡ before ++ after)

-- An output written into the first places of a buffer with so much room for it, or refused where the buffer is shorter, with the buffer as it was.
abbrev pub Filled : (List ℕ → Type 0) → ℕ → List ℕ → List ℕ → Result ℕ Refusal → Type 0
Filled Prints room old new (Ok n) = (room ≤ length old) × (n ≤ room) × Prints (take n new) × (drop n new ≡ drop n old) × (length new ≡ length old)
Filled Prints room old new (Err why) = (length old < room) × (why ≡ Short) × (new ≡ old)

-- the output of a text
abbrev pub Printed : List ℕ → List ℕ → List ℕ → Result ℕ Refusal → Type 0
Printed text old new r = Filled (PrintedFor text) (room_for text) old new r

-- the output of a text with rows overwritten where it is cut in two
abbrev pub PrintedOver : List ℕ → ℕ → List ℕ → List ℕ → List ℕ → Result ℕ Refusal → Type 0
PrintedOver text place records old new r =
    Filled (PrintedOverwritten (take place text) records (drop place text)) (room_for (take place text) + room_for (drop place text)) old new r
