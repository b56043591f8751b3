-- A call put to a book in whichever state it is.
use Rattle.std.specs.Prelude.{◌≡◌, Bool, List, length, Some, Ok, Err, Result}
use Rattle.refusals.specs.declared.Refusal.{Refusal}
use Rattle.design.specs.Table.{sealed, Loan}
use Rattle.design.specs.Calls.{Ask}
use Rattle.design.specs.Effects.{Answered}
use Rattle.kinds.specs.declared.arrival.Arrival.{Arrival}
use Rattle.timing.specs.declared.windows.Window.{Window}
use Rattle.rules.specs.Questions.{Question}
use Rattle.windows.specs.declared.flags.Flag.{Flag}
use Rattle.verifying.specs.Answers.{VerifyAnswered}
use Rattle.book.specs.declared.Book.{Book}
use Rattle.book.specs.Views.{state_of, book_table}
use Rattle.calling.specs.declared.request.Reply.{Reply}
use Rattle.calling.specs.declared.request.Reply.TheVariants.{Changed, Judged}
use Rattle.calling.specs.declared.request.Results.{Results}
use Rattle.calling.specs.Requests.{Requested, change, verify, LentRows, verify_refusal}

-- what stands in the flag table, the window table and the column that are lent for verdicts
pub record ResultRows : Type 0 where
  pub flags : List Flag
  pub windows : List Window
  pub column : List Arrival

-- tables of these flags and these windows, and a column of these arrivals
abbrev pub rows_in : List Flag → List Window → List Arrival → ResultRows
rows_in flags windows column = record { flags = flags; windows = windows; column = column }

-- what stands in those that are lent
abbrev pub results_in : Results → ResultRows
results_in r = rows_in r.flags.now r.windows.now r.column.now

-- the tables that were lent before, with as many rows, whatever they hold now
abbrev pub SameResults : Results → Results → Type 0
SameResults r r' =
    (r'.flags.ghost_name ≡ r.flags.ghost_name)
    × (r'.windows.ghost_name ≡ r.windows.ghost_name)
    × (r'.column.ghost_name ≡ r.column.ghost_name)
    × (length r'.flags.now ≡ length r.flags.now)
    × (length r'.windows.now ≡ length r.windows.now)
    × (length r'.column.now ≡ length r.column.now)

-- how many rows the tables have that are lent to a call
abbrev pub lent_rows : Loan → ResultRows → LentRows
lent_rows loan rows =
    record { nodes = length loan.nodes; couplings = length loan.couplings; flags = length rows.flags; windows = length rows.windows; column = length rows.column }

-- a call that makes or changes the table: it does what it says
abbrev pub ChangeApplied : Book → Loan → Ask → Book → Loan → Result Reply Refusal → Type 0
ChangeApplied b loan c b' loan' (Ok (Changed a)) = Answered book_table b loan c b' loan' (Ok a)
ChangeApplied b loan c b' loan' (Ok (Judged j)) = ⊥
ChangeApplied b loan c b' loan' (Err why) = Answered book_table b loan c b' loan' (Err why)

-- a verify: granted to a sealed table it is judged; refused it writes nothing
abbrev pub VerifyApplied : Book → Loan → (Question → Bool) → ResultRows → ResultRows → Result Reply Refusal → Type 0
VerifyApplied b loan sees old new (Ok (Changed a)) = ⊥
VerifyApplied b loan sees old new (Ok (Judged j)) =
    (state_of b ≡ sealed)
    × VerifyAnswered (book_table b) loan sees old.flags new.flags old.windows new.windows old.column new.column (Ok j)
VerifyApplied b loan sees old new (Err why) =
    (verify_refusal (lent_rows loan old) (book_table b loan) ≡ Some why)
    × (new ≡ old)

-- A call put to a book and its loan, with what is lent for verdicts: one that makes or changes the table writes nothing there, and a verify leaves the book and its loan as they are.
abbrev pub Applied : Book → Loan → ResultRows → Requested → Book → Loan → ResultRows → Result Reply Refusal → Type 0
Applied b loan old (change c) b' loan' new r = ChangeApplied b loan c b' loan' r × (new ≡ old)
Applied b loan old (verify sees) b' loan' new r = VerifyApplied b loan sees old new r × (b' ≡ b) × (loan' ≡ loan)
