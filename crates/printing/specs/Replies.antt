-- Lines put to a book one after another, and what is printed for their replies.
use Rattle.std.specs.Prelude.{◌≡◌, ℕ, ◌≤◌, List, [], ◌∷◌, ◌++◌, length, take, Ok, Result}
use Rattle.refusals.specs.declared.Refusal.{Refusal}
use Rattle.text.specs.Lines.{lines_of}
use Rattle.reading.specs.Line.{line_frame}
use Rattle.design.specs.Table.{Loan}
use Rattle.reporting.specs.Report.{WrittenAt}
use Rattle.book.specs.declared.Book.{Book}
use Rattle.book.specs.Views.{book_table}
use Rattle.calling.specs.declared.request.Reply.{Reply}
use Rattle.calling.specs.Applied.{ResultRows, lent_rows}
use Rattle.session.specs.Printing.{rule_asked, PrintsAll}
use Rattle.session.specs.Replies.{text_for, LineDone, IsSoFar}
use Rattle.printing.specs.Room.{most_printed, room_for}

-- Lines put one after another to a book with its tables and those lent for verdicts, whatever rows these hold: what each does is determined but for the answer to a verify, and its reply is printed behind those before it.
abbrev pub RepliesAll : Book → Loan → ResultRows → List (List ℕ) → Book → Loan → ResultRows → List ℕ → Type 0
RepliesAll b loan rows [] b' loan' rows' printed = (b' ≡ b) × (loan' ≡ loan) × (rows' ≡ rows) × (printed ≡ [])
RepliesAll b loan rows (line ∷ others) b' loan' rows' printed =
    (b1 : Book) × (loan1 : Loan) × (rows1 : ResultRows) × (r : Result Reply Refusal) × (rest : List ℕ)
    × LineDone (rule_asked (line_frame line)) b loan rows line b1 loan1 rows1 r
    × (printed ≡ text_for (book_table b loan) rows1 r ++ rest)
    × RepliesAll b1 loan1 rows1 others b' loan' rows' rest

-- One line put to a book, its reply written into the first places of a buffer. Of a table so far, it followed by what is printed for other lines on the table then is what is printed for this line and the others.
abbrev pub LineReplied : Book → Loan → ResultRows → List ℕ → Book → Loan → ResultRows → List ℕ → ℕ → Type 0
LineReplied b loan rows line b' loan' rows' room n =
    (n ≤ length room)
    × (n ≤ most_printed line)
    × ((r : Result Reply Refusal) × LineDone (rule_asked (line_frame line)) b loan rows line b' loan' rows' r × (take n room ≡ text_for (book_table b loan) rows' r))
    × (IsSoFar (book_table b loan)
    → IsSoFar (book_table b' loan')
    × ((others : List (List ℕ)) (rest : List ℕ)
    → PrintsAll (lent_rows loan rows) (book_table b' loan') others rest
    → PrintsAll (lent_rows loan rows) (book_table b loan) (line ∷ others) (take n room ++ rest)))

-- The lines of a text put to a book, their replies written into a buffer from a place on, in no more bytes than a text has room for. Of a table so far they are what is printed for these lines.
abbrev pub TextReplied : Book → Loan → ResultRows → List ℕ → ℕ → List ℕ → Book → Loan → ResultRows → List ℕ → ℕ → Type 0
TextReplied b loan rows text place old b' loan' rows' new end =
    (printed : List ℕ)
    × (length printed ≤ room_for text)
    × WrittenAt printed place old new (Ok end)
    × RepliesAll b loan rows (lines_of text) b' loan' rows' printed
    × (IsSoFar (book_table b loan) → PrintsAll (lent_rows loan rows) (book_table b loan) (lines_of text) printed)
