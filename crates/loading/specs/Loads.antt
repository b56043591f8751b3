-- What a frame, a line and a whole text do to a book and its tables.
use Rattle.std.specs.Prelude.{◌≡◌, ℕ, List, Ok, Err, Result}
use Rattle.refusals.specs.declared.Refusal.{Refusal}
use Rattle.refusals.specs.declared.Fault.{Fault}
use Rattle.frames.specs.Frames.{Content}
use Rattle.design.specs.declared.calls.Answer.{Answer}
use Rattle.design.specs.Table.{Loan, lent_in}
use Rattle.design.specs.Effects.{Beyond}
use Rattle.book.specs.declared.Book.{Book}
use Rattle.book.specs.declared.Book.TheVariants.{Unopened}
use Rattle.book.specs.Views.{book_table}
use Rattle.loading.specs.Outcomes.{Outcome, framed, line_outcome}
use Rattle.loading.specs.Loading.{loaded}

-- an outcome on a book: the answer and the table are those told, and a refusal leaves everything as it was
abbrev pub Taken : Outcome → Book → Loan → Book → Loan → Result Answer Refusal → Type 0
Taken outcome b loan b' loan' r =
    (r ≡ outcome.answer)
    × (book_table b' loan' ≡ outcome.table)
    × Beyond (book_table b' loan') loan loan'
    × ((why : Refusal) → r ≡ Err why → (b' ≡ b) × (loan' ≡ loan))

-- a frame put to a book
abbrev pub FrameTaken : Book → Loan → Content → Book → Loan → Result Answer Refusal → Type 0
FrameTaken b loan f b' loan' r = Taken (framed (lent_in loan) (book_table b loan) (Ok f)) b loan b' loan' r

-- a line put to a book
abbrev pub LineTaken : Book → Loan → List ℕ → Book → Loan → Result Answer Refusal → Type 0
LineTaken b loan line b' loan' r = Taken (line_outcome (lent_in loan) (book_table b loan) line) b loan b' loan' r

-- no line was granted
abbrev pub NoneGranted : Result ℕ Fault → Type 0
NoneGranted (Ok count) = count ≡ 0
NoneGranted (Err fault) = fault.line ≡ 1

-- A text loaded: the book and the tables say what its lines make up to the first that is refused, and rows past the granted ones are as they were. Where no line was granted, so is everything.
abbrev pub LoadedBy : Loan → List ℕ → Loan → Book → Result ℕ Fault → Type 0
LoadedBy loan text loan' b r =
    (r ≡ (loaded (lent_in loan) loan.schedule text).result)
    × (book_table b loan' ≡ (loaded (lent_in loan) loan.schedule text).table)
    × Beyond (book_table b loan') loan loan'
    × (NoneGranted r → (b ≡ Unopened) × (loan' ≡ loan))
