-- Loading line by line: where it stands after so many lines, and that a granted line brings it on.
use Rattle.std.proofs.Common.{◌≡◌, ℕ, ◌+◌, List, ◌∷◌, Some, None, Ok, Err, Option, Result, arith}
use Rattle.refusals.specs.declared.Refusal.{Refusal}
use Rattle.text.specs.Lines.{lines_of}
use Rattle.frames.specs.Frames.{Content}
use Rattle.reading.specs.Line.{line_frame}
use Rattle.design.specs.declared.calls.Answer.{Answer}
use Rattle.design.specs.Table.{Table, Lent, Loan, lent_in, is_open}
use Rattle.design.specs.Calls.{Ask}
use Rattle.design.specs.Effects.{Beyond}
use Rattle.design.proofs.Growing.{Grows, Blank, step_grows, beyond_both}
use Rattle.book.specs.declared.Book.{Book}
use Rattle.book.specs.declared.Book.TheVariants.{Unopened}
use Rattle.book.specs.Views.{book_table}
use Rattle.loading.specs.Asking.{asks}
use Rattle.loading.specs.Outcomes.{called, framed, line_outcome}
use Rattle.loading.specs.Loading.{load_from, loaded}
use Rattle.loading.specs.Loads.{LineTaken}

-- a book that is not opened has no row
blank_book : (b : Book) (loan : Loan) → Blank (book_table b loan)
blank_book b loan e = grind arith

called_grows : (l : Lent) (t : Table) (o : Option Ask) → Blank t → Grows t (called l t o).table
called_grows l t None blank = (omega arith, omega arith)
called_grows l t (Some c) blank = step_grows l t c blank

-- no line takes back a granted row
framed_grows : (l : Lent) (t : Table) (r : Result Content Refusal) → Blank t → Grows t (framed l t r).table
framed_grows l t (Ok f) blank = called_grows l t (asks (is_open t.state) f) blank
framed_grows l t (Err why) blank = (omega arith, omega arith)

-- after n lines, with the rest of the text to go: what is still to come makes of the table what the whole text makes
abbrev pub Going : Loan → List ℕ → ℕ → Book → Loan → List ℕ → Type 0
Going start text n b loan rest =
    (lent_in loan ≡ lent_in start)
    × (load_from (lent_in start) n (book_table b loan) (lines_of rest) ≡ loaded (lent_in start) start.schedule text)
    × Beyond (book_table b loan) start loan
    × (n ≡ 0 → (b ≡ Unopened) × (loan ≡ start))

-- the next line was granted
pub go_on : (start : Loan) (text : List ℕ) (n m : ℕ) (b b' : Book) (loan loan' : Loan) (rest rest' line : List ℕ) (a : Answer)
    → m ≡ n + 1 → Going start text n b loan rest → lines_of rest ≡ line ∷ lines_of rest' → lent_in loan' ≡ lent_in start → LineTaken b loan line b' loan' (Ok a) → Going start text m b' loan' rest'
go_on start text n m b b' loan loan' rest rest' line a next g split same h =
    let l = lent_in start in
    let t = book_table b loan in
    let table : (line_outcome l t line).table ≡ book_table b' loan' = cc in
    let steps : load_from l n t (line ∷ lines_of rest') ≡ load_from l m (book_table b' loan') (lines_of rest') = cc in
    let grows : Grows t (book_table b' loan') = rw table at (framed_grows l t (line_frame line) (blank_book b loan)) in
    (same, cc, beyond_both t (book_table b' loan') start loan loan' grows g.2 h.2, λ z. absurd (omega arith))
