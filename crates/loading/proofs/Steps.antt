-- A frame put to the book, by what it asks.
use Rattle.std.proofs.Common.{◌≡◌, Bool, Some, Ok, Err, Result, arith}
use Rattle.refusals.specs.declared.Refusal.{Refusal}
use Rattle.frames.specs.Frames.{Content}
use Rattle.design.specs.declared.calls.Answer.{Answer}
use Rattle.design.specs.Table.{Loan, lent_in, is_open}
use Rattle.design.specs.Calls.{Ask}
use Rattle.design.specs.Effects.{Answered}
use Rattle.book.specs.declared.Book.{Book}
use Rattle.book.specs.Views.{book_table, state_of}
use Rattle.loading.specs.Asking.{asks}
use Rattle.loading.specs.Outcomes.{called, framed}
use Rattle.loading.specs.Loads.{FrameTaken}

-- a book's table is in the state of the book
state_seen : (b : Book) (loan : Loan) → (book_table b loan).state ≡ state_of b
state_seen b loan = grind arith

-- a frame that asks for a call
pub through : (b b' : Book) (loan loan' : Loan) (f : Content) (opened : Bool) (c : Ask) (r : Result Answer Refusal) → opened ≡ is_open (state_of b) → asks opened f ≡ Some c → Answered book_table b loan c b' loan' r → FrameTaken b loan f b' loan' r
through b b' loan loan' f opened c (Ok x) same a h =
    let seen = state_seen b loan in
    let put : framed (lent_in loan) (book_table b loan) (Ok f) ≡ called (lent_in loan) (book_table b loan) (Some c) = cc in
    (cc, cc, h.3, λ why x. absurd cc)
through b b' loan loan' f opened c (Err why) same a h =
    let seen = state_seen b loan in
    let put : framed (lent_in loan) (book_table b loan) (Ok f) ≡ called (lent_in loan) (book_table b loan) (Some c) = cc in
    (cc, cc, (cc, cc), λ x y. (h.1, h.2))
