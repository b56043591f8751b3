-- A whole list of calls made to a newly opened book.
use Rattle.std.specs.Prelude.{◌≡◌, ℕ, min, Bool, not, List, [], ◌∷◌, map, length, take, drop, Some, None, Ok, Err, Option, Result, nat_lt}
use Rattle.refusals.specs.declared.Refusal.{Refusal}
use Rattle.refusals.specs.declared.Refusal.TheVariants.{Clock as ClockRefusal, Short}
use Rattle.schedule.specs.Clock.{Clock, lawful, cleared}
use Rattle.design.specs.Table.{Table, Loan, lent_in, opening}
use Rattle.design.specs.Tests.{first_that}
use Rattle.design.specs.Effects.{Beyond}
use Rattle.design.specs.SoFar.{Stands}
use Rattle.rules.specs.Questions.{Question}
use Rattle.book.specs.declared.Book.{Book}
use Rattle.book.specs.Views.{book_table}
use Rattle.calling.specs.declared.request.Reply.{Reply}
use Rattle.calling.specs.declared.request.LentRequest.{LentRequest}
use Rattle.calling.specs.Requests.{Requested, meant, LentRows, so_far}
use Rattle.calling.specs.Applied.{ResultRows}
use Rattle.calling.specs.Law.{ListLaw}

-- how many rows are lent to a call of a list, of tables that have so many
abbrev pub lent_to : {R : Type 0} → LentRows → LentRequest R → LentRows
lent_to all m =
    record {
      nodes = min m.nodes all.nodes;
      couplings = min m.couplings all.couplings;
      flags = min m.flags all.flags;
      windows = min m.windows all.windows;
      column = min m.column all.column;
    }

-- a list of calls of the code, each with how many rows are lent to it
abbrev pub history : {R : Type 0} → (R → Question → Bool) → LentRows → List (LentRequest R) → List (LentRows × Requested)
history meaning all calls = map (λ m. (lent_to all m, meant meaning m.request)) calls

-- the table of a book that is newly opened with a clock
abbrev pub opened_with : Clock → Loan → Table
opened_with clock loan = opening (cleared clock) (lent_in loan)

-- what a list of calls is refused with, if it is: the clock is not lawful, or there are fewer places for answers than calls
abbrev pub run_refusal : Clock → ℕ → ℕ → Option Refusal
run_refusal clock calls places = first_that ((ClockRefusal, not (lawful clock)) ∷ (Short, nat_lt places calls) ∷ [])

-- A list of calls made to a new book. Refused where the clock is not lawful, or where there are fewer places for answers than calls, and then nothing is written: nothing of the loan, nothing of what is lent for verdicts and no place for an answer. Else the book says the table after these calls, which stands; each call has its answer, the law holds of all of them, and places past their answers are as they were.
abbrev pub Ran : Loan → Clock → List (LentRows × Requested) → List (Result Reply Refusal) → ResultRows → Loan → List (Result Reply Refusal) → ResultRows → Result Book Refusal → Type 0
Ran loan clock ms room old loan' answers new (Ok book) =
    (run_refusal clock (length ms) (length room) ≡ None)
    × (book_table book loan' ≡ so_far (opened_with clock loan) ms)
    × Stands (book_table book loan')
    × Beyond (book_table book loan') loan loan'
    × ListLaw (opened_with clock loan) ms (take (length ms) answers) old new
    × (drop (length ms) answers ≡ drop (length ms) room)
Ran loan clock ms room old loan' answers new (Err why) =
    (run_refusal clock (length ms) (length room) ≡ Some why)
    × (loan' ≡ loan)
    × (answers ≡ room)
    × (new ≡ old)
