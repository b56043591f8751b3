-- The calls on a book, verify among them, and the table that a list of them makes.
use Rattle.std.specs.Prelude.{ℕ, min, Bool, not, List, [], ◌∷◌, Ok, Err, Option, Result}
use Rattle.refusals.specs.declared.Refusal.{Refusal}
use Rattle.refusals.specs.declared.Refusal.TheVariants.{Short, Order}
use Rattle.design.specs.declared.calls.Answer.{Answer}
use Rattle.design.specs.Table.{sealed, Table, Lent}
use Rattle.design.specs.Calls.{Ask, asked, is_state}
use Rattle.design.specs.Tests.{first_that}
use Rattle.design.specs.Effects.{step, after}
use Rattle.rules.specs.Questions.{Question}
use Rattle.windows.specs.Lending.{lacks_rows}
use Rattle.calling.specs.declared.request.Reply.{Reply}
use Rattle.calling.specs.declared.request.Reply.TheVariants.{Changed}
use Rattle.calling.specs.declared.request.Request.{Request}
use Rattle.calling.specs.declared.request.Request.TheVariants.{Change, Verify}

-- A call of a history: one that makes or changes the table, or one that judges it under the rule that sees these questions.
pub data Requested : Type 0 where
  change : Ask → Requested
  verify : (Question → Bool) → Requested

-- what a call of the code asks, where the rules of its type mean this
abbrev pub meant : {R : Type 0} → (R → Question → Bool) → Request R → Requested
meant meaning (Change call) = change (asked call)
meant meaning (Verify rule) = verify (meaning rule)

-- how many rows the tables have that are lent to a call: the two of the book, the flags, the windows and the column
pub record LentRows : Type 0 where
  pub nodes : ℕ
  pub couplings : ℕ
  pub flags : ℕ
  pub windows : ℕ
  pub column : ℕ

-- those of the book's own tables
abbrev pub of_book : LentRows → Lent
of_book l = record { nodes = l.nodes; couplings = l.couplings }

-- what a verify is refused with, if it is: the state of the table is not sealed, or rows are lacking
abbrev pub verify_refusal : LentRows → Table → Option Refusal
verify_refusal l t =
    first_that
    ((Order, not (is_state t.state sealed))
    ∷ (Short, lacks_rows (of_book l) t l.flags (min l.windows l.column))
    ∷ [])

-- the table after a call, granted or refused; a verify leaves it as it is
abbrev pub table_after : Table → LentRows × Requested → Table
table_after t (l, change c) = step (of_book l) t c
table_after t (l, verify sees) = t

-- the answer to a call that makes or changes the table
abbrev pub changed : Result Answer Refusal → Result Reply Refusal
changed (Ok a) = Ok (Changed a)
changed (Err why) = Err why

-- those calls of a history that make or change the table
abbrev pub changes : List (LentRows × Requested) → List (Lent × Ask)
changes [] = []
changes ((l, change c) ∷ ms) = (of_book l, c) ∷ changes ms
changes ((l, verify sees) ∷ ms) = changes ms

-- the table after a list of calls
abbrev pub so_far : Table → List (LentRows × Requested) → Table
so_far t ms = after t (changes ms)
