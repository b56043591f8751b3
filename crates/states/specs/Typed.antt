-- What the calls on a draft and on a sealed table answer.
use Rattle.std.specs.Prelude.{◌≡◌, ℕ, Some, None, Ok, Err, Result}
use Rattle.refusals.specs.declared.Refusal.{Refusal}
use Rattle.schedule.specs.Clock.{Clock}
use Rattle.design.specs.declared.calls.Answer.{Answer}
use Rattle.design.specs.declared.calls.Answer.TheVariants.{Done, Node as NodeAnswer, Coupling as CouplingAnswer}
use Rattle.design.specs.Table.{Table, Loan, lent_in, unopened_table}
use Rattle.design.specs.Calls.{Ask, open_with}
use Rattle.design.specs.Tests.{refusal}
use Rattle.design.specs.Effects.{put}
use Rattle.states.specs.declared.OpenBook.{OpenBook}
use Rattle.states.specs.declared.Refused.{Refused}
use Rattle.states.specs.declared.stages.Editable.{Editable}
use Rattle.states.specs.Views.{draft_table}

-- the answer of a call that adds a node and gives its number
abbrev pub node_answer : Result ℕ Refusal → Result Answer Refusal
node_answer (Ok k) = Ok (NodeAnswer k)
node_answer (Err why) = Err why

-- the answer of a call that adds a coupling and gives its number
abbrev pub coupling_answer : Result ℕ Refusal → Result Answer Refusal
coupling_answer (Ok k) = Ok (CouplingAnswer k)
coupling_answer (Err why) = Err why

-- the answer of a call that gives no number
abbrev pub done_answer : Result Unit Refusal → Result Answer Refusal
done_answer (Ok _) = Ok Done
done_answer (Err why) = Err why

-- opening with a clock: the draft is empty, and no row is written
abbrev pub Opened : Loan → Clock → Loan → Result (OpenBook Editable) Refusal → Type 0
Opened loan clock loan' (Ok d) =
    (refusal (lent_in loan) (unopened_table loan.schedule) (open_with clock) ≡ None)
    × (draft_table d loan' ≡ put (lent_in loan) (unopened_table loan.schedule) (open_with clock))
    × (loan'.nodes ≡ loan.nodes)
    × (loan'.couplings ≡ loan.couplings)
Opened loan clock loan' (Err why) = (refusal (lent_in loan) (unopened_table loan.schedule) (open_with clock) ≡ Some why) × (loan' ≡ loan)

-- a change of state takes the book, and hands it back where it is refused
abbrev pub Changed : {A B : Type 0} → (A → Loan → Table) → (B → Loan → Table) → A → Loan → Ask → Result B (Refused A) → Type 0
Changed view view' a loan c (Ok b) = (refusal (lent_in loan) (view a loan) c ≡ None) × (view' b loan ≡ put (lent_in loan) (view a loan) c)
Changed view view' a loan c (Err back) = (refusal (lent_in loan) (view a loan) c ≡ Some back.refusal) × (back.book ≡ a)
