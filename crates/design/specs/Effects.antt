-- What a granted call does and answers, and the table after a list of calls.
use Rattle.std.specs.Prelude.{◌≡◌, List, [], ◌∷◌, ◌++◌, length, drop, Some, None, Ok, Err, Option, Result, slice_index_or, slice_set}
use Rattle.refusals.specs.declared.Refusal.{Refusal}
use Rattle.schedule.specs.Clock.{Clock, cleared}
use Rattle.design.specs.declared.nodes.Node.{Node}
use Rattle.design.specs.declared.nodes.Node.TheVariants.{Free, Input, Gate, Latch}
use Rattle.design.specs.declared.couplings.Coupling.{Coupling}
use Rattle.design.specs.declared.calls.Answer.{Answer}
use Rattle.design.specs.declared.calls.Answer.TheVariants.{Done, Node as NodeAnswer, Coupling as CouplingAnswer}
use Rattle.design.specs.Rows.{gathered, fed_by}
use Rattle.design.specs.Table.{State, draft, sealed, Table, Lent, Loan, lent_in, opening}
use Rattle.design.specs.Calls.{Ask, open_with, input, gate, latch, feed, couple, seal, reopen, retime}
use Rattle.design.specs.Tests.{refusal}

-- a table with other nodes
abbrev pub with_nodes : Table → List Node → Table
with_nodes t nodes = record { clock = t.clock; state = t.state; nodes = nodes; couplings = t.couplings; node_room = t.node_room; coupling_room = t.coupling_room }

-- a table with other couplings
abbrev pub with_couplings : Table → List Coupling → Table
with_couplings t couplings = record { clock = t.clock; state = t.state; nodes = t.nodes; couplings = couplings; node_room = t.node_room; coupling_room = t.coupling_room }

-- a table in another state
abbrev pub in_state : State → Table → Table
in_state state t = record { clock = t.clock; state = state; nodes = t.nodes; couplings = t.couplings; node_room = t.node_room; coupling_room = t.coupling_room }

-- a table under another clock
abbrev pub under : Clock → Table → Table
under clock t = record { clock = clock; state = t.state; nodes = t.nodes; couplings = t.couplings; node_room = t.node_room; coupling_room = t.coupling_room }

-- a node added behind the others
abbrev pub add_node : Table → Node → Table
add_node t x = with_nodes t (t.nodes ++ x ∷ [])

-- a coupling added behind the others
abbrev pub add_coupling : Table → Coupling → Table
add_coupling t k = with_couplings t (t.couplings ++ k ∷ [])

-- what a granted call makes of a table
abbrev pub put : Lent → Table → Ask → Table
put l t (open_with clock) = opening (cleared clock) l
put l t (input phase earliest latest) = add_node t (Input phase earliest latest)
put l t (gate phase least greatest sources) = add_node t (Gate phase least greatest (gathered sources))
put l t (latch phase least greatest setup hold) = add_node t (Latch phase least greatest setup hold None)
put l t (feed to source) = with_nodes t (slice_set t.nodes to (fed_by source (slice_index_or t.nodes to Free)))
put l t (couple victim aggressor assisting opposing) = add_coupling t (record { victim = victim; aggressor = aggressor; assisting = assisting; opposing = opposing })
put l t seal = in_state sealed t
put l t reopen = in_state draft t
put l t (retime clock) = under (cleared clock) t

-- what a granted call answers: the number of the row that it adds, or only that it was done
abbrev pub given : Table → Ask → Answer
given t (open_with clock) = Done
given t (input phase earliest latest) = NodeAnswer (length t.nodes)
given t (gate phase least greatest sources) = NodeAnswer (length t.nodes)
given t (latch phase least greatest setup hold) = NodeAnswer (length t.nodes)
given t (feed to source) = Done
given t (couple victim aggressor assisting opposing) = CouplingAnswer (length t.couplings)
given t seal = Done
given t reopen = Done
given t (retime clock) = Done

-- a refused call leaves what was; a granted one gives what is new
abbrev pub unless : {X : Type 0} → Option Refusal → X → X → X
unless None new old = new
unless (Some why) new old = old

-- what a call makes of a table, granted or refused
abbrev pub step : Lent → Table → Ask → Table
step l t c = unless (refusal l t c) (put l t c) t

-- the answer to a call, granted or refused
abbrev pub answer_to : Option Refusal → Answer → Result Answer Refusal
answer_to None a = Ok a
answer_to (Some why) a = Err why

-- the table after a list of calls, each with how many rows were lent to it
abbrev pub after : Table → List (Lent × Ask) → Table
after t [] = t
after t (m ∷ ms) = after (step m.0 t m.1) ms

-- rows past those that a table has granted are as they were
abbrev pub Beyond : Table → Loan → Loan → Type 0
Beyond t old new = (drop (length t.nodes) new.nodes ≡ drop (length t.nodes) old.nodes) × (drop (length t.couplings) new.couplings ≡ drop (length t.couplings) old.couplings)

-- A call on a book and its loan, which say a table together. Granted, they then say what the call makes of it; refused, they are as they were.
abbrev pub Answered : {B : Type 0} → (B → Loan → Table) → B → Loan → Ask → B → Loan → Result Answer Refusal → Type 0
Answered view b loan c b' loan' (Ok a) =
    (refusal (lent_in loan) (view b loan) c ≡ None)
    × (view b' loan' ≡ put (lent_in loan) (view b loan) c)
    × (a ≡ given (view b loan) c)
    × Beyond (view b' loan') loan loan'
Answered view b loan c b' loan' (Err why) = (refusal (lent_in loan) (view b loan) c ≡ Some why) × (b' ≡ b) × (loan' ≡ loan)
