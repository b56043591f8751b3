-- The calls that make or change the table of a book.
use Rattle.std.specs.Prelude.{ℕ, Bool, true, false, List, [], ◌∷◌}
use Rattle.std.specs.List.{list_any}
use Rattle.schedule.specs.Clock.{Clock}
use Rattle.schedule.specs.Made.{drawn}
use Rattle.design.specs.declared.calls.Call.{Call}
use Rattle.design.specs.declared.calls.Call.TheVariants.{Open, Input, Gate, Latch, Feed, Couple, Seal, Reopen, Retime}
use Rattle.design.specs.Table.{State, unopened, draft, sealed}

-- a call of a history, with its figures, which may be anything: a clock need not be lawful
pub data Ask : Type 0 where
  open_with : (clock : Clock) → Ask
  input : (phase earliest latest : ℕ) → Ask
  gate : (phase least greatest : ℕ) (sources : List ℕ) → Ask
  latch : (phase least greatest setup hold : ℕ) → Ask
  feed : (latch source : ℕ) → Ask
  couple : (victim aggressor assisting opposing : ℕ) → Ask
  seal : Ask
  reopen : Ask
  retime : (clock : Clock) → Ask

-- what a call of the code asks
abbrev pub asked : Call → Ask
asked (Open figures) = open_with (drawn figures)
asked (Input x) = input x.phase x.earliest x.latest
asked (Gate x) = gate x.phase x.least x.greatest x.sources.now
asked (Latch x) = latch x.phase x.least x.greatest x.setup x.hold
asked (Feed to source) = feed to source
asked (Couple k) = couple k.victim k.aggressor k.assisting k.opposing
asked Seal = seal
asked Reopen = reopen
asked (Retime figures) = retime (drawn figures)

-- the states that take a call
abbrev pub taken_in : Ask → List State
taken_in (open_with clock) = unopened ∷ []
taken_in (input phase earliest latest) = draft ∷ []
taken_in (gate phase least greatest sources) = draft ∷ []
taken_in (latch phase least greatest setup hold) = draft ∷ []
taken_in (feed to source) = draft ∷ []
taken_in (couple victim aggressor assisting opposing) = draft ∷ []
taken_in seal = draft ∷ []
taken_in reopen = sealed ∷ []
taken_in (retime clock) = draft ∷ sealed ∷ []

-- two states that are the same
abbrev pub is_state : State → State → Bool
is_state unopened unopened = true
is_state unopened draft = false
is_state unopened sealed = false
is_state draft unopened = false
is_state draft draft = true
is_state draft sealed = false
is_state sealed unopened = false
is_state sealed draft = false
is_state sealed sealed = true

-- a state that is one of these
abbrev pub among : State → List State → Bool
among s states = list_any (is_state s) states
