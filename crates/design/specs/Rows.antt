-- The rows of a design: the kinds of node and what each holds, couplings, and the limits of their figures.
use Rattle.std.specs.Prelude.{◌≡◌, ℕ, ◌+◌, ◌-◌, Bool, true, false, cond, ◌&&◌, List, [], ◌∷◌, ◌++◌, length, take, replicate, Some, None, Ok, Err, Result, ◌==◌, nat_lt}
use Rattle.std.specs.List.{list_any}
use Rattle.schedule.specs.Clock.{between}
use Rattle.design.specs.declared.nodes.Sources.{Sources}
use Rattle.design.specs.declared.nodes.WrongFan.{WrongFan}
use Rattle.design.specs.declared.nodes.Node.{Node}
use Rattle.design.specs.declared.nodes.Node.TheVariants.{Free, Input, Gate, Latch}
use Rattle.design.specs.declared.couplings.Coupling.{Coupling}

-- the latest time that an input may have
abbrev pub greatest_time : ℕ
greatest_time = 16777215

-- the greatest delay, setup, hold or coupling amount
abbrev pub greatest_delay : ℕ
greatest_delay = 1048575

-- the most sources that a gate may have
abbrev pub greatest_fan : ℕ
greatest_fan = 4

-- one figure of a list is above a limit
abbrev pub any_above : ℕ → List ℕ → Bool
any_above limit xs = list_any (nat_lt limit) xs

-- the sources of a gate, in their order
abbrev pub sources_in : Sources → List ℕ
sources_in s = take s.count s.nodes

-- a gate has 1 to 4 sources
abbrev pub has_fan : List ℕ → Bool
has_fan sources = between 1 (length sources) greatest_fan

-- sources as the row of a gate holds them: the places past the last one hold zeros
abbrev pub gathered : List ℕ → Sources
gathered sources = record { count = length sources; nodes = sources ++ replicate (greatest_fan - length sources) 0 }

-- gathering a list of sources is refused where it has not 1 to 4 of them
abbrev pub Gathered : List ℕ → Result Sources WrongFan → Type 0
Gathered sources (Ok s) = (has_fan sources ≡ true) × (s ≡ gathered sources)
Gathered sources (Err _) = has_fan sources ≡ false

-- a row that holds a node
abbrev pub is_node : Node → Bool
is_node Free = false
is_node (Input phase earliest latest) = true
is_node (Gate phase least greatest sources) = true
is_node (Latch phase least greatest setup hold source) = true

-- a row that holds a latch
abbrev pub is_latch : Node → Bool
is_latch Free = false
is_latch (Input phase earliest latest) = false
is_latch (Gate phase least greatest sources) = false
is_latch (Latch phase least greatest setup hold source) = true

-- a node that a coupling can disturb: one with delays of its own
abbrev pub is_victim : Node → Bool
is_victim Free = false
is_victim (Input phase earliest latest) = false
is_victim (Gate phase least greatest sources) = true
is_victim (Latch phase least greatest setup hold source) = true

-- a latch without a source
abbrev pub is_unfed : Node → Bool
is_unfed Free = false
is_unfed (Input phase earliest latest) = false
is_unfed (Gate phase least greatest sources) = false
is_unfed (Latch phase least greatest setup hold None) = true
is_unfed (Latch phase least greatest setup hold (Some source)) = false

-- the phase of a node; a free row has none
abbrev pub phase_of : Node → ℕ
phase_of Free = 0
phase_of (Input phase earliest latest) = phase
phase_of (Gate phase least greatest sources) = phase
phase_of (Latch phase least greatest setup hold source) = phase

-- the least delay of a node; an input has none
abbrev pub least_delay : Node → ℕ
least_delay Free = 0
least_delay (Input phase earliest latest) = 0
least_delay (Gate phase least greatest sources) = least
least_delay (Latch phase least greatest setup hold source) = least

-- a latch with a source, in place of the one that it had
abbrev pub fed_by : ℕ → Node → Node
fed_by new Free = Free
fed_by new (Input phase earliest latest) = Input phase earliest latest
fed_by new (Gate phase least greatest sources) = Gate phase least greatest sources
fed_by new (Latch phase least greatest setup hold source) = Latch phase least greatest setup hold (Some new)

-- a row of the coupling table that couples nothing
abbrev pub no_coupling : Coupling
no_coupling = record { victim = 0; aggressor = 0; assisting = 0; opposing = 0 }

-- a coupling of this victim with this aggressor
abbrev pub is_pair : ℕ → ℕ → Coupling → Bool
is_pair victim aggressor k = k.victim == victim && k.aggressor == aggressor

-- one of the couplings is of this victim with this aggressor
abbrev pub is_coupled : List Coupling → ℕ → ℕ → Bool
is_coupled ks victim aggressor = list_any (is_pair victim aggressor) ks

-- the assisting amounts of a victim, summed
abbrev pub assisting_of : List Coupling → ℕ → ℕ
assisting_of [] victim = 0
assisting_of (k ∷ ks) victim = cond (k.victim == victim) k.assisting 0 + assisting_of ks victim
