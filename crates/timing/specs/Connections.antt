-- The connections between the nodes of a design, their shifts, and when paths start.
use Rattle.std.specs.Prelude.{ℕ, Bool, true, false, cond, not, ◌&&◌, ◌||◌, List, [], ◌∷◌, length, ℤ, pos, ◌-ℤ◌, Some, None, ◌==◌, slice_index_or}
use Rattle.schedule.specs.Clock.{Clock, has_phase, forward, opening}
use Rattle.design.specs.declared.nodes.Node.{Node}
use Rattle.design.specs.declared.nodes.Node.TheVariants.{Free, Input, Gate, Latch}
use Rattle.design.specs.Rows.{sources_in, is_latch, phase_of}
use Rattle.paths.specs.Networks.{Network}
use Rattle.kinds.specs.declared.timings.Start.{Start}

-- the row of a node; one that is not there reads as free
abbrev pub row : List Node → ℕ → Node
row nodes v = slice_index_or nodes v Free

-- the nodes that a node is connected from: the sources of a gate, or the one of a latch that is fed
abbrev pub fed_from : Node → List ℕ
fed_from Free = []
fed_from (Input phase earliest latest) = []
fed_from (Gate phase least greatest sources) = sources_in sources
fed_from (Latch phase least greatest setup hold None) = []
fed_from (Latch phase least greatest setup hold (Some source)) = source ∷ []

-- the nodes at which a path may start: inputs and latches
abbrev pub starts_paths : Node → Bool
starts_paths Free = false
starts_paths (Input phase earliest latest) = true
starts_paths (Gate phase least greatest sources) = false
starts_paths (Latch phase least greatest setup hold source) = true

-- the network that nodes make
abbrev pub network : List Node → Network
network nodes =
    record {
      size = length nodes;
      is_origin = λ v. starts_paths (row nodes v);
      is_latch = λ v. is_latch (row nodes v);
      sources = λ v. fed_from (row nodes v);
    }

-- the forward shift between two phases, or 0 where the clock lacks one of them
abbrev pub forward_or_zero : Clock → ℕ → ℕ → ℤ
forward_or_zero clock i j = cond (has_phase clock i && has_phase clock j) (forward clock i j) (pos 0)

-- The shift of a connection: the forward shift from the phase of the node that is left to that of the node that is entered if this is a latch or the phases differ, and else 0.
abbrev pub shift_between : Clock → Node → Node → ℤ
shift_between clock from to = cond (is_latch to || not (phase_of from == phase_of to)) (forward_or_zero clock (phase_of from) (phase_of to)) (pos 0)

-- the edge at which a latch opens for late figures: the opening edge of its phase, or 0 where the clock lacks the phase
abbrev pub late_opening : Clock → ℕ → ℤ
late_opening clock phase = cond (has_phase clock phase) (opening clock phase) (pos 0)

-- the edge at which a latch opens for early figures: the same
abbrev pub early_opening : Clock → ℕ → ℤ
early_opening clock phase = late_opening clock phase

-- the bound after which an arrival at a latch is late: its setup before the close, which is a period after the start of its phase
abbrev pub late_bound : Clock → ℕ → ℤ
late_bound clock setup = pos clock.period -ℤ pos setup

-- the bound before which an arrival at a latch is early: its hold after the latch closed for what came before
abbrev pub early_bound : ℕ → ℤ
early_bound hold = pos hold

-- when a path starts at a node, if it may: at an input from its earliest to its latest time, at a latch at the opening edge
abbrev pub start_at : Clock → Node → Start
start_at clock Free = record { earliest = pos 0; latest = pos 0 }
start_at clock (Input phase earliest latest) = record { earliest = pos earliest; latest = pos latest }
start_at clock (Gate phase least greatest sources) = record { earliest = pos 0; latest = pos 0 }
start_at clock (Latch phase least greatest setup hold source) = record { earliest = early_opening clock phase; latest = late_opening clock phase }
