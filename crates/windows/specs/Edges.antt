-- Arrivals held against the bounds of a latch.
use Rattle.std.specs.Prelude.{Bool, true, false, ℤ, pos, ◌-ℤ◌, int_lt}
use Rattle.std.specs.Int.{saturate_signed, w64}
use Rattle.schedule.specs.Clock.{Clock}
use Rattle.design.specs.declared.nodes.Node.{Node}
use Rattle.design.specs.declared.nodes.Node.TheVariants.{Free, Input, Gate, Latch}
use Rattle.kinds.specs.declared.arrival.Arrival.{Arrival}
use Rattle.kinds.specs.declared.arrival.Arrival.TheVariants.{NoPath, At, NoEnd}
use Rattle.timing.specs.Connections.{late_bound, early_bound}

-- an arrival after a bound; one without an end is after every bound
abbrev pub is_after : ℤ → Arrival → Bool
is_after bound NoPath = false
is_after bound (At figure) = int_lt bound figure
is_after bound NoEnd = true

-- an arrival before a bound
abbrev pub is_before : ℤ → Arrival → Bool
is_before bound NoPath = false
is_before bound (At figure) = int_lt figure bound
is_before bound NoEnd = false

-- a latch whose latest arrival is after its late bound
abbrev pub is_late : Clock → Node → Arrival → Bool
is_late clock Free latest = false
is_late clock (Input phase earliest latest') latest = false
is_late clock (Gate phase least greatest sources) latest = false
is_late clock (Latch phase least greatest setup hold source) latest = is_after (late_bound clock setup) latest

-- a latch whose earliest arrival is before its early bound
abbrev pub is_early : Node → Arrival → Bool
is_early Free earliest = false
is_early (Input phase earliest' latest) earliest = false
is_early (Gate phase least greatest sources) earliest = false
is_early (Latch phase least greatest setup hold source) earliest = is_before (early_bound hold) earliest

-- how far an arrival is after a bound, or at the end of 64 bits where that would leave them; 0 without a path or without an end
abbrev pub excess_after : ℤ → Arrival → ℤ
excess_after bound NoPath = pos 0
excess_after bound (At figure) = saturate_signed w64 (figure -ℤ bound)
excess_after bound NoEnd = pos 0

-- how far an arrival is before a bound, likewise
abbrev pub excess_before : ℤ → Arrival → ℤ
excess_before bound NoPath = pos 0
excess_before bound (At figure) = saturate_signed w64 (bound -ℤ figure)
excess_before bound NoEnd = pos 0

-- how far the latest arrival at a latch is after its late bound; 0 at any other node
abbrev pub late_excess : Clock → Node → Arrival → ℤ
late_excess clock Free latest = pos 0
late_excess clock (Input phase earliest latest') latest = pos 0
late_excess clock (Gate phase least greatest sources) latest = pos 0
late_excess clock (Latch phase least greatest setup hold source) latest = excess_after (late_bound clock setup) latest

-- how far the earliest arrival at a latch is before its early bound; 0 at any other node
abbrev pub early_excess : Node → Arrival → ℤ
early_excess Free earliest = pos 0
early_excess (Input phase earliest' latest) earliest = pos 0
early_excess (Gate phase least greatest sources) earliest = pos 0
early_excess (Latch phase least greatest setup hold source) earliest = excess_before (early_bound hold) earliest
