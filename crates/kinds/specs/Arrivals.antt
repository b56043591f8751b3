-- The latest and the earliest kind of delay: their figures, joins and steps, and what a latch passes on.
use Rattle.std.specs.Prelude.{ℕ, Bool, true, false, cond, ℤ, ◌+ℤ◌, ◌-ℤ◌, int_lt}
use Rattle.std.specs.Int.{int_max, int_min, saturate_signed, w64}
use Rattle.paths.specs.Kinds.{Kind, Restarts}
use Rattle.kinds.specs.declared.arrival.Arrival.{Arrival}
use Rattle.kinds.specs.declared.arrival.Arrival.TheVariants.{NoPath, At, NoEnd}
use Rattle.kinds.specs.declared.timings.Start.{Start}
use Rattle.kinds.specs.declared.timings.Delays.{Delays}

-- the sum of a figure and what a step adds; where it would leave 64 bits it stays at their end
abbrev pub sum_within : ℤ → ℤ → ℤ
sum_within x y = saturate_signed w64 (x +ℤ y)

-- a step adds to a figure; a node without a path passes none on, and what has no end keeps none
abbrev pub stepped : Arrival → ℤ → Arrival
stepped NoPath gain = NoPath
stepped (At x) gain = At (sum_within x gain)
stepped NoEnd gain = NoEnd

-- Two arrivals joined, where `pick` picks one of two figures. The mark is ignored, and what has no end has none joined with anything.
abbrev pub joined_by : (ℤ → ℤ → ℤ) → Arrival → Arrival → Arrival
joined_by pick NoPath y = y
joined_by pick (At x) NoPath = At x
joined_by pick (At x) (At y) = At (pick x y)
joined_by pick (At x) NoEnd = NoEnd
joined_by pick NoEnd y = NoEnd

-- the latest of the figures that come together
abbrev pub latest_kind : Kind Arrival ℤ
latest_kind = record { no_path = NoPath; join = joined_by int_max; step = stepped }

-- the earliest of the figures that come together
abbrev pub earliest_kind : Kind Arrival ℤ
earliest_kind = record { no_path = NoPath; join = joined_by int_min; step = stepped }

-- what a late figure starts with: the latest moment at which a path may start
abbrev pub latest_start : Start → Arrival
latest_start s = At s.latest

-- what an early figure starts with: the earliest moment at which a path may start
abbrev pub earliest_start : Start → Arrival
earliest_start s = At s.earliest

-- the latest that a connection adds: the greatest delay of the node that is left, less the shift
abbrev pub latest_between : Delays → Delays → ℤ → ℤ
latest_between from to shift = saturate_signed w64 (from.greatest -ℤ shift)

-- the earliest that a connection adds: the least delay of the node that is left, less the shift
abbrev pub earliest_between : Delays → Delays → ℤ → ℤ
earliest_between from to shift = saturate_signed w64 (from.least -ℤ shift)

-- an arrival later than a start
abbrev pub is_later : Arrival → Arrival → Bool
is_later NoPath NoPath = false
is_later NoPath (At y) = true
is_later NoPath NoEnd = true
is_later (At x) NoPath = false
is_later (At x) (At y) = int_lt x y
is_later (At x) NoEnd = true
is_later NoEnd y = false

-- what a latch starts from where whatever still climbs has no end: without an end, if what came to it is later than what it started from
abbrev pub endless_if_later : Arrival → Arrival → Arrival
endless_if_later start arrival = cond (is_later start arrival) NoEnd start

-- how many figures can climb still: the one of an arrival, unless it has no end
abbrev pub can_climb : Arrival → ℕ
can_climb NoPath = 1
can_climb (At x) = 1
can_climb NoEnd = 0

-- the latest kind between sweeps: a latch starts from what came to it, if that is later
abbrev pub latest_restarts : Restarts Arrival
latest_restarts = record { restart = latest_kind.join; climbs = is_later; without_end = endless_if_later }

-- the earliest kind between sweeps: a latch starts always from its opening edge
abbrev pub earliest_restarts : Restarts Arrival
earliest_restarts = record { restart = λ start arrival. start; climbs = λ start arrival. false; without_end = λ start arrival. start }
