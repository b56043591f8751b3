-- The clock that a schedule frame asks for.
use Rattle.std.specs.Prelude.{ℕ, ◌+◌, ◌*◌, List, map}
use Rattle.std.specs.List.{range_with_len}
use Rattle.schedule.specs.Clock.{Clock, greatest_phases}
use Rattle.frames.specs.Frames.{number_at}

-- the starts of the first sixteen phases in the bytes that a schedule frame lists, 8 to a phase: the start, then the width
abbrev pub starts_in : List ℕ → List ℕ
starts_in listed = map (λ k. number_at 4 (8 * k) listed) (range_with_len 0 greatest_phases)

-- the widths of these phases
abbrev pub widths_in : List ℕ → List ℕ
widths_in listed = map (λ k. number_at 4 (8 * k + 4) listed) (range_with_len 0 greatest_phases)

-- the clock that a schedule frame asks for, lawful or not
abbrev pub clock_in : ℕ → ℕ → ℕ → List ℕ → Clock
clock_in period proximity count listed = record { period = period; proximity = proximity; phases = count; starts = starts_in listed; widths = widths_in listed }
