-- The late and the early figures of the paths in a table under a set of couplings.
use Rattle.std.specs.Prelude.{ℕ, Bool, ℤ, ◌-ℤ◌}
use Rattle.design.specs.Table.{Table}
use Rattle.paths.specs.Figures.{Measure, adding}
use Rattle.timing.specs.Connections.{row, shift_between, start_at}
use Rattle.timing.specs.Delays.{delays_under}

-- what a step adds to a late figure: the greatest delay of the node left, less the shift
abbrev pub late_gain : Table → (ℕ → Bool) → ℕ → ℕ → ℤ
late_gain t S k v = (delays_under t.nodes t.couplings S k).greatest -ℤ shift_between t.clock (row t.nodes k) (row t.nodes v)

-- what a late figure starts with: an input's latest time or a latch's opening edge
abbrev pub late_start : Table → ℕ → ℤ
late_start t v = (start_at t.clock (row t.nodes v)).latest

-- late figures as a measure: what a path starts with, and what each step adds
abbrev pub late : Table → (ℕ → Bool) → Measure ℤ
late t S = adding (late_start t) (late_gain t S)

-- what a step adds to an early figure: the least delay of the node left, less the shift
abbrev pub early_gain : Table → (ℕ → Bool) → ℕ → ℕ → ℤ
early_gain t S k v = (delays_under t.nodes t.couplings S k).least -ℤ shift_between t.clock (row t.nodes k) (row t.nodes v)

-- what an early figure starts with: an input's earliest time or a latch's opening edge
abbrev pub early_start : Table → ℕ → ℤ
early_start t v = (start_at t.clock (row t.nodes v)).earliest

-- early figures as a measure: what a path starts with, and what each step adds
abbrev pub early : Table → (ℕ → Bool) → Measure ℤ
early t S = adding (early_start t) (early_gain t S)
