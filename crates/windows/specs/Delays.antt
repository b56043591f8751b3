-- The delays that are kept for each node.
use Rattle.std.specs.Prelude.{ℕ, List, pos, slice_index_or}
use Rattle.kinds.specs.declared.timings.Delays.{Delays}

-- the delays at a place; a place that is not there has none
abbrev pub delays_at : List Delays → ℕ → Delays
delays_at places v = slice_index_or places v (record { least = pos 0; greatest = pos 0 })
