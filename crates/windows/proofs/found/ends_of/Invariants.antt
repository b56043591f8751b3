-- What the loops of `ends_of` keep.
use Rattle.std.proofs.Common.{ℕ, ◌<◌}
use Rattle.windows.specs.Found.{StartsWithoutEnd}
use Rattle.windows.proofs.found.ends_of.Given as goal

-- no latch before this node starts without an end
abbrev pub invariant-loop-v : goal.invariant-loop-v
invariant-loop-v l = (v : ℕ) → v < l.v → StartsWithoutEnd l.nodes l.starts v → ⊥
