-- What the loops of `late_latch` keep.
use Rattle.std.proofs.Common.{◌≡◌, ℕ, ◌<◌, true}
use Rattle.kinds.specs.declared.arrival.Arrival.TheVariants.{NoPath}
use Rattle.windows.specs.Seen.{figure_at}
use Rattle.windows.specs.Breaches.{late_at}
use Rattle.windows.proofs.breaches.late_latch.Given as goal

-- no latch before this node is late
abbrev pub invariant-loop-v : goal.invariant-loop-v
invariant-loop-v l = (v : ℕ) → v < l.v → late_at l.circuit (figure_at NoPath l.column.figures.now) v ≡ true → ⊥
