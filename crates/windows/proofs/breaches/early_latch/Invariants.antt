-- What the loops of `early_latch` keep.
use Rattle.std.proofs.Common.{◌≡◌, ℕ, ◌<◌, true}
use Rattle.kinds.specs.declared.arrival.Arrival.TheVariants.{NoPath}
use Rattle.windows.specs.Seen.{figure_at}
use Rattle.windows.specs.Breaches.{early_at}
use Rattle.windows.proofs.breaches.early_latch.Given as goal

-- no latch before this node is early
abbrev pub invariant-loop-v : goal.invariant-loop-v
invariant-loop-v l = (v : ℕ) → v < l.v → early_at l.circuit (figure_at NoPath l.column.figures.now) v ≡ true → ⊥
