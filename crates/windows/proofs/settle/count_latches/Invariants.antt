-- What the loops of `count_latches` keep.
use Rattle.std.proofs.Common.{◌≡◌, ◌≤◌}
use Rattle.closing.specs.Sets.{count}
use Rattle.windows.specs.Seen.{network_of}
use Rattle.windows.proofs.settle.count_latches.Given as goal

-- the latches before this node are counted
abbrev pub invariant-loop-v : goal.invariant-loop-v
invariant-loop-v l = (l.count ≡ count l.v (network_of l.circuit).is_latch) × (l.count ≤ l.v)
