-- What the loop of `open_latches` keeps.
use Rattle.windows.specs.Rings.{OpenedLatches}
use Rattle.windows.proofs.carrying.open_latches.Given as goal

-- the latches before this node are opened
abbrev pub invariant-loop-v : goal.invariant-loop-v
invariant-loop-v l = OpenedLatches l.circuit l.v l.fn.leaves l.leaves
