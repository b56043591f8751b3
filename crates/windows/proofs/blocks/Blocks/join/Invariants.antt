-- What the loop of `join` keeps.
use Rattle.windows.proofs.Blocking.{Joined}
use Rattle.windows.proofs.blocks.Blocks.join.Given as goal

-- the members below this block are added
abbrev pub invariant-loop-block : goal.invariant-loop-block
invariant-loop-block l = Joined l.fn.self.members l.other.members l.self.members l.block
