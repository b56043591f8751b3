-- What the loops of `of` keep.
use Rattle.windows.proofs.Blocking.{LedBelow, LedBefore}
use Rattle.windows.proofs.blocks.Leads.of.Given as goal

-- the connections to the nodes before this one are among the leads
abbrev pub invariant-loop-v : goal.invariant-loop-v
invariant-loop-v l = LedBelow l.nodes l.leads l.v

-- and those to this node from the sources before this one
abbrev pub invariant-loop-source : goal.invariant-loop-source
invariant-loop-source l = LedBelow l.nodes l.leads l.v × LedBefore l.source-items l.v l.leads l.source-index
