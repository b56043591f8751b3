-- What the loop of `visit_block` keeps.
use Rattle.std.proofs.Common.{length}
use Rattle.windows.specs.Blocks.{nodes_before}
use Rattle.windows.specs.InPlace.{VisitedInOrder}
use Rattle.windows.specs.Seen.{network_of, course_of}
use Rattle.windows.proofs.in_place.visit_block.Given as goal

-- the nodes of the block before this one are visited
abbrev pub invariant-loop-v : goal.invariant-loop-v
invariant-loop-v g l =
    let kind = g.K.DelayKind in
    VisitedInOrder kind.kind (network_of l.circuit) (course_of kind.starts_with kind.between l.circuit) kind.restarts (nodes_before (length l.circuit.nodes.now) l.block) l.v l.fn.leaves l.leaves l.changed
