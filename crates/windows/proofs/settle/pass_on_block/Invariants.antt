-- What the loop of `pass_on_block` keeps.
use Rattle.std.proofs.Common.{length}
use Rattle.windows.specs.Blocks.{nodes_before}
use Rattle.windows.specs.Rings.{PassedOn}
use Rattle.windows.specs.Seen.{network_of}
use Rattle.windows.proofs.settle.pass_on_block.Given as goal

-- the latches of the block before this node have passed on what came to them
abbrev pub invariant-loop-v : goal.invariant-loop-v
invariant-loop-v g l =
    let kind = g.K.DelayKind in
    PassedOn kind.kind.no_path kind.restarts (network_of l.circuit) l.made l.limit (nodes_before (length l.circuit.nodes.now) l.block) l.v l.column.figures.now l.fn.starts l.starts l.climbs
