-- What the loop of `fill_latches` keeps.
use Rattle.std.proofs.Common.{true, length}
use Rattle.windows.specs.Blocks.{nodes_before, Filled}
use Rattle.windows.specs.Seen.{figure_at, network_of, course_of}
use Rattle.windows.proofs.sweep.fill_latches.Given as goal

-- the latches of the block before this node are filled
abbrev pub invariant-loop-v : goal.invariant-loop-v
invariant-loop-v g l = Filled g.K.DelayKind.kind (network_of l.circuit) (course_of g.K.DelayKind.starts_with g.K.DelayKind.between l.circuit) (figure_at g.K.DelayKind.kind.no_path l.starts) true (nodes_before (length l.circuit.nodes.now) l.block) l.v l.fn.column l.column
