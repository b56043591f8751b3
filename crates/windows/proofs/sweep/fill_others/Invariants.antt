-- What the loop of `fill_others` keeps.
use Rattle.std.proofs.Common.{◌≡◌, false, length}
use Rattle.windows.specs.Blocks.{nodes_before, Filled}
use Rattle.windows.specs.Seen.{figure_at, network_of, course_of}
use Rattle.windows.proofs.sweep.fill_others.Given as goal

-- the nodes of the block before this one that are no latches are filled
abbrev pub invariant-loop-v : goal.invariant-loop-v
invariant-loop-v g l =
    record {
      filled : Filled g.K.DelayKind.kind (network_of l.circuit) (course_of g.K.DelayKind.starts_with g.K.DelayKind.between l.circuit) (figure_at g.K.DelayKind.kind.no_path l.starts) false (nodes_before (length l.circuit.nodes.now) l.block) l.v l.fn.column l.column;
      same : l.changed ≡ false → l.column ≡ l.fn.column;
    }
