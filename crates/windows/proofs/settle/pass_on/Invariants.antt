-- What the loop of `pass_on` keeps.
use Rattle.std.proofs.Common.{◌-◌, length}
use Rattle.windows.specs.Blocks.{nodes_before, ClimbsWake}
use Rattle.windows.specs.Rings.{PassedOn}
use Rattle.windows.specs.Seen.{figure_at, network_of}
use Rattle.windows.proofs.Blocking.{IsHere, reached}
use Rattle.windows.proofs.settle.pass_on.Given as goal

-- the latches of the blocks before the next one have passed on what came to them
abbrev pub invariant-loop-next : goal.invariant-loop-next
invariant-loop-next g l =
    let kind = g.K.DelayKind in
    let n = network_of l.circuit in
    record {
      passed : PassedOn kind.kind.no_path kind.restarts n l.made l.limit 0 (nodes_before (length l.circuit.nodes.now) (reached l.blocks l.next)) l.column.figures.now l.fn.starts l.starts l.climbs;
      woken : ClimbsWake kind.restarts n l.circuit.leads.now (nodes_before (length l.circuit.nodes.now) (reached l.blocks l.next)) (figure_at kind.kind.no_path l.fn.starts) (figure_at kind.kind.no_path l.column.figures.now) l.woken;
      here : IsHere l.stale l.blocks l.next;
    }

-- the blocks that are left
abbrev pub decreases-loop-next : goal.decreases-loop-next
decreases-loop-next g l = l.blocks - reached l.blocks l.next
