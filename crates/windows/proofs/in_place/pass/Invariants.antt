-- What the loop of `pass` keeps.
use Rattle.std.proofs.Common.{◌≡◌, ℕ, ◌-◌, ◌≤◌, length}
use Rattle.paths.specs.Networks.{Sound}
use Rattle.rings.specs.InPlace.{Visits}
use Rattle.windows.specs.Blocks.{nodes_before}
use Rattle.windows.specs.InPlace.{RestBut}
use Rattle.windows.specs.Seen.{figure_at, network_of, course_of}
use Rattle.windows.proofs.Blocking.{IsHere, reached}
use Rattle.windows.proofs.in_place.pass.Given as goal

-- no more visits were made than there are nodes in the blocks before the next one, and every node is at rest, but for those of stale blocks
abbrev pub invariant-loop-next : goal.invariant-loop-next
invariant-loop-next g l =
    let kind = g.K.DelayKind in
    let n = network_of l.circuit in
    let course = course_of kind.starts_with kind.between l.circuit in
    record {
      rest : Sound n → RestBut kind.kind n course kind.restarts (figure_at kind.kind.no_path l.fn.leaves) l.fn.stale → RestBut kind.kind n course kind.restarts (figure_at kind.kind.no_path l.leaves) l.stale;
      visits : (count : ℕ) × (count ≤ nodes_before (length l.circuit.nodes.now) (reached l.blocks l.next)) × Visits kind.kind n course kind.restarts count (figure_at kind.kind.no_path l.fn.leaves) (figure_at kind.kind.no_path l.leaves);
      long : length l.leaves ≡ length l.fn.leaves;
      here : IsHere l.stale l.blocks l.next;
    }

-- the blocks that are left
abbrev pub decreases-loop-next : goal.decreases-loop-next
decreases-loop-next g l = l.blocks - reached l.blocks l.next
