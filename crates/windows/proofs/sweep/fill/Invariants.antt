-- What the loops of `fill` keep.
use Rattle.std.proofs.Common.{◌≡◌, ◌-◌, ◌<◌, false, ◌⊎◌}
use Rattle.windows.specs.Blocks.{block_of}
use Rattle.windows.specs.Seen.{figure_at, network_of, course_of}
use Rattle.windows.proofs.Blocking.{IsHere, reached}
use Rattle.windows.proofs.Sweeping.{Filling}
use Rattle.windows.proofs.sweep.fill.Given as goal

-- of the nodes of the blocks before the next one those that are no latches are done
abbrev pub invariant-loop-next : goal.invariant-loop-next
invariant-loop-next g l =
    let n = network_of l.circuit in
    record {
      filling : Filling g.K.DelayKind.kind n (course_of g.K.DelayKind.starts_with g.K.DelayKind.between l.circuit) (figure_at g.K.DelayKind.kind.no_path l.starts)
          (λ v. (n.is_latch v ≡ false) × (block_of v < reached l.blocks l.next)) l.fn.stale l.stale l.fn.column l.column;
      here : IsHere l.stale l.blocks l.next;
    }

-- the blocks that are left
abbrev pub decreases-loop-next : goal.decreases-loop-next
decreases-loop-next g l = l.blocks - reached l.blocks l.next

-- all nodes that are no latches are done, and the latches of the blocks before the next one
abbrev pub invariant-loop-next-2 : goal.invariant-loop-next-2
invariant-loop-next-2 g l =
    let n = network_of l.circuit in
    record {
      filling : Filling g.K.DelayKind.kind n (course_of g.K.DelayKind.starts_with g.K.DelayKind.between l.circuit) (figure_at g.K.DelayKind.kind.no_path l.starts)
          (λ v. (n.is_latch v ≡ false) ⊎ (block_of v < reached l.blocks l.next)) l.fn.stale l.stale l.fn.column l.column;
      here : IsHere l.stale l.blocks l.next;
    }

-- the blocks that are left
abbrev pub decreases-loop-next-2 : goal.decreases-loop-next-2
decreases-loop-next-2 g l = l.blocks - reached l.blocks l.next
