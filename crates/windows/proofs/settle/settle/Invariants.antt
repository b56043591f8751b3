-- What the loops of `settle` keep.
use Rattle.std.proofs.Common.{◌≡◌, ◌≤◌, ◌+◌, ◌-◌, ◌*◌, length, drop}
use Rattle.paths.specs.Networks.{Sound, latch_count}
use Rattle.rings.specs.Settling.{Restarted}
use Rattle.windows.specs.Blocks.{FreshBut, StillBut}
use Rattle.windows.specs.Seen.{figure_at, network_of, course_of}
use Rattle.windows.specs.Rings.{first_of}
use Rattle.windows.proofs.Settles.{climbing}
use Rattle.windows.proofs.settle.settle.Given as goal

-- Latches start from what is next for them after the sweeps made so far, and the last sweep holds still but for stale blocks. With each sweep the count of sweeps grows by one, and what is left of the limit and of the figures that can climb falls.
abbrev pub invariant-loop-stale : goal.invariant-loop-stale
invariant-loop-stale g l =
    let kind = g.K.DelayKind in
    let n = network_of l.circuit in
    let starts = figure_at kind.kind.no_path l.starts in
    record {
      limited : l.limit ≡ latch_count n * kind.FIGURES;
      restarted : Sound n → Restarted kind.kind n (course_of kind.starts_with kind.between l.circuit) kind.restarts l.limit (first_of kind.starts_with l.circuit) l.made starts;
      fresh : Sound n → FreshBut kind.kind n (course_of kind.starts_with kind.between l.circuit) starts (figure_at kind.kind.no_path l.column.figures.now) l.stale;
      still : StillBut kind.restarts n starts (figure_at kind.kind.no_path l.column.figures.now) l.stale;
      bounded : l.made + ((l.limit - l.made) + climbing kind.can_climb n.size starts) ≤ 2088960;
      starts_long : length l.starts ≡ length l.fn.starts;
      same_slice : l.column.figures.ghost_name ≡ l.fn.column.figures.ghost_name;
      same_length : length l.column.figures.now ≡ length l.fn.column.figures.now;
      beyond : drop n.size l.column.figures.now ≡ drop n.size l.fn.column.figures.now;
    }

-- what is left of the limit, and of the figures that can climb
abbrev pub decreases-loop-stale : goal.decreases-loop-stale
decreases-loop-stale g l = (l.limit - l.made) + climbing g.K.DelayKind.can_climb (network_of l.circuit).size (figure_at g.K.DelayKind.kind.no_path l.starts)
