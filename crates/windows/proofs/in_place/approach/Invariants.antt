-- What the loop of `approach` keeps.
use Rattle.std.proofs.Common.{◌≡◌, ℕ, ◌-◌, ◌*◌, ◌≤◌, length}
use Rattle.paths.specs.Networks.{Sound}
use Rattle.rings.specs.InPlace.{Visits}
use Rattle.windows.specs.InPlace.{RestBut}
use Rattle.windows.specs.Seen.{figure_at, network_of, course_of}
use Rattle.windows.proofs.in_place.approach.Given as goal

-- no pass made more than 4096 visits, and every node is at rest, but for those of stale blocks
abbrev pub invariant-loop-blocks : goal.invariant-loop-blocks
invariant-loop-blocks g l =
    let kind = g.K.DelayKind in
    let n = network_of l.circuit in
    let course = course_of kind.starts_with kind.between l.circuit in
    record {
      rest : Sound n → RestBut kind.kind n course kind.restarts (figure_at kind.kind.no_path l.fn.leaves) l.fn.stale → RestBut kind.kind n course kind.restarts (figure_at kind.kind.no_path l.leaves) l.stale;
      visits : (count : ℕ) × (count ≤ 4096 * l.passes) × Visits kind.kind n course kind.restarts count (figure_at kind.kind.no_path l.fn.leaves) (figure_at kind.kind.no_path l.leaves);
      long : length l.leaves ≡ length l.fn.leaves;
      made : l.passes ≤ 16;
    }

-- the passes that are left
abbrev pub decreases-loop-blocks : goal.decreases-loop-blocks
decreases-loop-blocks g l = 16 - l.passes
