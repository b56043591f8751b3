-- What the loop of `leave_latest` keeps.
use Rattle.std.proofs.Common.{◌≡◌, ℕ, ◌<◌, ◌≤◌, length}
use Rattle.kinds.specs.declared.arrival.Arrival.TheVariants.{NoPath}
use Rattle.kinds.specs.Both.{both_kind}
use Rattle.paths.specs.Sweeps.{leaving}
use Rattle.windows.specs.Rounds.{late_in, early_in}
use Rattle.windows.specs.Seen.{figure_at, network_of}
use Rattle.windows.proofs.rounds.leave_latest.Given as goal

-- the nodes before this one are left with what the sweeps found, and the others as they were
abbrev pub invariant-loop-v : goal.invariant-loop-v
invariant-loop-v l =
    record {
      long : length l.leaves ≡ length l.fn.leaves;
      found : (v : ℕ) → v < l.v → late_in l.leaves v ≡ leaving (network_of l.circuit) (figure_at NoPath l.starts) (figure_at NoPath l.column.figures.now) v;
      kept : (v : ℕ) → v < l.v → early_in l.leaves v ≡ early_in l.fn.leaves v;
      rest : (v : ℕ) → l.v ≤ v → figure_at both_kind.no_path l.leaves v ≡ figure_at both_kind.no_path l.fn.leaves v;
    }
