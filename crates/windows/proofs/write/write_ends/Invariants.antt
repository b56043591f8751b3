-- What the loops of `write_ends` keep.
use Rattle.std.proofs.Common.{◌≡◌, ℕ, ◌<◌, length, drop}
use Rattle.kinds.specs.declared.arrival.Arrival.TheVariants.{NoPath}
use Rattle.paths.specs.Sweeps.{leaving}
use Rattle.windows.specs.Seen.{figure_at, network_of}
use Rattle.windows.specs.Written.{tick_of, window_at}
use Rattle.windows.proofs.write.write_ends.Given as goal

-- the ends of the nodes before this one are written
abbrev pub invariant-loop-v : goal.invariant-loop-v
invariant-loop-v l =
    record {
      long : length l.windows ≡ length l.fn.windows;
      beyond : drop (network_of l.circuit).size l.windows ≡ drop (network_of l.circuit).size l.fn.windows;
      ends : (v : ℕ) → v < l.v → (window_at l.windows v).ends ≡ tick_of (leaving (network_of l.circuit) (figure_at NoPath l.starts) (figure_at NoPath l.column.figures.now) v);
    }
