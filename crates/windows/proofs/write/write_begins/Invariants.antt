-- What the loops of `write_begins` keep.
use Rattle.std.proofs.Common.{◌≡◌, ℕ, ◌<◌, length, drop}
use Rattle.kinds.specs.declared.arrival.Arrival.TheVariants.{NoPath}
use Rattle.windows.specs.Seen.{figure_at}
use Rattle.windows.specs.Written.{begins_with, window_at}
use Rattle.windows.proofs.write.write_begins.Given as goal

-- the beginnings of the nodes before this one are written, and all ends are as they were
abbrev pub invariant-loop-v : goal.invariant-loop-v
invariant-loop-v l =
    record {
      long : length l.windows ≡ length l.fn.windows;
      beyond : drop (length l.circuit.nodes.now) l.windows ≡ drop (length l.circuit.nodes.now) l.fn.windows;
      begins : (v : ℕ) → v < l.v → (window_at l.windows v).begins ≡ begins_with l.circuit (figure_at NoPath l.column.figures.now) v;
      ends : (v : ℕ) → v < length l.circuit.nodes.now → (window_at l.windows v).ends ≡ (window_at l.fn.windows v).ends;
    }
