-- What the loop of `latest_arrived` keeps.
use Rattle.std.proofs.Common.{◌≡◌, ℕ, ◌<◌, length, drop}
use Rattle.kinds.specs.declared.arrival.Arrival.TheVariants.{NoPath}
use Rattle.windows.specs.Rounds.{arriving}
use Rattle.windows.specs.Seen.{figure_at}
use Rattle.windows.proofs.rounds.latest_arrived.Given as goal

-- the places of the nodes before this one are filled
abbrev pub invariant-loop-v : goal.invariant-loop-v
invariant-loop-v l =
    record {
      long : length l.column ≡ length l.fn.column;
      beyond : drop (length l.circuit.nodes.now) l.column ≡ drop (length l.circuit.nodes.now) l.fn.column;
      at : (v : ℕ) → v < l.v → figure_at NoPath l.column v ≡ (arriving l.circuit l.leaves v).latest;
    }
