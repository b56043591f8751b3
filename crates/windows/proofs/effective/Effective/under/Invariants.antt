-- What the loop over couplings in `under` keeps.
use Rattle.std.proofs.Common.{ℕ, ◌≤◌, ◌<◌, length, drop}
use Rattle.timing.specs.Connections.{row}
use Rattle.timing.specs.Delays.{chosen_from, chosen}
use Rattle.windows.specs.Delays.{delays_at}
use Rattle.windows.specs.Effective.{is_flagged}
use Rattle.windows.proofs.Disturbing.{Summed}
use Rattle.windows.proofs.effective.Effective.under.Given as goal

-- the couplings so far have acted
abbrev pub invariant-loop-k : goal.invariant-loop-k
invariant-loop-k g l =
    length l.couplings ≤ 1024 → (v : ℕ) → v < g.row.N →
    Summed (row l.nodes v) (chosen (is_flagged l.flags) l.couplings) (chosen_from (is_flagged l.flags) l.k (drop l.k l.couplings)) v l.k (delays_at l.effective.places v)
