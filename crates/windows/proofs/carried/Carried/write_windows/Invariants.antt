-- What the loop of `write_windows` keeps.
use Rattle.std.proofs.Common.{◌≡◌, ℕ, ◌<◌, length, drop}
use Rattle.windows.specs.Carried.{window_in}
use Rattle.windows.specs.Written.{window_at}
use Rattle.windows.proofs.carried.Carried.write_windows.Given as goal

-- the windows of the nodes before this one are written
abbrev pub invariant-loop-v : goal.invariant-loop-v
invariant-loop-v g l =
    record {
      long : length l.windows ≡ length l.fn.windows;
      beyond : drop (length l.self.rows.nodes.now) l.windows ≡ drop (length l.self.rows.nodes.now) l.fn.windows;
      at : (v : ℕ) → v < l.v → window_at l.windows v ≡ window_in l.self v;
    }
