-- What the loop over rows in `fill` keeps.
use Rattle.windows.proofs.Disturbing.{Owned}
use Rattle.windows.proofs.effective.Effective.fill.Given as goal

-- the rows so far are done
abbrev pub invariant-loop-v : goal.invariant-loop-v
invariant-loop-v g l = Owned g.row.N l.nodes l.v l.self.places
