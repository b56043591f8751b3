-- What the loops of `judge` keep.
use Rattle.std.proofs.Common.{length, ◌-◌}
use Rattle.verifying.proofs.Going.{Going}
use Rattle.verifying.proofs.verify.judge.Given as goal

-- so many rounds were made, and so many flags are set
abbrev pub invariant-loop-ends : goal.invariant-loop-ends
invariant-loop-ends g l =
    Going (g.R.CouplingRule.meaning l.rule) l.rows l.fn.flags l.fn.column l.flags l.column l.made l.set l.carried

-- the couplings whose flags are clear
abbrev pub decreases-loop-ends : goal.decreases-loop-ends
decreases-loop-ends g l = length l.rows.couplings.now - l.set
