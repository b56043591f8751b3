-- Each judgement is right.
use Rattle.judging.proofs.Meaning.{verdicts_are_right}
use Rattle.judging.proofs.verdicts_are_right.Goals as goal

pub returns-clause-theorem : goal.returns-clause-theorem
returns-clause-theorem c = verdicts_are_right
