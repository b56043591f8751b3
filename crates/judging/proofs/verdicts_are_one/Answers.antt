-- There is at most one judgement.
use Rattle.judging.proofs.Uniqueness.{verdicts_are_one}
use Rattle.judging.proofs.verdicts_are_one.Goals as goal

pub returns-clause-theorem : goal.returns-clause-theorem
returns-clause-theorem c = verdicts_are_one
