-- Rounds are few, and mean what they are to.
use Rattle.judging.proofs.Meaning.{rounds_are_right}
use Rattle.judging.proofs.rounds_are_right.Goals as goal

pub returns-clause-theorem : goal.returns-clause-theorem
returns-clause-theorem c = rounds_are_right
