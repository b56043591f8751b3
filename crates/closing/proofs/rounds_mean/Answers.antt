-- Rounds are few, and mean what they are to.
use Rattle.closing.proofs.Decides.{runs_mean}
use Rattle.closing.proofs.rounds_mean.Goals as goal

pub returns-clause-theorem : goal.returns-clause-theorem
returns-clause-theorem c = runs_mean
