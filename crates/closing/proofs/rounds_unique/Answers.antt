-- There is one way to make rounds.
use Rattle.closing.proofs.Decides.{runs_unique}
use Rattle.closing.proofs.rounds_unique.Goals as goal

pub returns-clause-theorem : goal.returns-clause-theorem
returns-clause-theorem c = runs_unique
