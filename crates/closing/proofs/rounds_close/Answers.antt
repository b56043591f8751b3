-- Rounds can be made, and mean what they are to.
use Rattle.closing.proofs.Decides.{runs_close}
use Rattle.closing.proofs.rounds_close.Goals as goal

pub returns-clause-theorem : goal.returns-clause-theorem
returns-clause-theorem c = runs_close
