-- The empty set lies within every closed set.
use Rattle.closing.proofs.Decides.{runs_from_empty}
use Rattle.closing.proofs.from_nothing.Goals as goal

pub returns-clause-theorem : goal.returns-clause-theorem
returns-clause-theorem c = runs_from_empty
