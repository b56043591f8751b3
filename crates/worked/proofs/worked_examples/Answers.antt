-- Every worked example holds.
use Rattle.worked.proofs.Holding.{examples_hold}
use Rattle.worked.proofs.worked_examples.Goals as goal

pub returns-clause-theorem : goal.returns-clause-theorem
returns-clause-theorem c = examples_hold
