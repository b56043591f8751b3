-- There is at most one output.
use Rattle.session.proofs.Unique.{one_output}
use Rattle.session.proofs.one_output.Goals as goal

pub returns-clause-theorem : goal.returns-clause-theorem
returns-clause-theorem c = one_output
