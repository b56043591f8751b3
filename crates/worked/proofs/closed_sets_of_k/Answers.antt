-- What the judgements of design K say of all sets of its couplings.
use Rattle.worked.proofs.Meaning.{closed_sets_of_k}
use Rattle.worked.proofs.closed_sets_of_k.Goals as goal

pub returns-clause-theorem : goal.returns-clause-theorem
returns-clause-theorem c = closed_sets_of_k
