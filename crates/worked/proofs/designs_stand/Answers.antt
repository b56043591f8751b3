-- The tables of the examples stand.
use Rattle.worked.proofs.Holding.{all_designs_stand}
use Rattle.worked.proofs.designs_stand.Goals as goal

pub returns-clause-theorem : goal.returns-clause-theorem
returns-clause-theorem c = all_designs_stand
