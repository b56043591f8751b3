-- The answers to what the check asks of `earliest_settles`.
use Rattle.rings.proofs.earliest_settles.Goals as goal
use Rattle.rings.proofs.Earliest.{earliest_settles}

pub returns-clause-theorem : goal.returns-clause-theorem
returns-clause-theorem c = earliest_settles
