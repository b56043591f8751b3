-- The answers to what the check asks of `spreads`.
use Rattle.paths.proofs.spreads.Goals as goal
use Rattle.paths.proofs.Steps.{spreads}

pub returns-clause-theorem : goal.returns-clause-theorem
returns-clause-theorem c = spreads
