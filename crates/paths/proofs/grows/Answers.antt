-- The answers to what the check asks of `grows`.
use Rattle.paths.proofs.grows.Goals as goal
use Rattle.paths.proofs.Steps.{grows}

pub returns-clause-theorem : goal.returns-clause-theorem
returns-clause-theorem c = grows
