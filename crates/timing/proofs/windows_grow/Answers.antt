-- The answers to what the check asks of `windows_grow`.
use Rattle.timing.proofs.windows_grow.Goals as goal
use Rattle.timing.proofs.Grow.{windows_grow}

pub returns-clause-theorem : goal.returns-clause-theorem
returns-clause-theorem c = windows_grow
