-- The answers to what the check asks of `windows_end`.
use Rattle.timing.proofs.windows_end.Goals as goal
use Rattle.timing.proofs.Grow.{windows_end}

pub returns-clause-theorem : goal.returns-clause-theorem
returns-clause-theorem c = windows_end
