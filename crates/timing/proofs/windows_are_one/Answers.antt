-- The answers to what the check asks of `windows_are_one`.
use Rattle.timing.proofs.windows_are_one.Goals as goal
use Rattle.timing.proofs.Grow.{windows_are_one}

pub returns-clause-theorem : goal.returns-clause-theorem
returns-clause-theorem c = windows_are_one
