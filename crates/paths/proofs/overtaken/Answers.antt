-- The answers to what the check asks of `overtaken`.
use Rattle.paths.proofs.overtaken.Goals as goal
use Rattle.paths.proofs.Loops.{overtaken}

pub returns-clause-theorem : goal.returns-clause-theorem
returns-clause-theorem c = overtaken
