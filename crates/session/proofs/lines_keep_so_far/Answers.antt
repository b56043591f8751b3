-- Each line leaves a table so far.
use Rattle.session.proofs.Reaching.{lines_keep_so_far}
use Rattle.session.proofs.lines_keep_so_far.Goals as goal

pub returns-clause-theorem : goal.returns-clause-theorem
returns-clause-theorem c = lines_keep_so_far
