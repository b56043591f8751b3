-- The answers to what the check asks of `latest_settles`.
use Rattle.rings.proofs.latest_settles.Goals as goal
use Rattle.rings.proofs.Latest.{latest_settles}

pub returns-clause-theorem : goal.returns-clause-theorem
returns-clause-theorem c = latest_settles
