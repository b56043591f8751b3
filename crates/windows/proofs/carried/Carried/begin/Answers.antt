-- The answers to what the check asks of `begin`.
use Rattle.windows.proofs.carried.Carried.begin.Goals as goal

pub returns : goal.returns
returns g c = (c.fill.ensures.rows, c.fill.ensures.carries)
