-- The answers to what the check asks of `none`.
use Rattle.windows.proofs.Blocking.{none_has}
use Rattle.windows.proofs.blocks.Blocks.none.Goals as goal

pub returns : goal.returns
returns c = none_has 256
