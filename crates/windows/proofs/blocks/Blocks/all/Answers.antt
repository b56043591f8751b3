-- The answers to what the check asks of `all`.
use Rattle.std.proofs.Common.{true, false}
use Rattle.std.proofs.lemmas.List.{get_or-replicate}
use Rattle.windows.proofs.blocks.Blocks.all.Goals as goal

pub returns : goal.returns
returns c = λ b lt. get_or-replicate 256 b true false lt
