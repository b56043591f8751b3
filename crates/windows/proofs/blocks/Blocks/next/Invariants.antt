-- What the loop of `next` keeps.
use Rattle.std.proofs.Common.{◌≡◌, ℕ, ◌<◌, ◌≤◌, false}
use Rattle.windows.specs.Blocks.{has_block}
use Rattle.windows.proofs.blocks.Blocks.next.Given as goal

-- no block from the first one to this one is in the set
abbrev pub invariant-loop-block : goal.invariant-loop-block
invariant-loop-block l = (b : ℕ) → l.from ≤ b → b < l.block → has_block l.self b ≡ false
