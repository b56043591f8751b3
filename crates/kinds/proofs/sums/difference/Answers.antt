-- The answers to what the check asks of `difference`.
use Rattle.std.proofs.Common.{◌+ℤ◌, ◌-ℤ◌, arith}
use Rattle.std.proofs.lemmas.Int.{ints, clamps}
use Rattle.kinds.specs.Laws.{clamped}
use Rattle.kinds.proofs.sums.difference.Goals as goal

pub returns : goal.returns
returns c = omega (arith, ints, clamps, clamped (c.args.x -ℤ c.args.y), c.clamp.ensures.value, c.from.ensures, c.from-2.ensures, c.from-3.ensures, c.from-4.ensures, c.ranges.x.sfits, c.ranges.y.sfits)
