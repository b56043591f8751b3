-- A gap of more than half a period is moved by a period.
use Rattle.std.proofs.Common.{arith}
use Rattle.std.proofs.lemmas.Int.{ints}
use Rattle.schedule.proofs.shift.nearest_to.Goals as goal

pub returns-then-gap-period : goal.returns-then-gap-period
returns-then-gap-period c = grind (arith, ints)

pub returns-then-gap-period-2 : goal.returns-then-gap-period-2
returns-then-gap-period-2 c = grind (arith, ints)
