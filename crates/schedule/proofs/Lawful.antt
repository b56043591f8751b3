-- How many phases a lawful clock has, and that each has its places.
use Rattle.std.proofs.Common.{◌≡◌, ◌≤◌, true, length, arith}
use Rattle.std.proofs.lemmas.Bool.Decides.{nat_tests}
use Rattle.schedule.specs.Clock.{Clock, lawful, greatest_phases}

pub phases_bounds : (c : Clock) → lawful c ≡ true → (1 ≤ c.phases) × (c.phases ≤ greatest_phases)
phases_bounds c h = (grind (arith, nat_tests), grind (arith, nat_tests))

-- a start and a width stand there for each phase
pub places_bounds : (c : Clock) → lawful c ≡ true → (c.phases ≤ length c.starts) × (c.phases ≤ length c.widths)
places_bounds c h = (grind (arith, nat_tests), grind (arith, nat_tests))
