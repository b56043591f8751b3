-- A lawful clock stays lawful when the places past its last phase are cleared.
use Rattle.std.proofs.Common.{◌≡◌, true, arith, rules}
use Rattle.schedule.specs.Clock.{lawful}
use Rattle.schedule.specs.Made.{drawn}
use Rattle.schedule.proofs.Cleared.{cleared-lawful, cleared_twice}
use Rattle.schedule.proofs.Lawful.{places_bounds}
use Rattle.schedule.proofs.Schedule.new.Goals as goal

pub invariant_of-result : goal.invariant_of-result
invariant_of-result c =
    let h : lawful (drawn c.args.figures.now) ≡ true = search rules in
    let law = cleared-lawful (drawn c.args.figures.now) h in
    grind (arith, places_bounds, cleared_twice)
