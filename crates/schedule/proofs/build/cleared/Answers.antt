-- The places that are not written hold zeros.
use Rattle.std.proofs.Common.{rules}
use Rattle.schedule.proofs.Cleared.{cleared_copy}
use Rattle.schedule.proofs.build.cleared.Goals as goal

pub returns : goal.returns
returns c = search (rules, cleared_copy)
