-- A sorted slice is one that never falls.
use Rattle.schedule.proofs.Lists.{sorted_never_falls}
use Rattle.schedule.proofs.build.never_fall.Goals as goal

pub returns : goal.returns
returns c = sorted_never_falls _ _ c.is_sorted.ensures.cases
