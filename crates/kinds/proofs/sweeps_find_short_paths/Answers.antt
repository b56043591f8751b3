-- The answers to what the check asks of `sweeps_find_short_paths`.
use Rattle.paths.proofs.ShortPaths.{sweeps_short_paths}
use Rattle.kinds.proofs.sweeps_find_short_paths.Goals as goal

pub returns-clause-theorem : goal.returns-clause-theorem
returns-clause-theorem g c = λ n course starts column sound swept. sweeps_short_paths g.K.DelayKind.kind n course starts column g.met.K.DelayKind.laws sound swept
