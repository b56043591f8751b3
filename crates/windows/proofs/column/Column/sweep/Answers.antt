-- The answers to what the check asks of `sweep`.
use Rattle.paths.proofs.ShortPaths.{sweeps_short_paths}
use Rattle.windows.specs.Seen.{figure_at, network_of, course_of}
use Rattle.windows.proofs.column.Column.sweep.Goals as goal

pub returns-clause-short_paths : goal.returns-clause-short_paths
returns-clause-short_paths g c = λ sound fresh.
    let kind = g.K.DelayKind in
    sweeps_short_paths kind.kind (network_of c.args.circuit.now) (course_of kind.starts_with kind.between c.args.circuit.now) (figure_at kind.kind.no_path c.args.starts.now) (figure_at kind.kind.no_path c.fill.new.column)
    g.met.K.DelayKind.laws sound (c.fill.ensures.swept sound fresh)
