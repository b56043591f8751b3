-- What the loops of `arrival` keep.
use Rattle.std.proofs.Common.{◌≡◌, drop, map}
use Rattle.paths.specs.Kinds.{joined}
use Rattle.paths.specs.Sweeps.{along, arrival}
use Rattle.windows.specs.Seen.{figure_at, network_of, course_of}
use Rattle.windows.proofs.sweep.arrival.Given as goal

-- the figure so far, joined with what comes along the connections that are left, is the arrival
abbrev pub invariant-loop-source : goal.invariant-loop-source
invariant-loop-source g l =
    let kind = g.K.DelayKind.kind in
    let starts = figure_at kind.no_path l.starts in
    let column = figure_at kind.no_path l.column in
    let course = course_of g.K.DelayKind.starts_with g.K.DelayKind.between l.circuit in
    kind.join l.figure (joined kind (map (along kind (network_of l.circuit) course starts column l.v) (drop l.source-index l.source-items)))
    ≡ arrival kind (network_of l.circuit) course starts column l.v
