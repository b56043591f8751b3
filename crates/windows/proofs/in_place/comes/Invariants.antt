-- What the loop of `comes` keeps.
use Rattle.std.proofs.Common.{◌≡◌, drop, map}
use Rattle.paths.specs.Kinds.{joined}
use Rattle.paths.specs.Sweeps.{along}
use Rattle.rings.specs.InPlace.{comes}
use Rattle.windows.specs.Seen.{figure_at, network_of, course_of}
use Rattle.windows.proofs.in_place.comes.Given as goal

-- the figure so far, joined with what comes along the connections that are left, is what comes to the node
abbrev pub invariant-loop-source : goal.invariant-loop-source
invariant-loop-source g l =
    let kind = g.K.DelayKind.kind in
    let leaves = figure_at kind.no_path l.leaves in
    let course = course_of g.K.DelayKind.starts_with g.K.DelayKind.between l.circuit in
    kind.join l.figure (joined kind (map (along kind (network_of l.circuit) course leaves leaves l.v) (drop l.source-index l.source-items)))
    ≡ comes kind (network_of l.circuit) course leaves l.v
