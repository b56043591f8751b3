-- What the loops of `start_all` keep.
use Rattle.windows.specs.Rings.{Started, first_of}
use Rattle.windows.proofs.settle.start_all.Given as goal

-- the nodes before this one are opened
abbrev pub invariant-loop-v : goal.invariant-loop-v
invariant-loop-v g l = Started g.K.DelayKind.kind.no_path (first_of g.K.DelayKind.starts_with l.circuit) l.v l.fn.starts l.starts
