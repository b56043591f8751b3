-- The answers to what the check asks of `arrival`.
use Rattle.windows.proofs.Sweeping.{join_next}
use Rattle.windows.proofs.sweep.arrival.Goals as goal

pub loop-source-preserved : goal.loop-source-preserved
loop-source-preserved g c =
    rw (c.join-figure.ensures, c.along.ensures, c.from-from.ensures)
    (join_next g.K.DelayKind.kind g.met.K.DelayKind.laws _ c.loop-source.figure _ c.sources-source-items.result.now c.loop-source.source-index c.loop-source-test.true c.loop-source.invariant)
