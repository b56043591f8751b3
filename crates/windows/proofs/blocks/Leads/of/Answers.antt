-- The answers to what the check asks of `of`.
use Rattle.std.proofs.Common.{arith}
use Rattle.windows.proofs.Blocking.{below_grown, before_more, below_more_led}
use Rattle.windows.proofs.blocks.Leads.of.Goals as goal

pub loop-source-preserved : goal.loop-source-preserved
loop-source-preserved c = (
  below_grown _ _ c.add.ensures.kept c.loop-source.invariant.0,
  before_more _ _ c.add.ensures.kept c.loop-source-test.true (rw c.from.ensures at c.add.ensures.marked) c.loop-source.invariant.1,
)

pub loop-v-preserved : goal.loop-v-preserved
loop-v-preserved c = below_more_led c.sources-source-items.ensures (omega arith) c.loop-source.invariant.0 c.loop-source.invariant.1
