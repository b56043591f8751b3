-- The answers to what the check asks of `fill`.
use Rattle.std.proofs.Common.{arith}
use Rattle.windows.proofs.Disturbing.{owned_none, owned_more, owned_beyond, owned_all}
use Rattle.windows.proofs.effective.Effective.fill.Goals as goal
use Rattle.windows.proofs.effective.Effective.fill.Goals.{then-v, else-v}

pub loop-v-init : goal.loop-v-init
loop-v-init g c = rw c.requires (owned_none g.row.N c.args.nodes.now)

pub loop-v-preserved : goal.loop-v-preserved
loop-v-preserved g c =
    elim c.if-v.branch [
      | then-v w ↦ rw (w.self-is, w.own_delays.ensures.delays) (owned_more g.row.N c.args.nodes.now c.loop-v.v c.loop-v.self.places (omega arith) (rw w.own_delays.ensures.delays at w.own_delays.ensures.small) c.loop-v.invariant)
      | else-v w ↦ rw w.self-is (owned_beyond g.row.N c.args.nodes.now c.loop-v.v c.loop-v.self.places (omega arith) c.loop-v.invariant)
    ]

pub returns : goal.returns
returns g c = record { delays = owned_all g.row.N c.args.nodes.now c.loop-v.v c.loop-v.self.places (omega arith) c.loop-v.invariant; small = c.loop-v.invariant.small }
