-- The answers to what the check asks of `flag_seen`.
use Rattle.std.proofs.Common.{◌≡◌, length, slice_index_or, arith}
use Rattle.design.specs.Rows.{no_coupling}
use Rattle.windows.specs.Carried.{window_in}
use Rattle.verifying.specs.Asking.{seen_in, Acted}
use Rattle.verifying.proofs.Flagging.{flagging_none, flagging_more, flagging_all, fresh_one}
use Rattle.verifying.proofs.Acting.{acted_none, acted_more, seen_same}
use Rattle.verifying.proofs.asking.flag_seen.Goals as goal

pub loop-k-init : goal.loop-k-init
loop-k-init g c = (
  flagging_none (seen_in c.args.rows.now.schedule.now c.args.rows.now.nodes.now (window_in c.args.carried.now) (g.R.CouplingRule.meaning c.args.rule.now)) c.args.rows.now.couplings.now c.args.flags.now,
  acted_none 0 c.args.carried.now c.args.flags.now,
)

pub overflow_add-fresh : goal.overflow_add-fresh
overflow_add-fresh g c =
    let seen = seen_in c.args.rows.now.schedule.now c.args.rows.now.nodes.now (window_in c.loop-k.carried) (g.R.CouplingRule.meaning c.args.rule.now) (slice_index_or c.args.rows.now.couplings.now c.loop-k.k no_coupling) in
    let flagging = c.loop-k.invariant.0 in
    omega (arith, flagging.few, fresh_one {seen = seen} c.flag_if_seen-fresh.ensures.flagged, c.loop-k-test.true)

pub loop-k-preserved : goal.loop-k-preserved
loop-k-preserved g c =
    let windows = c.loop-k.invariant.1.windows in
    let same = seen_same c.args.rows.now.schedule.now c.args.rows.now.nodes.now (g.R.CouplingRule.meaning c.args.rule.now) c.args.carried.now c.loop-k.carried (slice_index_or c.args.rows.now.couplings.now c.loop-k.k no_coupling) windows in (
      flagging_more (seen_in c.args.rows.now.schedule.now c.args.rows.now.nodes.now (window_in c.args.carried.now) (g.R.CouplingRule.meaning c.args.rule.now)) c.args.rows.now.couplings.now c.args.flags.now c.loop-k.flags c.flag_if_seen-fresh.new.flags c.loop-k.k c.loop-k.fresh c.flag_if_seen-fresh.result c.loop-k-test.true c.loop-k.invariant.0
          (rw same at c.flag_if_seen-fresh.ensures.flagged),
      acted_more c.loop-k.k c.loop-k.fresh c.flag_if_seen-fresh.result c.args.carried.now c.loop-k.carried c.flag_if_seen-fresh.new.carried c.args.flags.now c.loop-k.flags c.flag_if_seen-fresh.new.flags c.loop-k.invariant.1 c.flag_if_seen-fresh.ensures.acted,
    )

pub returns-clause-flagged : goal.returns-clause-flagged
returns-clause-flagged g c =
    flagging_all (seen_in c.args.rows.now.schedule.now c.args.rows.now.nodes.now (window_in c.args.carried.now) (g.R.CouplingRule.meaning c.args.rule.now)) c.args.rows.now.couplings.now c.args.flags.now c.loop-k.flags c.loop-k.k c.loop-k.fresh (omega (arith, c.loop-k-test.false, c.loop-k.auto.k-end)) c.loop-k.invariant.0

pub returns-clause-acted : goal.returns-clause-acted
returns-clause-acted g c =
    let all : c.loop-k.k ≡ length c.args.rows.now.couplings.now = omega (arith, c.loop-k-test.false, c.loop-k.auto.k-end) in
    let acted : Acted c.loop-k.k c.args.carried.now c.loop-k.carried c.args.flags.now c.loop-k.flags c.loop-k.fresh = c.loop-k.invariant.1 in
    rw all at acted
