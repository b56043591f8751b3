-- What the loops of `flag_seen` keep.
use Rattle.windows.specs.Carried.{window_in}
use Rattle.verifying.specs.Asking.{seen_in, Acted}
use Rattle.verifying.proofs.Flagging.{Flagging}
use Rattle.verifying.proofs.asking.flag_seen.Given as goal

-- the couplings before this one are looked at
abbrev pub invariant-loop-k : goal.invariant-loop-k
invariant-loop-k g l =
    Flagging (seen_in l.rows.schedule.now l.rows.nodes.now (window_in l.fn.carried) (g.R.CouplingRule.meaning l.rule)) l.rows.couplings.now l.fn.flags l.flags l.k l.fresh
    × Acted l.k l.fn.carried l.carried l.fn.flags l.flags l.fresh
