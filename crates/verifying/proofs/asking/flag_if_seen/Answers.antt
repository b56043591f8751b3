-- The answers to what the check asks of `flag_if_seen`.
use Rattle.std.proofs.Common.{rules, ◌≡◌, Bool, true, false}
use Rattle.windows.specs.Carried.{window_in}
use Rattle.windows.specs.Effective.{is_flagged}
use Rattle.verifying.specs.Asking.{seen_in}
use Rattle.verifying.proofs.Flagging.{flagged_one}
use Rattle.verifying.proofs.Acting.{acted_one}
use Rattle.verifying.proofs.asking.flag_if_seen.Goals as goal

pub returns-clause-flagged : goal.returns-clause-flagged
returns-clause-flagged g c =
    let seen : Bool = seen_in c.args.rows.now.schedule.now c.args.rows.now.nodes.now (window_in c.args.carried.now) (g.R.CouplingRule.meaning c.args.rule.now) c.args.coupling.now in
    let clear : is_flagged c.args.flags.now c.args.place ≡ false = search rules in
    let seen_here : seen ≡ true = search rules in
    flagged_one seen c.args.place c.args.flags.now c.requires clear seen_here

pub returns-clause-acted : goal.returns-clause-acted
returns-clause-acted g c =
    acted_one c.args.place c.args.carried.now c.act.new.self c.args.flags.now _ (search rules) (search rules) (λ k apart. search rules) c.act.ensures.acts c.act.ensures.windows c.act.ensures.rows
