-- The answers to what the check asks of `judge`.
use Rattle.std.proofs.Common.{◌≡◌, ◌+◌, Ok, refl, sym, subst, ap, ◌∙◌, arith}
use Rattle.windows.specs.Carried.{RoundWritten}
use Rattle.verifying.proofs.Going.{going_none, going_more, fewer_left, set_most, ends_apart, begin_stands, find_stands, finish_stands, answered_endless, answered_at_rest}
use Rattle.verifying.proofs.verify.judge.Goals as goal
use Rattle.verifying.proofs.verify.judge.Goals.{in-NoneAt, in_default+then-fresh-eq0}

pub returns-in-Err : goal.returns-in-Err
returns-in-Err g c = begin_stands c.args.rows.now g.row.N c.in-Err.refused c.requires.room (omega (arith, c.requires.room, c.requires.size)) c.in-Err.ensures

pub loop-ends-init : goal.loop-ends-init
loop-ends-init g c = going_none (g.R.CouplingRule.meaning c.args.rule.now) c.args.rows.now c.args.flags.now c.args.column.now c.clear.new.flags c.in-Ok.carried (g.met.R.CouplingRule.lawful c.args.rule.now) c.clear.ensures c.in-Ok.ensures

pub returns-in_err-ends : goal.returns-in_err-ends
returns-in_err-ends g c = absurd (find_stands c.loop-ends.invariant c.find.new.self c.find.new.column _ c.requires.column_fits c.in_err-ends.ensures)

pub overflow_add-ends : goal.overflow_add-ends
overflow_add-ends g c = omega (arith, set_most c.loop-ends.invariant, c.requires.few_couplings, c.loop-ends.invariant.fewer)

pub overflow_add-ends-then-fresh-eq0 : goal.overflow_add-ends-then-fresh-eq0
overflow_add-ends-then-fresh-eq0 g c = omega (arith, set_most c.loop-ends.invariant, c.requires.few_couplings, c.loop-ends.invariant.fewer)

pub overflow_add-set : goal.overflow_add-set
overflow_add-set g c =
    let most = set_most (going_more c.loop-ends.invariant c.find.new.self c.find.new.column c.in_ok-ends.ends c.in_ok-ends.ensures c.in_default.is c.flag_seen-fresh.new.carried c.flag_seen-fresh.new.flags c.flag_seen-fresh.result c.flag_seen-fresh.ensures.flagged c.flag_seen-fresh.ensures.acted c.if-fresh-eq0.false) in
    omega (arith, most, c.requires.few_couplings)

pub overflow_add-made : goal.overflow_add-made
overflow_add-made g c = omega (arith, set_most c.loop-ends.invariant, c.requires.few_couplings, c.loop-ends.invariant.fewer)

pub loop-ends-smaller : goal.loop-ends-smaller
loop-ends-smaller g c =
    fewer_left c.loop-ends.invariant c.find.new.self c.find.new.column c.in_ok-ends.ends c.in_ok-ends.ensures c.in_default.is c.flag_seen-fresh.new.carried c.flag_seen-fresh.new.flags c.flag_seen-fresh.result c.flag_seen-fresh.ensures.flagged c.flag_seen-fresh.ensures.acted c.if-fresh-eq0.false

pub loop-ends-preserved : goal.loop-ends-preserved
loop-ends-preserved g c =
    going_more c.loop-ends.invariant c.find.new.self c.find.new.column c.in_ok-ends.ends c.in_ok-ends.ensures c.in_default.is c.flag_seen-fresh.new.carried c.flag_seen-fresh.new.flags c.flag_seen-fresh.result c.flag_seen-fresh.ensures.flagged c.flag_seen-fresh.ensures.acted c.if-fresh-eq0.false

pub overflow_cast-counted : goal.overflow_cast-counted
overflow_cast-counted g c = omega (arith, set_most c.loop-ends.invariant, c.requires.few_couplings)

pub returns-in-NoneAt-ends : goal.returns-in-NoneAt-ends
returns-in-NoneAt-ends g c =
    elim c.match-ends.branch [
      | in-NoneAt w ↦
          let ends : c.match-ends.ends.0 ≡ c.in_ok-ends.ends = ap (λ p. p.0) w.ends-is in
          let rounds : c.match-ends.ends.1 ≡ c.loop-ends.made + 1 = ap (λ p. p.1) w.ends-is in
          rw w.flags-is
          (answered_endless c.loop-ends.invariant c.find.new.self c.find.new.column c.in_ok-ends.ends c.in_ok-ends.ensures c.in-NoneAt-ends.latch (sym ends ∙ c.in-NoneAt-ends.is) (g.met.R.CouplingRule.lawful c.args.rule.now) c.args.windows.now _ rounds refl c.verdict_of.ensures)
      | in_default+then-fresh-eq0 w ↦
          let ends : c.match-ends.ends.0 ≡ c.in_ok-ends.ends = ap (λ p. p.0) w.ends-is in
          absurd (ends_apart w.in_default.is (sym ends ∙ c.in-NoneAt-ends.is))
    ]

pub returns-in_err-checked : goal.returns-in_err-checked
returns-in_err-checked g c =
    elim c.match-ends.branch [
      | in-NoneAt w ↦
          let ends : c.match-ends.ends.0 ≡ c.in_ok-ends.ends = ap (λ p. p.0) w.ends-is in
          absurd (ends_apart (sym ends ∙ c.in_default-ends.is) w.in-NoneAt.is)
      | in_default+then-fresh-eq0 w ↦
          absurd
          (finish_stands c.loop-ends.invariant c.find.new.self c.find.new.column c.in_ok-ends.ends c.in_ok-ends.ensures w.in_default.is w.flag_seen-fresh.new.carried w.flag_seen-fresh.new.flags w.flag_seen-fresh.result w.flag_seen-fresh.ensures.flagged w.flag_seen-fresh.ensures.acted
          c.args.windows.now c.finish.new.windows c.finish.new.column _ c.requires.windows_fit c.requires.column_fits (rw w.carried-is at c.in_err-checked.ensures))
    ]

pub returns : goal.returns
returns g c =
    elim c.match-ends.branch [
      | in-NoneAt w ↦
          let ends : c.match-ends.ends.0 ≡ c.in_ok-ends.ends = ap (λ p. p.0) w.ends-is in
          absurd (ends_apart (sym ends ∙ c.in_default-ends.is) w.in-NoneAt.is)
      | in_default+then-fresh-eq0 w ↦
          let rounds : c.match-ends.ends.1 ≡ c.loop-ends.made + 1 = ap (λ p. p.1) w.ends-is in
          let written : RoundWritten c.match-ends.carried c.args.windows.now c.finish.new.windows c.find.new.column c.finish.new.column (Ok c.in_ok-checked.checked) = c.in_ok-checked.ensures in
          let carried_written : RoundWritten w.flag_seen-fresh.new.carried c.args.windows.now c.finish.new.windows c.find.new.column c.finish.new.column (Ok c.in_ok-checked.checked) = subst (λ x. RoundWritten x c.args.windows.now c.finish.new.windows c.find.new.column c.finish.new.column (Ok c.in_ok-checked.checked)) w.carried-is written in
          rw w.flags-is
          (answered_at_rest c.loop-ends.invariant c.find.new.self c.find.new.column c.in_ok-ends.ends c.in_ok-ends.ensures w.in_default.is w.flag_seen-fresh.new.carried w.flag_seen-fresh.new.flags w.flag_seen-fresh.result w.flag_seen-fresh.ensures.flagged w.flag_seen-fresh.ensures.acted
          (g.met.R.CouplingRule.lawful c.args.rule.now) c.args.windows.now c.finish.new.windows c.finish.new.column _ w.if-fresh-eq0.true rounds refl c.in_ok-checked.checked carried_written c.verdict_of-2.ensures)
    ]
