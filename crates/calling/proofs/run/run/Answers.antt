-- The answers to what the checker asks of running a list of calls.
use Rattle.std.proofs.Common.{arith, rules}
use Rattle.schedule.specs.Made.{drawn}
use Rattle.design.specs.Table.{loan_in}
use Rattle.judging.proofs.Meaning.{verdicts_are_right}
use Rattle.calling.specs.Applied.{results_in, lent_rows}
use Rattle.calling.proofs.Histories.{reached_none, reached_more, reached_all, too_few}
use Rattle.calling.proofs.run.run.Goals as goal

pub returns-then-answers-requests-clause-answers : goal.returns-then-answers-requests-clause-answers
returns-then-answers-requests-clause-answers g c =
    let results = results_in c.args.results.now in
    let loan = loan_in c.args.tables.now in
    let all = lent_rows loan results in
    too_few g.R.CouplingRule.meaning all loan (drawn c.args.figures.now) results c.args.requests.now c.args.answers.now c.in_ok-_lawful.ensures.0 c.if-answers-requests.true

pub loop-k-init : goal.loop-k-init
loop-k-init g c = search (rules, reached_none)

pub loop-k-preserved : goal.loop-k-preserved
loop-k-preserved g c =
    reached_more g.R.CouplingRule.meaning (loan_in c.args.tables.now) (drawn c.args.figures.now) (results_in c.args.results.now) c.args.requests.now c.args.answers.now
    c.loop-k.k c.index-requests-k.result c.loop-k.book c.make-answer.new.book c.loop-k.schedule c.make-answer.new.schedule
    c.loop-k.nodes c.make-answer.new.nodes c.loop-k.couplings c.make-answer.new.couplings
    c.loop-k.flags c.make-answer.new.flags c.loop-k.windows c.make-answer.new.windows c.loop-k.column c.make-answer.new.column
    c.min-lent_nodes.result c.min-lent_couplings.result c.min-lent_flags.result c.min-lent_windows.result c.min-lent_column.result
    c.loop-k.answers c.make-answer.result
    verdicts_are_right g.met.R.CouplingRule.lawful c.loop-k.invariant c.loop-k-test.true c.index-requests-k.is c.make-answer.ensures
    c.loop-k.auto.nodes c.loop-k.auto.couplings c.loop-k.auto.flags c.loop-k.auto.windows c.loop-k.auto.column c.loop-k.auto.answers
    c.min-lent_nodes.ensures c.min-lent_couplings.ensures c.min-lent_flags.ensures c.min-lent_windows.ensures c.min-lent_column.ensures
    c.make-answer.auto.nodes c.make-answer.auto.couplings

pub returns-clause-answers : goal.returns-clause-answers
returns-clause-answers g c = reached_all c.loop-k.invariant (omega arith)
