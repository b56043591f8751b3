-- The answers to what the check asks of `verify`.
use Rattle.states.specs.Views.{loan_of, sealed_table}
use Rattle.verifying.proofs.Going.{answered}
use Rattle.verifying.proofs.verify.verify.Goals as goal

pub returns-then-rows-le128 : goal.returns-then-rows-le128
returns-then-rows-le128 g c =
    answered (sealed_table c.args.book.now) (loan_of c.args.schedule.now c.args.nodes.now c.args.couplings.now) (g.R.CouplingRule.meaning c.args.rule.now) c.args.flags.now c.judge.new.flags c.args.windows.now c.judge.new.windows c.args.column.now c.judge.new.column c.min-places.result c.in_ok-rows.rows c.judge.result c.min-places.ensures c.in_ok-rows.ensures c.judge.ensures

pub returns-then-rows-le1024 : goal.returns-then-rows-le1024
returns-then-rows-le1024 g c =
    answered (sealed_table c.args.book.now) (loan_of c.args.schedule.now c.args.nodes.now c.args.couplings.now) (g.R.CouplingRule.meaning c.args.rule.now) c.args.flags.now c.judge-then-rows-le1024.new.flags c.args.windows.now c.judge-then-rows-le1024.new.windows c.args.column.now c.judge-then-rows-le1024.new.column c.min-places.result c.in_ok-rows.rows c.judge-then-rows-le1024.result c.min-places.ensures c.in_ok-rows.ensures c.judge-then-rows-le1024.ensures

pub returns-else-rows-le1024 : goal.returns-else-rows-le1024
returns-else-rows-le1024 g c =
    answered (sealed_table c.args.book.now) (loan_of c.args.schedule.now c.args.nodes.now c.args.couplings.now) (g.R.CouplingRule.meaning c.args.rule.now) c.args.flags.now c.judge-else-rows-le1024.new.flags c.args.windows.now c.judge-else-rows-le1024.new.windows c.args.column.now c.judge-else-rows-le1024.new.column c.min-places.result c.in_ok-rows.rows c.judge-else-rows-le1024.result c.min-places.ensures c.in_ok-rows.ensures c.judge-else-rows-le1024.ensures
