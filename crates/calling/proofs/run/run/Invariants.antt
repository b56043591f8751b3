-- What holds before each call of a list.
use Rattle.schedule.specs.Made.{drawn}
use Rattle.design.specs.Table.{loan_in}
use Rattle.states.specs.Views.{loan_of}
use Rattle.calling.specs.Applied.{rows_in, results_in}
use Rattle.calling.proofs.Histories.{Reached}
use Rattle.calling.proofs.run.run.Given as goal

abbrev pub invariant-loop-k : goal.invariant-loop-k
invariant-loop-k g l =
    Reached g.R.CouplingRule.meaning (loan_in l.fn.tables) (drawn l.figures) (results_in l.fn.results) l.requests l.initial.answers l.k
    l.book
    (loan_of l.schedule l.nodes l.couplings)
    l.answers
    (rows_in l.flags l.windows l.column)
