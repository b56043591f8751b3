-- What holds before each line is answered.
use Rattle.text.specs.Lines.{left}
use Rattle.design.specs.Table.{loan_in}
use Rattle.calling.specs.Applied.{results_in}
use Rattle.clockmark.proofs.Answering.{Answering}
use Rattle.clockmark.proofs.answers.print_answers.Given as goal

abbrev pub invariant-loop-line : goal.invariant-loop-line
invariant-loop-line g l =
    Answering (left l.fn.lines) l.book (loan_in l.tables) (results_in l.results) (left l.line-iterator) (g.W.Write.contents l.initial.out) (g.W.Write.contents l.out)
