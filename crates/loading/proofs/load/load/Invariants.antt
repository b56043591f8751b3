-- What the loops of `load` keep.
use Rattle.std.proofs.Common.{◌≡◌}
use Rattle.text.specs.Lines.{left}
use Rattle.design.specs.Table.{loan_in, SameTables}
use Rattle.loading.proofs.Goes.{Going}
use Rattle.loading.proofs.load.load.Given as goal

abbrev pub invariant-loop-line : goal.invariant-loop-line
invariant-loop-line l = record {
  granted : l.granted ≡ l.line-iterator.count;
  going : Going (loan_in l.initial.tables) l.text l.granted l.book (loan_in l.tables) (left l.line-iterator);
  same : SameTables l.initial.tables l.tables;
}
