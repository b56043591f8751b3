-- The lines before those that are left are answered.
use Rattle.std.proofs.Common.{◌≡◌, length}
use Rattle.text.specs.Lines.{lines_of, left}
use Rattle.design.specs.Table.{loan_in, SameTables}
use Rattle.calling.specs.Applied.{results_in, SameResults}
use Rattle.printing.proofs.Chain.{Replying}
use Rattle.printing.proofs.replies.reply_to_all.Given as goal

abbrev pub invariant-loop-line : goal.invariant-loop-line
invariant-loop-line l = record {
  replying : Replying l.initial.book (loan_in l.initial.tables) (results_in l.initial.results) l.text l.place l.initial.out (lines_of (left l.line-iterator)) l.book (loan_in l.tables) (results_in l.results) l.out l.end;
  room : length l.room ≡ length l.initial.room;
  tables : SameTables l.initial.tables l.tables;
  results : SameResults l.initial.results l.results;
}
