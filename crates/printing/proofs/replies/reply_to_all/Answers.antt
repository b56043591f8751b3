-- One line more, and all of them.
use Rattle.std.proofs.Common.{◌+◌, ◌-◌, refl, ap, arith, rules}
use Rattle.std.proofs.lemmas.Grind.{common_steps}
use Rattle.text.specs.Lines.{lines_of, left}
use Rattle.design.specs.Table.{loan_in}
use Rattle.calling.specs.Applied.{results_in}
use Rattle.printing.proofs.Chain.{kept_rows, one_more, ended}
use Rattle.printing.proofs.replies.reply_to_all.Goals as goal

pub loop-line-preserved : goal.loop-line-preserved
loop-line-preserved c = record {
  replying =
      one_more c.args.book.now (loan_in c.args.tables.now) (results_in c.args.results.now) c.args.text.now c.args.place c.args.out.now
      (lines_of (left c.loop-line.line-iterator)) c.in-Some.line.bytes.now (lines_of (left c.next.new.self)) c.loop-line.book c.reply-count.new.book
      (loan_in c.loop-line.tables) (loan_in c.reply-count.new.tables) (results_in c.loop-line.results) (results_in c.reply-count.new.results)
      c.loop-line.out _ c.reply-count.new.room c.loop-line.end c.reply-count.result
      c.in-Some.ensures.steps.0 c.loop-line.auto.out c.requires.fits (kept_rows c.loop-line.tables c.reply-count.new.tables c.loop-line.results c.reply-count.new.results c.reply-count.ensures.same_tables c.reply-count.ensures.same_results)
      c.loop-line.invariant.replying c.reply-count.ensures.reply (c.loop-line.end + c.reply-count.result - c.loop-line.end) c.copy_from_slice.new.self (omega arith) (grind (arith, common_steps)) refl;
  room = omega arith;
  tables = search rules;
  results = search rules;
}

pub returns-clause-replies : goal.returns-clause-replies
returns-clause-replies c =
    ended c.args.book.now (loan_in c.args.tables.now) (results_in c.args.results.now) c.args.text.now c.args.place c.args.out.now
    c.loop-line.book (loan_in c.loop-line.tables) (results_in c.loop-line.results) c.loop-line.out c.loop-line.end (lines_of (left c.loop-line.line-iterator))
    (ap lines_of c.in-None.ensures.steps.0) c.loop-line.invariant.replying
