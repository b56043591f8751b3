-- Both parts of the text are answered.
use Rattle.std.proofs.Common.{◌≡◌, take, drop, ap, ◌∙◌, arith}
use Rattle.std.proofs.lemmas.List.{take_min, drop_min}
use Rattle.design.specs.Table.{loan_in}
use Rattle.calling.specs.Applied.{results_in}
use Rattle.printing.proofs.Texts.{printed_over}
use Rattle.printing.proofs.output.output_overwritten.Goals as goal

pub returns : goal.returns
returns c =
    let front : c.split_at.result.0.now ≡ take c.args.place c.args.text.now = c.split_at.ensures.front ∙ (ap (λ k. take k c.args.text.now) c.min.ensures ∙ take_min c.args.place c.args.text.now) in
    let back : c.split_at.result.1.now ≡ drop c.args.place c.args.text.now = c.split_at.ensures.back ∙ (ap (λ k. drop k c.args.text.now) c.min.ensures ∙ drop_min c.args.place c.args.text.now) in
    printed_over c.args.text.now c.args.place c.args.records.now c.args.out.now c.reply_to_all-end.new.out c.reply_to_all.new.out c.split_at.result.0.now c.split_at.result.1.now
    c.reply_to_all-end.new.book c.reply_to_all.new.book (loan_in c.reply_to_all-end.new.tables) (loan_in c.overwrite.new.tables) (loan_in c.reply_to_all.new.tables)
    (results_in c.reply_to_all-end.new.results) (results_in c.reply_to_all.new.results) c.reply_to_all-end.result c.reply_to_all.result
    front back (omega arith) (omega arith) (omega arith) (rw c.blank-schedule.ensures at c.reply_to_all-end.ensures.replies) c.overwrite.ensures.rows c.reply_to_all.ensures.replies
