-- A verify, another frame, and a line without a frame.
use Rattle.std.proofs.Common.{◌≡◌, ◌≤◌, length, None, Ok, ap, ◌∙◌, rules, arith}
use Rattle.frames.specs.declared.Frame.TheVariants.{Verify}
use Rattle.frames.specs.Contents.{content_of}
use Rattle.design.specs.Table.{loan_in}
use Rattle.book.specs.Views.{book_table}
use Rattle.calling.specs.Applied.{results_in}
use Rattle.session.specs.Printing.{rule_asked}
use Rattle.session.specs.Replies.{longest_reply}
use Rattle.session.proofs.Printed.{verify_replied, frame_replied, refusal_replied}
use Rattle.session.proofs.answer.Goals as goal

pub returns-in-Ok-Verify-clause-reply : goal.returns-in-Ok-Verify-clause-reply
returns-in-Ok-Verify-clause-reply c =
    let room : longest_reply (book_table c.args.book.now (loan_in c.args.tables.now)) ≤ length c.args.out.now = omega (arith, c.longest_reply.ensures (loan_in c.args.tables.now), c.if-out-longest_reply.false) in
    let is : c.in-Ok-Verify.field-0 ≡ Verify c.in-Ok-Verify.rule = search rules in
    verify_replied c.args.book.now c.judge.new.book (loan_in c.args.tables.now) (loan_in c.judge.new.tables) (results_in c.args.results.now) (results_in c.judge.new.results) c.args.line.now c.args.out.now c.judge.new.out c.in-Ok-Verify.rule c.judge.result
    room (c.in-Ok-Verify.ensures ∙ ap (λ f. Ok (content_of f)) is) c.judge.ensures.verdict

pub returns-in-Ok : goal.returns-in-Ok
returns-in-Ok c =
    let room : longest_reply (book_table c.args.book.now (loan_in c.args.tables.now)) ≤ length c.args.out.now = omega (arith, c.longest_reply.ensures (loan_in c.args.tables.now), c.if-out-longest_reply.false) in
    let none : rule_asked (Ok (content_of c.in-Ok.frame)) ≡ None = search rules in
    let reply = frame_replied c.args.book.now c.take_frame.new.book (loan_in c.args.tables.now) (loan_in c.take_frame.new.tables) (results_in c.args.results.now) c.args.line.now c.args.out.now c.put_answer.new.out (content_of c.in-Ok.frame) c.take_frame.result c.put_answer.result
    room c.in-Ok.ensures none c.take_frame.ensures.frame c.put_answer.ensures in
    search rules

pub returns-in-Err-clause-reply : goal.returns-in-Err-clause-reply
returns-in-Err-clause-reply c =
    let room : longest_reply (book_table c.args.book.now (loan_in c.args.tables.now)) ≤ length c.args.out.now = omega (arith, c.longest_reply.ensures (loan_in c.args.tables.now), c.if-out-longest_reply.false) in
    refusal_replied c.args.book.now (loan_in c.args.tables.now) (results_in c.args.results.now) c.args.line.now c.args.out.now c.put_answer-in-Err.new.out c.in-Err.refusal c.put_answer-in-Err.result
    room c.in-Err.ensures c.put_answer-in-Err.ensures
