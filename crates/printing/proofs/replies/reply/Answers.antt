-- There is room for every reply.
use Rattle.std.proofs.Common.{◌≡◌, Ok, rules, subst}
use Rattle.design.specs.Table.{loan_in}
use Rattle.calling.specs.Applied.{results_in}
use Rattle.session.specs.Replies.{Replied}
use Rattle.printing.proofs.Chain.{reply_granted, reply_made}
use Rattle.printing.proofs.replies.reply.Goals as goal

pub unwrap-requires : goal.unwrap-requires
unwrap-requires c =
    reply_granted c.args.book.now c.answer.new.book (loan_in c.args.tables.now) (loan_in c.answer.new.tables) (results_in c.args.results.now) (results_in c.answer.new.results)
    c.args.line.now c.args.room.now c.answer.new.out c.answer.result c.requires c.answer.ensures.reply

pub returns-clause-reply : goal.returns-clause-reply
returns-clause-reply c =
    let loan = loan_in c.args.tables.now in
    let rows = results_in c.args.results.now in
    let loan' = loan_in c.answer.new.tables in
    let rows' = results_in c.answer.new.results in
    let is : c.answer.result ≡ Ok c.unwrap.result = search rules in
    reply_made c.args.book.now c.answer.new.book loan loan' rows rows' c.args.line.now c.args.room.now c.answer.new.out c.unwrap.result c.answer.auto.out
    (subst (Replied c.args.book.now loan rows c.args.line.now c.args.room.now c.answer.new.book loan' rows' c.answer.new.out) is c.answer.ensures.reply)
