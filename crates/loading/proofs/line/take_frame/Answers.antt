-- What the book makes of a call is what its frame makes.
use Rattle.frames.specs.Contents.{content_of}
use Rattle.design.specs.Calls.{asked}
use Rattle.design.specs.Table.{loan_in}
use Rattle.loading.proofs.Steps.{through}
use Rattle.loading.proofs.line.take_frame.Goals as goal

pub returns-clause-frame : goal.returns-clause-frame
returns-clause-frame c =
    through c.args.book.now c.apply.new.self (loan_in c.args.tables.now) (loan_in c.apply.new.tables) (content_of c.args.frame.now) c.is_open.result (asked c.in_ok-call.call) c.apply.result
    c.is_open.ensures
    c.in_ok-call.ensures
    c.apply.ensures.answer
