-- The text of the table that is left is written.
use Rattle.design.specs.Table.{loan_in}
use Rattle.printing.proofs.Texts.{rebuilt_text}
use Rattle.printing.proofs.rebuild.rebuild.Goals as goal

pub returns : goal.returns
returns c =
    rebuilt_text c.args.text.now c.args.out.now c.put_text.new.out c.load-book.result.0 (loan_in c.load-book.new.tables) c.in_default.field-0 c.load-book.result.1 c.put_text.result
    (rw c.blank-schedule.ensures at c.load-book.ensures.text) c.in_default.is c.put_text.ensures
