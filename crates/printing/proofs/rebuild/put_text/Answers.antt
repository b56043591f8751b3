-- The text of an open book is written.
use Rattle.std.proofs.Common.{sym, subst}
use Rattle.design.specs.Table.{draft, sealed, loan_in, lent_in}
use Rattle.states.specs.Views.{draft_table, sealed_table}
use Rattle.book.specs.Views.{book_table}
use Rattle.printing.specs.Judging.{text_in, TextPut}
use Rattle.printing.proofs.Rows.{none_short}
use Rattle.printing.proofs.Texts.{text_put}
use Rattle.printing.proofs.rebuild.put_text.Goals as goal

pub returns-in-Draft : goal.returns-in-Draft
returns-in-Draft c =
    let loan = loan_in c.args.tables.now in
    let book = c.in-Draft.draft in
    subst (λ b. TextPut (text_in (book_table b loan)) c.args.out.now c.write.new.out c.write.result) (sym c.in-Draft.is)
    (text_put (lent_in loan) (draft_table book loan) c.args.out.now c.write.new.out c.write.result (none_short draft book.counts loan c.requires) c.write.ensures.text)

pub returns-in-Sealed : goal.returns-in-Sealed
returns-in-Sealed c =
    let loan = loan_in c.args.tables.now in
    let book = c.in-Sealed.sealed in
    subst (λ b. TextPut (text_in (book_table b loan)) c.args.out.now c.write-in-Sealed.new.out c.write-in-Sealed.result) (sym c.in-Sealed.is)
    (text_put (lent_in loan) (sealed_table book loan) c.args.out.now c.write-in-Sealed.new.out c.write-in-Sealed.result (none_short sealed book.counts loan c.requires) c.write-in-Sealed.ensures.text)
