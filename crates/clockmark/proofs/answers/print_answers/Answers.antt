-- One more line is answered, and after the last line all are.
use Rattle.std.proofs.Common.{◌≡◌, arith}
use Rattle.text.specs.Lines.{left}
use Rattle.design.specs.Table.{loan_in}
use Rattle.calling.specs.Applied.{results_in, lent_rows}
use Rattle.clockmark.proofs.Answering.{one_more, all_answered}
use Rattle.clockmark.proofs.answers.print_answers.Goals as goal

pub loop-line-preserved-in-Continue-1 : goal.loop-line-preserved-in-Continue-1
loop-line-preserved-in-Continue-1 g c =
    let loan = loan_in c.loop-line.tables in
    let loan' = loan_in c.answer.new.tables in
    let rows = results_in c.loop-line.results in
    let rows' = results_in c.answer.new.results in
    let same : lent_rows loan' rows' ≡ lent_rows loan rows = grind (arith, c.answer.ensures.same_tables, c.answer.ensures.same_results) in
    one_more (left c.args.lines) c.loop-line.book c.answer.new.book loan loan' rows rows' (left c.loop-line.line-iterator) (left c.next.new.self) c.in-Some.line.bytes.now c.loop-line.room c.answer.new.out c.in-Ok.count
    (g.W.Write.contents c.args.out.now) (g.W.Write.contents c.loop-line.out) (g.W.Write.contents c.write_all.new.self)
    c.loop-line.invariant c.in-Some.ensures.steps.0 c.in-Ok.ensures.reply same c.in_ok-write_all.ensures.bytes

pub returns : goal.returns
returns g c = all_answered (left c.args.lines) c.loop-line.book (loan_in c.loop-line.tables) (results_in c.loop-line.results) (left c.loop-line.line-iterator) (g.W.Write.contents c.args.out.now) (g.W.Write.contents c.loop-line.out) c.loop-line.invariant c.in-None.ensures.steps.0
