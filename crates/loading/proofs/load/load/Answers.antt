-- A line that was granted lets the loading go on behind it.
use Rattle.std.proofs.Common.{sym, ◌∙◌, arith, rules}
use Rattle.design.specs.Table.{loan_in}
use Rattle.text.specs.Lines.{left}
use Rattle.loading.proofs.Goes.{go_on}
use Rattle.loading.proofs.load.load.Goals as goal

pub loop-line-preserved : goal.loop-line-preserved
loop-line-preserved c =
    let start = loan_in c.args.tables.now in
    let loan = loan_in c.loop-line.tables in
    let loan' = loan_in c.take_line.new.tables in
    record {
      granted = sym c.in-Some.ensures.steps.2;
      going = go_on start c.args.text.now c.loop-line.granted c.in-Some.line.number c.loop-line.book c.take_line.new.book loan loan' (left c.loop-line.line-iterator) (left c.next.new.self) c.in-Some.line.bytes.now c.in_default.field-0
          (omega (arith, c.in-Some.ensures.steps.1)) c.loop-line.invariant.going c.in-Some.ensures.steps.0 (c.take_line.ensures.same_tables.3 ∙ c.loop-line.invariant.same.3) (rw c.in_default.is at c.take_line.ensures.line);
      same = search rules;
    }
