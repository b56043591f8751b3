-- The table that a text leaves is sealed and judged.
use Rattle.std.proofs.Common.{◌++◌, length, drop, sym, ap, ◌∙◌, arith}
use Rattle.std.proofs.lemmas.List.{length-take-le}
use Rattle.design.specs.Table.{loan_in}
use Rattle.printing.proofs.Texts.{judged_text}
use Rattle.printing.proofs.judge.judge.Goals as goal

pub copy_from_slice-requires : goal.copy_from_slice-requires
copy_from_slice-requires c = omega (arith, ap length c.verdict_bytes.ensures, length-take-le 15 c.args.verdict.now (omega arith))

pub returns : goal.returns
returns c =
    judged_text c.args.text.now c.args.rule c.args.verdict.now _ c.in_ok-rule.rule c.in-Sealed.sealed c.load-book.result.0 (loan_in c.load-book.new.tables) c.in_default.field-0 c.load-book.result.1 c.judgement_of-judgement.result
    (sym c.try_from.ensures ∙ c.in_ok-rule.was) (rw c.blank-schedule.ensures at c.load-book.ensures.text) c.in_default.is c.in-Sealed.is (omega arith) c.judgement_of-judgement.ensures (ap (λ bs. bs ++ drop 15 c.args.verdict.now) (c.copy_from_slice.ensures.after ∙ c.verdict_bytes.ensures))
