-- One line more, or one that does not end within the buffer.
use Rattle.std.proofs.Common.{rules, ◌++◌, sym, ap, ◌∙◌, take, flat_map}
use Rattle.text.specs.Spelling.{line_for}
use Rattle.windows.specs.declared.flags.Flag.TheVariants.{Clear}
use Rattle.reporting.specs.Report.{flag_line}
use Rattle.reporting.proofs.Joins.{lines_more, line_more, line_past}
use Rattle.reporting.proofs.report.put_flags.Goals as goal

pub returns-in_err-end : goal.returns-in_err-end
returns-in_err-end c =
    let past = line_past flag_line c.args.flags.now c.loop-flag.flag-index Clear c.flag_bytes.result c.args.place c.loop-flag.end c.args.out.now c.loop-flag.out c.spell_line.new.out c.in_err-end.field-0.0
    c.loop-flag-test.true (ap line_for (sym c.flag_bytes.ensures)) c.loop-flag.auto.out c.loop-flag.invariant c.in_err-end.ensures.line in
    search rules

pub loop-flag-preserved : goal.loop-flag-preserved
loop-flag-preserved c =
    let k = c.loop-flag.flag-index in
    line_more _ (flat_map flag_line (take k c.args.flags.now)) c.flag_bytes.result c.args.place c.loop-flag.end c.in_ok-end.end c.args.out.now c.loop-flag.out c.spell_line.new.out
    (lines_more flag_line c.args.flags.now k Clear c.loop-flag-test.true ∙ ap (λ bs. flat_map flag_line (take k c.args.flags.now) ++ line_for bs) (sym c.flag_bytes.ensures))
    c.loop-flag.auto.out
    c.loop-flag.invariant
    c.in_ok-end.ensures.line
