-- The three parts of a report stand behind each other, and fit where they are counted to fit.
use Rattle.std.proofs.Common.{◌-◌, ◌^◌, ◌<◌, length, arith}
use Rattle.reporting.proofs.Joins.{refused_short, windows_fit, reported}
use Rattle.reporting.proofs.report.report.Goals as goal

pub returns-then-out-length_of : goal.returns-then-out-length_of
returns-then-out-length_of c = refused_short c.args.judgement.now c.args.windows.now c.windows_with-shown.result.now c.args.flags.now c.args.out.now c.length_of.result c.windows_with-shown.ensures c.length_of.ensures c.if-out-length_of.true

pub returns-in_err-end-2 : goal.returns-in_err-end-2
returns-in_err-end-2 c =
    let low : length c.args.out.now < 2 ^ 64 - 1 = omega arith in
    absurd
    (windows_fit c.args.judgement.now c.args.windows.now c.windows_with-shown.result.now c.args.flags.now c.args.out.now c.length_of.result c.windows_with-shown.ensures c.length_of.ensures
    low c.if-out-length_of.false c.verdict_bytes.result c.spell_line.new.out c.in_ok-end.end c.verdict_bytes.ensures c.in_ok-end.ensures.line
    c.in_err-end-2.field-0.0 c.put_windows.new.out c.spell_line.auto.out c.in_err-end-2.ensures)

pub returns : goal.returns
returns c =
    let low : length c.args.out.now < 2 ^ 64 - 1 = omega arith in
    reported c.args.judgement.now c.args.windows.now c.windows_with-shown.result.now c.args.flags.now c.args.out.now c.length_of.result c.windows_with-shown.ensures c.length_of.ensures
    low c.if-out-length_of.false c.verdict_bytes.result c.spell_line.new.out c.in_ok-end.end c.verdict_bytes.ensures c.in_ok-end.ensures.line
    c.put_flags.result c.put_windows.new.out c.put_flags.new.out c.in_ok-end-2.end c.spell_line.auto.out (omega (arith, c.put_windows.auto.out, c.spell_line.auto.out)) c.in_ok-end-2.ensures c.put_flags.ensures
