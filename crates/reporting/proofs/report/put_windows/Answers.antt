-- One line more, or one that does not end within the buffer.
use Rattle.std.proofs.Common.{rules, ◌++◌, pos, sym, ap, ◌∙◌, take, flat_map}
use Rattle.text.specs.Spelling.{line_for}
use Rattle.timing.specs.declared.windows.Window.{Window}
use Rattle.reporting.specs.Report.{window_line}
use Rattle.reporting.proofs.Joins.{lines_more, line_more, line_past}
use Rattle.reporting.proofs.report.put_windows.Goals as goal

-- a window that is not there
abbrev none : Window
none = record { begins = pos 0; ends = pos 0 }

pub returns-in_err-end : goal.returns-in_err-end
returns-in_err-end c =
    let past = line_past window_line c.args.windows.now c.loop-window.window-index none c.window_bytes.result c.args.place c.loop-window.end c.args.out.now c.loop-window.out c.spell_line.new.out c.in_err-end.field-0.0
    c.loop-window-test.true (ap line_for (sym c.window_bytes.ensures)) c.loop-window.auto.out c.loop-window.invariant c.in_err-end.ensures.line in
    search rules

pub loop-window-preserved : goal.loop-window-preserved
loop-window-preserved c =
    let k = c.loop-window.window-index in
    line_more _ (flat_map window_line (take k c.args.windows.now)) c.window_bytes.result c.args.place c.loop-window.end c.in_ok-end.end c.args.out.now c.loop-window.out c.spell_line.new.out
    (lines_more window_line c.args.windows.now k none c.loop-window-test.true ∙ ap (λ bs. flat_map window_line (take k c.args.windows.now) ++ line_for bs) (sym c.window_bytes.ensures))
    c.loop-window.auto.out
    c.loop-window.invariant
    c.in_ok-end.ensures.line
