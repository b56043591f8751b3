-- The lines so far stand behind each other.
use Rattle.std.proofs.Common.{take, Ok, flat_map}
use Rattle.reporting.specs.Report.{window_line, WrittenAt}
use Rattle.reporting.proofs.report.put_windows.Given as goal

abbrev pub invariant-loop-window : goal.invariant-loop-window
invariant-loop-window l = WrittenAt (flat_map window_line (take l.window-index l.windows)) l.initial.place l.initial.out l.out (Ok l.end)
