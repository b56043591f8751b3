-- The lines so far stand behind each other.
use Rattle.std.proofs.Common.{take, Ok, flat_map}
use Rattle.reporting.specs.Report.{flag_line, WrittenAt}
use Rattle.reporting.proofs.report.put_flags.Given as goal

abbrev pub invariant-loop-flag : goal.invariant-loop-flag
invariant-loop-flag l = WrittenAt (flat_map flag_line (take l.flag-index l.flags)) l.initial.place l.initial.out l.out (Ok l.end)
