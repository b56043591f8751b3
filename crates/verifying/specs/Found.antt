-- The verdict that a check of windows gives.
use Rattle.std.specs.Prelude.{Some, None}
use Rattle.judging.specs.declared.verdict.Verdict.{Verdict}
use Rattle.judging.specs.declared.verdict.Verdict.TheVariants.{Pass, Gain, Late, Early}
use Rattle.windows.specs.declared.checked.Checked.{Checked}
use Rattle.windows.specs.declared.checked.Checked.TheVariants.{Ended, NoEnd}

-- A window without an end is gain. Else the verdict is late if a latch is late, and else early if one is early.
abbrev pub verdict_of : Checked → Verdict
verdict_of (NoEnd latch) = Gain latch
verdict_of (Ended (Some late) early) = Late late.latch late.excess
verdict_of (Ended None (Some early)) = Early early.latch early.excess
verdict_of (Ended None None) = Pass
