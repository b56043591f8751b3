-- What is printed of a judgement: the bytes of each line, and all lines one after another.
use Rattle.std.specs.Prelude.{◌≡◌, ℕ, ◌+◌, ◌-◌, ◌*◌, ◌^◌, ◌<◌, List, [], ◌∷◌, ◌++◌, length, take, drop, flat_map, ℤ, pos, negsuc, suc, Some, None, Option, Ok, Err, Result}
use Rattle.refusals.specs.declared.Refusal.{Refusal}
use Rattle.refusals.specs.declared.Refusal.TheVariants.{Short}
use Rattle.text.specs.Spelling.{line_for}
use Rattle.frames.specs.Frames.{bytes_in}
use Rattle.timing.specs.declared.windows.Window.{Window}
use Rattle.judging.specs.declared.verdict.Verdict.{Verdict}
use Rattle.judging.specs.declared.verdict.Verdict.TheVariants.{Pass, Gain, Late, Early}
use Rattle.judging.specs.declared.verdict.Judgement.{Judgement}
use Rattle.judging.specs.Verdicts.{number_of, latch_of, excess_of}
use Rattle.windows.specs.declared.flags.Flag.{Flag}
use Rattle.windows.specs.declared.flags.Flag.TheVariants.{Clear, Set}

-- two's complement in 64 bits: a number from 0 on is itself, and one below 0 has 2 ^ 64 added; negsuc n is -(n + 1)
abbrev pub twos_complement : ℤ → ℕ
twos_complement (pos n) = n
twos_complement (negsuc n) = 2 ^ 64 - suc n

-- a signed number in 8 bytes
abbrev pub signed_bytes : ℤ → List ℕ
signed_bytes z = bytes_in 8 (twos_complement z)

-- the number of the latch that a verdict names; FFFF where it names none
abbrev pub latch_or_none : Option ℕ → ℕ
latch_or_none None = 65535
latch_or_none (Some latch) = latch

-- a verdict's number, its latch, its excess, and how many rounds were made and flags are set
abbrev pub verdict_bytes : Judgement → List ℕ
verdict_bytes j =
    bytes_in 1 (number_of j.verdict)
    ++ (bytes_in 2 (latch_or_none (latch_of j.verdict))
    ++ (signed_bytes (excess_of j.verdict)
    ++ (bytes_in 2 j.rounds
    ++ bytes_in 2 j.flags)))

-- when a window begins, and when it ends
abbrev pub window_bytes : Window → List ℕ
window_bytes w = signed_bytes w.begins ++ signed_bytes w.ends

-- a flag: 1 where it is set, and else 0
abbrev pub flag_bytes : Flag → List ℕ
flag_bytes Clear = 0 ∷ []
flag_bytes Set = 1 ∷ []

-- the windows that are shown with a verdict: on gain none
abbrev pub windows_with : Verdict → List Window → List Window
windows_with Pass windows = windows
windows_with (Gain latch) windows = []
windows_with (Late latch excess) windows = windows
windows_with (Early latch excess) windows = windows

-- the line of a window
abbrev pub window_line : Window → List ℕ
window_line w = line_for (window_bytes w)

-- the line of a flag
abbrev pub flag_line : Flag → List ℕ
flag_line f = line_for (flag_bytes f)

-- The lines of a judgement: its verdict, then each window that is shown, then each flag.
abbrev pub report_of : Judgement → List Window → List Flag → List ℕ
report_of j windows flags =
    line_for (verdict_bytes j)
    ++ (flat_map window_line (windows_with j.verdict windows)
    ++ flat_map flag_line flags)

-- how many characters a report has that shows so many windows and flags
abbrev pub report_length : ℕ → ℕ → ℕ
report_length windows flags = 31 + 33 * windows + 3 * flags

-- A text written into a buffer from a place on; where it does not end within the buffer, this is told, and nothing is said of what the buffer then holds.
abbrev pub WrittenAt : List ℕ → ℕ → List ℕ → List ℕ → Result ℕ Refusal → Type 0
WrittenAt text place old new (Ok end) = (end ≡ place + length text) × (new ≡ take place old ++ (text ++ drop end old))
WrittenAt text place old new (Err why) = (length old < place + length text) × (why ≡ Short)

-- a report written into the first places of a buffer, or refused where it is longer, with the buffer as it was
abbrev pub Reported : Judgement → List Window → List Flag → List ℕ → List ℕ → Result ℕ Refusal → Type 0
Reported j windows flags old new (Ok n) = (n ≡ length (report_of j windows flags)) × (new ≡ report_of j windows flags ++ drop n old)
Reported j windows flags old new (Err why) = (length old < length (report_of j windows flags)) × (why ≡ Short) × (new ≡ old)
