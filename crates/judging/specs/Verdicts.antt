-- The verdict on a table: its number, and what it says of the last round.
use Rattle.std.specs.Prelude.{◌≡◌, ℕ, ◌<◌, Bool, length, ℤ, pos, Some, None, Option}
use Rattle.closing.specs.Sets.{Flags, Same, empty, count}
use Rattle.closing.specs.Rounds.{Outcome, without_end, settled, set_of, Rounds}
use Rattle.design.specs.Table.{Table}
use Rattle.timing.specs.declared.windows.Window.{Window}
use Rattle.timing.specs.Windows.{IsWindow, IsLate, IsEarly}
use Rattle.timing.specs.Breaches.{Lowest, NoNode, EndlessLatch, LateBy, EarlyBy}
use Rattle.rules.specs.Questions.{Question}
use Rattle.judging.specs.declared.verdict.Verdict.{Verdict}
use Rattle.judging.specs.declared.verdict.Verdict.TheVariants.{Pass, Gain, Late, Early}
use Rattle.judging.specs.declared.verdict.Judgement.{Judgement}
use Rattle.judging.specs.Couplings.{system_of}

-- the number of each verdict
abbrev pub number_of : Verdict → ℕ
number_of Pass = 0
number_of (Gain latch) = 64
number_of (Late latch excess) = 65
number_of (Early latch excess) = 66

-- the latch that a verdict names
abbrev pub latch_of : Verdict → Option ℕ
latch_of Pass = None
latch_of (Gain latch) = Some latch
latch_of (Late latch excess) = Some latch
latch_of (Early latch excess) = Some latch

-- the excess of a verdict
abbrev pub excess_of : Verdict → ℤ
excess_of Pass = pos 0
excess_of (Gain latch) = pos 0
excess_of (Late latch excess) = excess
excess_of (Early latch excess) = excess

-- The verdict on a table under a set of couplings whose windows have ends: late for the lowest late latch, by its excess; else early for the lowest early latch, by its excess; else it passes.
abbrev pub IsVerdict : Table → Flags → Verdict → Type 0
IsVerdict t S Pass = NoNode t (IsLate t S) × NoNode t (IsEarly t S)
IsVerdict t S (Gain latch) = ⊥
IsVerdict t S (Late latch excess) = Lowest t (IsLate t S) latch × LateBy t S latch excess
IsVerdict t S (Early latch excess) = NoNode t (IsLate t S) × Lowest t (IsEarly t S) latch × EarlyBy t S latch excess

-- The verdict where a window has no end under a set: gain, at the lowest latch whose window has none.
abbrev pub IsGain : Table → Flags → Verdict → Type 0
IsGain t S Pass = ⊥
IsGain t S (Gain latch) = Lowest t (EndlessLatch t S) latch
IsGain t S (Late latch excess) = ⊥
IsGain t S (Early latch excess) = ⊥

-- what is shown of the outcome of rounds: the verdict, and the windows of all nodes unless one has no end
abbrev pub Shown : Table → (ℕ → Window) → Outcome → Verdict → Type 0
Shown t windows (without_end F) verdict = IsGain t F verdict
Shown t windows (settled F) verdict = IsVerdict t F verdict × ((v : ℕ) → v < length t.nodes → IsWindow t F v (windows v))

-- A table judged under a rule: so many rounds from the set without flags have an outcome, whose flags are those of S, and whose verdict and windows are these.
pub record Judged (t : Table) (sees : Question → Bool) (j : Judgement) (S : Flags) (windows : ℕ → Window) : Type 0 where
  pub outcome : Outcome
  pub rounds : Rounds (system_of t sees) empty j.rounds outcome
  pub flags : Same (length t.couplings) S (set_of outcome)
  pub count : j.flags ≡ count (length t.couplings) S
  pub shown : Shown t windows outcome j.verdict
