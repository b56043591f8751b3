-- The worked examples, and that all of them hold.
use Rattle.std.specs.Prelude.{◌≡◌, ℕ, Bool, true, false, List, [], ◌∷◌, ℤ, pos, neg_ℤ, slice_index_or}
use Rattle.schedule.specs.Clock.{Clock, forward, nearest}
use Rattle.design.specs.Table.{Table}
use Rattle.timing.specs.declared.windows.Window.{Window}
use Rattle.rules.specs.declared.wire.Wire.{Wire}
use Rattle.rules.specs.Questions.{Question, question}
use Rattle.rules.specs.Rules.{never, always, three_occurrences}
use Rattle.judging.specs.declared.verdict.Judgement.{Judgement}
use Rattle.judging.specs.declared.verdict.Verdict.{Verdict}
use Rattle.judging.specs.declared.verdict.Verdict.TheVariants.{Pass, Gain, Late, Early}
use Rattle.judging.specs.Verdicts.{Judged}
use Rattle.worked.specs.Designs.{two_phases, clock_c, clock_d, design_k}

-- An example: a shift from one phase to another, an answer of a rule, or the judgement of a table under a rule with its flags and its windows.
pub data Example : Type 0 where
  forward_is : Clock → (from to : ℕ) → ℤ → Example
  nearest_is : Clock → (from to : ℕ) → ℤ → Example
  sees_is : (Question → Bool) → Question → Bool → Example
  judged_as : Table → (Question → Bool) → Judgement → List Bool → List Window → Example

-- a window from one tick to another
abbrev pub from_to : ℤ → ℤ → Window
from_to begins ends = record { begins = begins; ends = ends }

-- an example that holds
abbrev pub Holds : Example → Type 0
Holds (forward_is clock from to shift) = forward clock from to ≡ shift
Holds (nearest_is clock from to shift) = nearest clock from to ≡ shift
Holds (sees_is rule q answer) = rule q ≡ answer
Holds (judged_as t rule j flags windows) = Judged t rule j (λ c. slice_index_or flags c false) (λ v. slice_index_or windows v (from_to (pos 0) (pos 0)))

-- all of a list hold
abbrev pub AllHold : List Example → Type 0
AllHold [] = Unit {0}
AllHold (x ∷ xs) = Holds x × AllHold xs

-- a wire of a phase with a window; which node drives it does not matter to the rules asked here
abbrev pub wire : (node phase : ℕ) → Window → Wire
wire node phase window = record { node = node; phase = phase; window = window }

-- a judgement: the verdict, the rounds that were made for it, and how many flags are set
abbrev pub judgement : Verdict → (rounds flags : ℕ) → Judgement
judgement verdict rounds flags = record { verdict = verdict; rounds = rounds; flags = flags }

-- both couplings of design K flagged
abbrev pub both : List Bool
both = true ∷ true ∷ []

-- and neither
abbrev pub neither : List Bool
neither = false ∷ false ∷ []

-- the windows of design K, where those of gate 4 and of latch 6 are these
abbrev pub windows_of_k : (gate_4 latch_6 : Window) → List Window
windows_of_k gate_4 latch_6 =
    from_to (pos 60) (pos 60)
    ∷ from_to (pos 90) (pos 95)
    ∷ from_to (pos 62) (pos 64)
    ∷ from_to (pos 62) (pos 64)
    ∷ gate_4
    ∷ from_to (pos 90) (pos 95)
    ∷ latch_6
    ∷ []

-- a question about a victim and an aggressor, each with its phase and its window
abbrev pub asks : Clock → (phase : ℕ) → Window → (phase' : ℕ) → Window → Question
asks clock phase window phase' window' = question clock (wire 1 phase window) (wire 2 phase' window')

-- the worked examples: shifts, what the rule of three occurrences sees, and judgements of design K
abbrev pub examples : List Example
examples =
    -- shifts
    forward_is clock_c 1 2 (pos 50)
    ∷ nearest_is clock_c 1 2 (pos 50)
    ∷ nearest_is clock_c 2 1 (neg_ℤ (pos 50))
    ∷ nearest_is (two_phases 101 0 0 51) 1 2 (neg_ℤ (pos 50))
    -- seen by the previous occurrence, by the following one, and by none
    ∷ sees_is three_occurrences (asks clock_d 2 (from_to (pos 1) (pos 3)) 1 (from_to (pos 60) (pos 62))) true
    ∷ sees_is three_occurrences (asks clock_d 1 (from_to (pos 91) (pos 95)) 2 (from_to (pos 30) (pos 32))) true
    ∷ sees_is three_occurrences (asks clock_d 1 (from_to (pos 80) (pos 89)) 2 (from_to (pos 30) (pos 32))) false
    ∷ sees_is three_occurrences (asks (two_phases 100 8 0 60) 2 (from_to (pos 10) (pos 12)) 1 (from_to (pos 60) (pos 62))) false
    -- under each rule
    ∷ judged_as (design_k 9 3) three_occurrences (judgement Pass 3 2) both (windows_of_k (from_to (pos 67) (pos 92)) (from_to (pos 60) (pos 60)))
    ∷ judged_as (design_k 9 3) always (judgement Pass 2 2) both (windows_of_k (from_to (pos 67) (pos 92)) (from_to (pos 60) (pos 60)))
    ∷ judged_as (design_k 9 3) never (judgement Pass 1 0) neither (windows_of_k (from_to (pos 72) (pos 84)) (from_to (pos 60) (pos 60)))
    -- coupling 1 opposes more: to the late bound, past it, to where the ring gains nothing yet, and past that
    ∷ judged_as (design_k 47 3) three_occurrences (judgement Pass 3 2) both (windows_of_k (from_to (pos 67) (pos 92)) (from_to (pos 60) (pos 95)))
    ∷ judged_as (design_k 48 3) three_occurrences (judgement (Late 6 (pos 1)) 3 2) both (windows_of_k (from_to (pos 67) (pos 92)) (from_to (pos 60) (pos 96)))
    ∷ judged_as (design_k 58 3) three_occurrences (judgement (Late 6 (pos 11)) 3 2) both (windows_of_k (from_to (pos 67) (pos 92)) (from_to (pos 60) (pos 106)))
    ∷ judged_as (design_k 59 3) three_occurrences (judgement (Gain 0) 3 2) both []
    -- latch 6 holds for longer: to what arrives first, and past it
    ∷ judged_as (design_k 9 20) three_occurrences (judgement Pass 3 2) both (windows_of_k (from_to (pos 67) (pos 92)) (from_to (pos 60) (pos 60)))
    ∷ judged_as (design_k 9 21) three_occurrences (judgement (Early 6 (pos 1)) 3 2) both (windows_of_k (from_to (pos 67) (pos 92)) (from_to (pos 60) (pos 60)))
    ∷ []
