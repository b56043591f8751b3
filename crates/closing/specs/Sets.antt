-- Sets of flags.
use Rattle.std.specs.Prelude.{◌≡◌, ℕ, zero, suc, ◌<◌, Bool, true, false, cond}

-- Flags are numbered from 0, and a set of them answers for each number whether that flag is set. A system says how many flags there are, and what a set answers for a number past them means nothing.
abbrev pub Flags : Type 0
Flags = ℕ → Bool

-- the set in which no flag is set
abbrev pub empty : Flags
empty c = false

-- a set within another: of the flags below n, each that is set in the one is set in the other
abbrev pub Within : ℕ → Flags → Flags → Type 0
Within n S T = (c : ℕ) → c < n → S c ≡ true → T c ≡ true

-- two sets that have the same flags below n
abbrev pub Same : ℕ → Flags → Flags → Type 0
Same n S T = (c : ℕ) → c < n → S c ≡ T c

-- the number of flags that are set, of those below n
abbrev pub count : ℕ → Flags → ℕ
count zero S = 0
count (suc n) S = cond (S n) (suc (count n S)) (count n S)
