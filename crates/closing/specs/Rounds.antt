-- Rounds that set flags until nothing new is seen, or something has no end.
use Rattle.std.specs.Prelude.{◌≡◌, ℕ, suc, ◌<◌, true, false}
use Rattle.closing.specs.Sets.{Flags, Within, Same}
use Rattle.closing.specs.Systems.{System, Closed, LeastClosed}

-- a fresh flag: it is seen, and was not set before
pub record Fresh (system : System) (S : Flags) (c : ℕ) : Type 0 where
  pub below : c < system.size
  pub seen : system.Sees S c
  pub unset : S c ≡ false

-- what a round makes of a set: every flag stays that is set, each that is seen is set, all of them at once, and no other
pub record Grown (system : System) (S T : Flags) : Type 0 where
  pub keeps : Within system.size S T
  pub adds : (c : ℕ) → c < system.size → system.Sees S c → T c ≡ true
  pub only : (c : ℕ) → c < system.size → T c ≡ true → S c ≡ false → system.Sees S c

-- how rounds end: under a set something is without an end, or they settle on a set
pub data Outcome : Type 0 where
  without_end : Flags → Outcome
  settled : Flags → Outcome

-- the set of the last round
abbrev pub set_of : Outcome → Flags
set_of (without_end F) = F
set_of (settled F) = F

-- The rounds from a set, how many they are, and their outcome. The last one finds something without an end, or that all is bounded and no flag is fresh; it counts too. Each one before it finds all bounded and a fresh flag, and sets all flags that are seen: so every round but the last sets a flag that was not set before.
pub data Rounds (system : System) : Flags → ℕ → Outcome → Type 0 where
  endless : {S : Flags} → system.Endless S → Rounds system S 1 (without_end S)
  at_rest : {S : Flags} → system.Bounded S → ((c : ℕ) → Fresh system S c → ⊥) → Rounds system S 1 (settled S)
  again : {S T : Flags} {k : ℕ} {o : Outcome} (c : ℕ) → system.Bounded S → Fresh system S c → Grown system S T → Rounds system T k o → Rounds system S (suc k) o

-- two outcomes that are the same, for the flags of a system of this size
abbrev pub SameOutcome : ℕ → Outcome → Outcome → Type 0
SameOutcome n (without_end F) (without_end G) = Same n F G
SameOutcome n (without_end F) (settled G) = ⊥
SameOutcome n (settled F) (without_end G) = ⊥
SameOutcome n (settled F) (settled G) = Same n F G

-- What the outcome of rounds from a set means: that no set is closed, or that the set on which they settle is the least closed one, and holds all that they began with.
abbrev pub Means : System → Flags → Outcome → Type 0
Means system S (without_end F) = (T : Flags) → Closed system T → ⊥
Means system S (settled F) = LeastClosed system F × Within system.size S F
