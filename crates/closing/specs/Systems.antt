-- What comes about under a set of flags, and when such a set is closed.
use Rattle.std.specs.Prelude.{◌≡◌, ℕ, ◌<◌, Bool, true, false}
use Rattle.closing.specs.Sets.{Flags, Within}

-- A system has a flag for each coupling, as many as its size. It says under which sets everything is bounded, under which something grows without an end, and which flags are seen under a set.
pub record System : Type 1 where
  pub size : ℕ
  pub Bounded : Flags → Type 0
  pub Endless : Flags → Type 0
  pub Sees : Flags → ℕ → Type 0

-- A set is not both bounded and without an end. What grows without an end under a set does so under every set that holds it. Nor do more flags hide what was seen: a bounded set sees all that the sets within it see.
pub record Monotone (system : System) : Type 0 where
  pub not_both : (S : Flags) → system.Bounded S → system.Endless S → ⊥
  pub endless_within : (S T : Flags) → Within system.size S T → system.Endless S → system.Endless T
  pub sees_within : (S T : Flags) → Within system.size S T → system.Bounded T → (c : ℕ) → c < system.size → system.Sees S c → system.Sees T c

-- a closed set: everything under it is bounded, and each flag that is seen under it is set
pub record Closed (system : System) (S : Flags) : Type 0 where
  pub bounded : system.Bounded S
  pub holds_seen : (c : ℕ) → c < system.size → system.Sees S c → S c ≡ true

-- a set within every closed set
abbrev pub InEveryClosed : System → Flags → Type 0
InEveryClosed system S = (T : Flags) → Closed system T → Within system.size S T

-- the least closed set: it is closed, and lies within every closed set
pub record LeastClosed (system : System) (S : Flags) : Type 0 where
  pub closed : Closed system S
  pub least : InEveryClosed system S

-- a system that tells by yes and no whether a set is bounded, and whether a flag is seen
pub record Decided : Type 0 where
  pub size : ℕ
  pub bounded : Flags → Bool
  pub sees : Flags → ℕ → Bool

-- the system of such answers, where a set that is not bounded has something without an end
abbrev pub decided : Decided → System
decided d = record { size = d.size; Bounded = λ S. d.bounded S ≡ true; Endless = λ S. d.bounded S ≡ false; Sees = λ S c. d.sees S c ≡ true }
