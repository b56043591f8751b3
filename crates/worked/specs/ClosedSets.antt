-- What the judgements of design K under the rule of three occurrences say of all sets of its couplings.
use Rattle.std.specs.Prelude.{ℕ, false, pos, slice_index_or}
use Rattle.closing.specs.Sets.{Flags, Within}
use Rattle.timing.specs.declared.windows.Window.{Window}
use Rattle.timing.specs.Windows.{IsWindow, Includes, IsLate, IsEarly}
use Rattle.timing.specs.Breaches.{NoNode}
use Rattle.rules.specs.Rules.{three_occurrences}
use Rattle.judging.specs.Right.{IsClosed}
use Rattle.worked.specs.Designs.{design_k}
use Rattle.worked.specs.Examples.{from_to, both}

-- the set of both couplings
abbrev pub both_couplings : Flags
both_couplings c = slice_index_or both c false

-- a closed set of the couplings of design K
abbrev pub ClosedInK : (opposing hold : ℕ) → Flags → Type 0
ClosedInK opposing hold T = IsClosed (design_k opposing hold) three_occurrences T

-- a set under which no latch of design K is late or early
abbrev pub PassesInK : (opposing hold : ℕ) → Flags → Type 0
PassesInK opposing hold T =
    NoNode (design_k opposing hold) (IsLate (design_k opposing hold) T)
    × NoNode (design_k opposing hold) (IsEarly (design_k opposing hold) T)

-- Where K passes, both couplings are a closed set, every closed set has both, gate 4 switches in it from 67 to 92 or longer, and some closed set passes. Where a latch is late or early, it is so under every closed set. Where K gains, no set is closed.
pub record ClosedSetsOfK : Type 0 where
  pub closed : ClosedInK 9 3 both_couplings
  pub least : (T : Flags) → ClosedInK 9 3 T → Within 2 both_couplings T
  pub shown : (T : Flags) (w : Window) → ClosedInK 9 3 T → IsWindow (design_k 9 3) T 4 w → Includes w (from_to (pos 67) (pos 92))
  pub passes : (T : Flags) × ClosedInK 9 3 T × PassesInK 9 3 T
  pub late : (T : Flags) → ClosedInK 48 3 T → PassesInK 48 3 T → ⊥
  pub early : (T : Flags) → ClosedInK 9 21 T → PassesInK 9 21 T → ⊥
  pub gains : (T : Flags) → ClosedInK 59 3 T → ⊥
