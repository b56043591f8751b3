-- What a verdict says of all closed sets of a table's couplings.
use Rattle.std.specs.Prelude.{◌≡◌, ℕ, ◌+◌, ◌<◌, ◌≤◌, Bool, ◌≢◌, ◌↔◌, length}
use Rattle.closing.specs.Sets.{Flags, Within}
use Rattle.closing.specs.Systems.{Closed}
use Rattle.design.specs.Table.{Table}
use Rattle.timing.specs.declared.windows.Window.{Window}
use Rattle.timing.specs.Windows.{IsWindow, Includes, IsLate, IsEarly}
use Rattle.timing.specs.Breaches.{NoNode}
use Rattle.rules.specs.Questions.{Question}
use Rattle.judging.specs.declared.verdict.Judgement.{Judgement}
use Rattle.judging.specs.Couplings.{system_of}
use Rattle.judging.specs.Verdicts.{number_of}

-- a closed set of a table's couplings
abbrev pub IsClosed : Table → (Question → Bool) → Flags → Type 0
IsClosed t sees T = Closed (system_of t sees) T

-- A judgement that is right. The verdict is 0 exactly when some closed set leaves no latch late or early, and gain exactly when no set is closed. Unless it is gain, the flags form a closed set, and every closed set includes them and has windows that include those shown. The rounds are at most one more than the couplings.
pub record Right (t : Table) (sees : Question → Bool) (j : Judgement) (S : Flags) (windows : ℕ → Window) : Type 0 where
  pub passes : (number_of j.verdict ≡ 0) ↔ ((T : Flags) × IsClosed t sees T × NoNode t (IsLate t T) × NoNode t (IsEarly t T))
  pub gains : (number_of j.verdict ≡ 64) ↔ ((T : Flags) → IsClosed t sees T → ⊥)
  pub closed : number_of j.verdict ≢ 64 → IsClosed t sees S
  pub least : number_of j.verdict ≢ 64 → (T : Flags) → IsClosed t sees T → Within (length t.couplings) S T × ((v : ℕ) (w : Window) → v < length t.nodes → IsWindow t T v w → Includes w (windows v))
  pub few : j.rounds ≤ length t.couplings + 1
