-- What holds of windows in every table.
use Rattle.std.specs.Prelude.{◌≡◌, ℕ, Bool, length}
use Rattle.design.specs.Table.{Table}
use Rattle.timing.specs.declared.windows.Window.{Window}
use Rattle.closing.specs.Sets.{Within}
use Rattle.timing.specs.Windows.{HasNoEnd, IsWindow, Includes}

-- a node has one window at most
abbrev pub WindowsAreOne : Type 0
WindowsAreOne = (t : Table) (S : ℕ → Bool) (v : ℕ) (w x : Window) → IsWindow t S v w → IsWindow t S v x → w ≡ x

-- a node with a window has an end
abbrev pub WindowsEnd : Type 0
WindowsEnd = (t : Table) (S : ℕ → Bool) (v : ℕ) (w : Window) → IsWindow t S v w → HasNoEnd t S v → ⊥

-- more couplings give windows that include the old ones, and a window without an end is then without one still
abbrev pub WindowsGrow : Type 0
WindowsGrow =
    (t : Table) (S T : ℕ → Bool) → Within (length t.couplings) S T → (v : ℕ) →
    ((w x : Window) → IsWindow t S v w → IsWindow t T v x → Includes x w)
    × (HasNoEnd t S v → HasNoEnd t T v)
