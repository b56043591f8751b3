-- Windows without an end and latches that are late or early under a set of couplings: the lowest of them, and by how much.
use Rattle.std.specs.Prelude.{◌≡◌, ℕ, ◌<◌, Bool, true, ◌&&◌, length, ℤ, ◌-ℤ◌}
use Rattle.design.specs.Rows.{is_latch}
use Rattle.design.specs.Table.{Table}
use Rattle.paths.specs.Networks.{Network, Path, has_step, is_short}
use Rattle.paths.specs.Figures.{Greatest, Least}
use Rattle.timing.specs.declared.windows.Window.{Window}
use Rattle.timing.specs.Connections.{row, network, late_bound, early_bound}
use Rattle.timing.specs.Figures.{late, early}
use Rattle.timing.specs.Windows.{HasNoEnd, IsWindow, setup_of, hold_of}

-- the lowest node of a table of which something holds
abbrev pub Lowest : Table → (ℕ → Type 0) → ℕ → Type 0
Lowest t holds v = (v < length t.nodes) × holds v × ((u : ℕ) → u < v → holds u → ⊥)

-- no node of a table of which something holds
abbrev pub NoNode : Table → (ℕ → Type 0) → Type 0
NoNode t holds = (v : ℕ) → v < length t.nodes → holds v → ⊥

-- a latch whose window has no end
abbrev pub EndlessLatch : Table → (ℕ → Bool) → ℕ → Type 0
EndlessLatch t S v = (is_latch (row t.nodes v) ≡ true) × HasNoEnd t S v

-- every node has a window, with an end; a node of a table so far always has a beginning of one
abbrev pub AllEnd : Table → (ℕ → Bool) → Type 0
AllEnd t S = (v : ℕ) → v < length t.nodes → (w : Window) × IsWindow t S v w

-- by how much a latch is late: the greatest late figure of the paths of one step or more that arrive there, less its late bound
abbrev pub LateBy : Table → (ℕ → Bool) → ℕ → ℤ → Type 0
LateBy t S v excess =
    (f : ℤ) × Greatest {n = network t.nodes} {v = v} (late t S) has_step f × (excess ≡ f -ℤ late_bound t.clock (setup_of (row t.nodes v)))

-- a short path of one step or more
abbrev pub short_step : {n : Network} {v : ℕ} → Path n v → Bool
short_step p = is_short p && has_step p

-- by how much a latch is early: its early bound, less the least early figure of the short paths of one step or more that arrive there
abbrev pub EarlyBy : Table → (ℕ → Bool) → ℕ → ℤ → Type 0
EarlyBy t S v excess =
    (f : ℤ) × Least {n = network t.nodes} {v = v} (early t S) short_step f × (excess ≡ early_bound (hold_of (row t.nodes v)) -ℤ f)
