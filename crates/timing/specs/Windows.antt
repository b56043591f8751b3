-- When each node may switch, and which latch is late or early, under a set of couplings.
use Rattle.std.specs.Prelude.{◌≡◌, ℕ, Bool, true, false, ℤ, ◌≤ℤ◌, ◌<ℤ◌}
use Rattle.design.specs.declared.nodes.Node.{Node}
use Rattle.design.specs.declared.nodes.Node.TheVariants.{Free, Input, Gate, Latch}
use Rattle.design.specs.Rows.{is_latch, phase_of}
use Rattle.design.specs.Table.{Table}
use Rattle.paths.specs.Networks.{Path, has_step, is_short}
use Rattle.paths.specs.Figures.{figure, Greatest, Least, NoEnd, every}
use Rattle.timing.specs.declared.windows.Window.{Window}
use Rattle.timing.specs.Connections.{row, network, early_opening, late_bound, early_bound}
use Rattle.timing.specs.Figures.{late, early}

-- a path in a table to node v
abbrev pub PathTo : Table → ℕ → Type 0
PathTo t v = Path (network t.nodes) v

-- a window ends at the greatest late figure of the node's paths
abbrev pub Ends : Table → (ℕ → Bool) → ℕ → ℤ → Type 0
Ends t S v f = Greatest {n = network t.nodes} {v = v} (late t S) every f

-- a window has no end if the late figures of the node's paths grow past every number
abbrev pub HasNoEnd : Table → (ℕ → Bool) → ℕ → Type 0
HasNoEnd t S v = NoEnd (network t.nodes) (late t S) v

-- where a window begins, of a latch and of another node
abbrev pub BeginsBy : Bool → Table → (ℕ → Bool) → ℕ → ℤ → Type 0
BeginsBy true t S v f = f ≡ early_opening t.clock (phase_of (row t.nodes v))
BeginsBy false t S v f = Least {n = network t.nodes} {v = v} (early t S) is_short f

-- a window begins at the opening edge of a latch, and at any other node at the least early figure of its short paths
abbrev pub Begins : Table → (ℕ → Bool) → ℕ → ℤ → Type 0
Begins t S v f = BeginsBy (is_latch (row t.nodes v)) t S v f

-- the window of node v
pub record IsWindow (t : Table) (S : ℕ → Bool) (v : ℕ) (w : Window) : Type 0 where
  pub begins : Begins t S v w.begins
  pub ends : Ends t S v w.ends

-- a window that includes another: it begins no later and ends no earlier
abbrev pub Includes : Window → Window → Type 0
Includes w x = (w.begins ≤ℤ x.begins) × (x.ends ≤ℤ w.ends)

-- the setup of a latch
abbrev pub setup_of : Node → ℕ
setup_of Free = 0
setup_of (Input phase earliest latest) = 0
setup_of (Gate phase least greatest sources) = 0
setup_of (Latch phase least greatest setup hold source) = setup

-- the hold of a latch
abbrev pub hold_of : Node → ℕ
hold_of Free = 0
hold_of (Input phase earliest latest) = 0
hold_of (Gate phase least greatest sources) = 0
hold_of (Latch phase least greatest setup hold source) = hold

-- a latch is late if a path of one step or more arrives there with a late figure after its late bound
abbrev pub IsLate : Table → (ℕ → Bool) → ℕ → Type 0
IsLate t S v = (is_latch (row t.nodes v) ≡ true) × ((p : PathTo t v) × (has_step p ≡ true) × (late_bound t.clock (setup_of (row t.nodes v)) <ℤ figure (late t S) p))

-- a latch is early if a short path of one step or more arrives there with an early figure before its early bound
abbrev pub IsEarly : Table → (ℕ → Bool) → ℕ → Type 0
IsEarly t S v = (is_latch (row t.nodes v) ≡ true) × ((p : PathTo t v) × (is_short p ≡ true) × (has_step p ≡ true) × (figure (early t S) p <ℤ early_bound (hold_of (row t.nodes v))))
