-- Visits in place, block by block.
use Rattle.std.specs.Prelude.{◌≡◌, ℕ, ◌+◌, ◌<◌, ◌≤◌, Bool, false, cond, ◌⊎◌, List, length, nat_lt}
use Rattle.paths.specs.Networks.{Network}
use Rattle.paths.specs.Kinds.{Kind, Restarts}
use Rattle.paths.specs.Sweeps.{Course}
use Rattle.rings.specs.InPlace.{visited, Visits, Rests}
use Rattle.windows.specs.declared.blocks.Blocks.{Blocks}
use Rattle.windows.specs.Blocks.{block_of, has_block}
use Rattle.windows.specs.Seen.{figure_at}

-- every node is at rest, but for those of stale blocks
pub record RestBut {F S : Type 0} (kind : Kind F S) (n : Network) (course : Course F S) (r : Restarts F) (leaves : ℕ → F) (stale : Blocks) : Type 0 where
  pub rests : (v : ℕ) → v < n.size → has_block stale (block_of v) ≡ false → Rests kind n course r leaves v

-- no block is stale
abbrev pub NoneStale : Blocks → Type 0
NoneStale stale = (b : ℕ) → has_block stale b ≡ false

-- what is read of nodes while one is visited in the order of their numbers: those before it as they are left now, the others as they were
abbrev pub read_at : {F : Type 0} → ℕ → (ℕ → F) → (ℕ → F) → ℕ → F
read_at v old new k = cond (nat_lt k v) (new k) (old k)

-- The nodes from one number up to another are visited in their order, and no other. Whether any is left with another figure is told.
pub record VisitedInOrder {F S : Type 0} (kind : Kind F S) (n : Network) (course : Course F S) (r : Restarts F) (from to : ℕ) (old new : List F) (changed : Bool) : Type 0 where
  pub long : length new ≡ length old
  pub within : (v : ℕ) → from ≤ v → v < to → figure_at kind.no_path new v ≡ visited kind n course r (read_at v (figure_at kind.no_path old) (figure_at kind.no_path new)) v
  pub apart : (v : ℕ) → (v < from) ⊎ (to ≤ v) → figure_at kind.no_path new v ≡ figure_at kind.no_path old v
  pub same : changed ≡ false → new ≡ old
  pub visits : (count : ℕ) × (count + from ≤ to) × Visits kind n course r count (figure_at kind.no_path old) (figure_at kind.no_path new)
