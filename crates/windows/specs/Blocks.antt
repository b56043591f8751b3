-- Nodes in blocks, which blocks lead to which, and blocks that are stale: those in which a figure may not be what comes to its node.
use Rattle.std.specs.Prelude.{◌≡◌, ℕ, ◌+◌, ◌*◌, ◌/◌, ◌<◌, ◌≤◌, min, Bool, true, false, not, ◌⊎◌, List, [], length, drop, Option, Some, None, slice_index_or}
use Rattle.paths.specs.Networks.{Network, Connected, Sound}
use Rattle.paths.specs.Kinds.{Kind, Restarts}
use Rattle.paths.specs.Sweeps.{Course, arrival}
use Rattle.windows.specs.declared.blocks.Blocks.{Blocks}
use Rattle.windows.specs.declared.blocks.Leads.{Leads}
use Rattle.windows.specs.Seen.{figure_at}

-- the block of a node
abbrev pub block_of : ℕ → ℕ
block_of v = v / 16

-- how many blocks so many nodes are in
abbrev pub blocks_of : ℕ → ℕ
blocks_of count = (count + 15) / 16

-- how many of so many nodes stand in the blocks before one
abbrev pub nodes_before : ℕ → ℕ → ℕ
nodes_before count b = min count (16 * b)

-- a set of blocks has a block
abbrev pub has_block : Blocks → ℕ → Bool
has_block blocks b = slice_index_or blocks.members b false

-- the first block of a set from one on and below another, or none
abbrev pub IsNext : Blocks → ℕ → ℕ → Option ℕ → Type 0
IsNext blocks from to None = (b : ℕ) → from ≤ b → b < to → has_block blocks b ≡ false
IsNext blocks from to (Some next) = (from ≤ next) × (next < to) × (has_block blocks next ≡ true) × ((b : ℕ) → from ≤ b → b < next → has_block blocks b ≡ false)

-- the blocks that a block leads to
abbrev pub led_from : Leads → ℕ → Blocks
led_from leads a = slice_index_or leads.to a (record { members = [] })

-- the block of a source leads to that of each node that is connected from it, but that a source need not lead to a node behind it in its own block
abbrev pub AllLeads : Network → Leads → Type 0
AllLeads n leads = (k v : ℕ) → Connected n k v → k < 4096 → v < 4096 → ((block_of k ≡ block_of v) × (k < v)) ⊎ (has_block (led_from leads (block_of k)) (block_of v) ≡ true)

-- the same, said so that a struct can keep it: there is no more than one proof
abbrev pub LeadsKept : Network → Leads → Type 0
LeadsKept n leads = (k v : ℕ) → Connected n k v → k < 4096 → v < 4096 → (block_of k ≡ block_of v → k < v → ⊥) → has_block (led_from leads (block_of k)) (block_of v) ≡ true

-- a node at which stands what comes to it
abbrev pub IsFresh : {F S : Type 0} → Kind F S → Network → Course F S → (ℕ → F) → (ℕ → F) → ℕ → Type 0
IsFresh kind n course starts column v = column v ≡ arrival kind n course starts column v

-- every node is fresh, but for those of stale blocks
pub record FreshBut {F S : Type 0} (kind : Kind F S) (n : Network) (course : Course F S) (starts column : ℕ → F) (stale : Blocks) : Type 0 where
  pub fresh : (v : ℕ) → v < n.size → has_block stale (block_of v) ≡ false → IsFresh kind n course starts column v

-- no latch climbs, but for those of stale blocks
pub record StillBut {F : Type 0} (r : Restarts F) (n : Network) (starts column : ℕ → F) (stale : Blocks) : Type 0 where
  pub still : (v : ℕ) → v < n.size → n.is_latch v ≡ true → has_block stale (block_of v) ≡ false → r.climbs (starts v) (column v) ≡ false

-- what was stale is stale, and every figure is as before, but for those of stale blocks
pub record KeptBut {F : Type 0} (no_path : F) (was stale : Blocks) (old new : List F) : Type 0 where
  pub grows : (b : ℕ) → has_block was b ≡ true → has_block stale b ≡ true
  pub kept : (v : ℕ) → has_block stale (block_of v) ≡ false → figure_at no_path new v ≡ figure_at no_path old v

-- a block is stale, and so is every block that it leads to
pub record IsAwake (leads : Leads) (stale : Blocks) (b : ℕ) : Type 0 where
  pub itself : has_block stale b ≡ true
  pub led : (a : ℕ) → has_block (led_from leads b) a ≡ true → has_block stale a ≡ true

-- of each latch below a number that climbs the block is stale, with those that it leads to
pub record ClimbsWake {F : Type 0} (r : Restarts F) (n : Network) (leads : Leads) (count : ℕ) (starts column : ℕ → F) (stale : Blocks) : Type 0 where
  pub awake : (v : ℕ) → v < count → n.is_latch v ≡ true → r.climbs (starts v) (column v) ≡ true → IsAwake leads stale (block_of v)

-- From one number up to another the latches are filled, or the other nodes: at each stands what comes to it. All other places are as before.
pub record Filled {F S : Type 0} (kind : Kind F S) (n : Network) (course : Course F S) (starts : ℕ → F) (latches : Bool) (from to : ℕ) (old new : List F) : Type 0 where
  pub long : length new ≡ length old
  pub beyond : drop n.size new ≡ drop n.size old
  pub set : Sound n → (v : ℕ) → from ≤ v → v < to → n.is_latch v ≡ latches → IsFresh kind n course starts (figure_at kind.no_path new) v
  pub apart : (v : ℕ) → (v < from) ⊎ (to ≤ v) → figure_at kind.no_path new v ≡ figure_at kind.no_path old v
  pub others : (v : ℕ) → n.is_latch v ≡ not latches → figure_at kind.no_path new v ≡ figure_at kind.no_path old v
