-- Nodes visited one at a time, in any order: each takes at once what comes to it.
use Rattle.std.specs.Prelude.{◌≡◌, ℕ, suc, ◌*◌, ◌+◌, ◌<◌, true, false, cond, ℤ, pos, neg_ℤ, ◌≤ℤ◌}
use Rattle.paths.specs.Networks.{Network, Path}
use Rattle.paths.specs.Figures.{figure, adding}
use Rattle.paths.specs.Kinds.{Kind, Restarts}
use Rattle.paths.specs.Sweeps.{Course, arrival}
use Rattle.kinds.specs.declared.arrival.Arrival.{Arrival}
use Rattle.kinds.specs.declared.arrival.Arrival.TheVariants.{At, NoEnd}

-- what comes to a node where every node is left with the figure that a function says
abbrev pub comes : {F S : Type 0} → Kind F S → Network → Course F S → (ℕ → F) → ℕ → F
comes kind n course leaves v = arrival kind n course leaves leaves v

-- The figure with which a node is left once it has been visited: a latch with what it restarts from if what came to it is more than what it started from, and else as before; any other node with what came to it.
abbrev pub visited : {F S : Type 0} → Kind F S → Network → Course F S → Restarts F → (ℕ → F) → ℕ → F
visited kind n course r leaves v =
    let came = comes kind n course leaves v in
    cond (n.is_latch v) (cond (r.climbs (leaves v) came) (r.restart (leaves v) came) (leaves v)) came

-- So many visits, one after another.
pub data Visits {F S : Type 0} (kind : Kind F S) (n : Network) (course : Course F S) (r : Restarts F) : ℕ → (ℕ → F) → (ℕ → F) → Type 0 where
  unvisited : {old new : ℕ → F} → ((v : ℕ) → v < n.size → new v ≡ old v) → Visits kind n course r 0 old new
  visit : {k : ℕ} {old mid new : ℕ → F} → Visits kind n course r k old mid → (v : ℕ) → v < n.size → new v ≡ visited kind n course r mid v → ((u : ℕ) → u < n.size → (u ≡ v → ⊥) → new u ≡ mid u) → Visits kind n course r (suc k) old new

-- A node at rest: a latch that does not climb, or another node which is left with what comes to it.
pub record Rests {F S : Type 0} (kind : Kind F S) (n : Network) (course : Course F S) (r : Restarts F) (leaves : ℕ → F) (v : ℕ) : Type 0 where
  pub latch : n.is_latch v ≡ true → r.climbs (leaves v) (comes kind n course leaves v) ≡ false
  pub other : n.is_latch v ≡ false → leaves v ≡ comes kind n course leaves v

-- how large a late figure is at most, so many visits after sweeps have settled
abbrev pub size_visited : ℕ → ℕ
size_visited k = 72198331526283264 + k * 4294967296

-- a figure that is no more than that of some path to a node, and not large
pub record Below (n : Network) (first : ℕ → ℤ) (gain : ℕ → ℕ → ℤ) (k v : ℕ) (x : ℤ) : Type 0 where
  pub path : Path n v
  pub within : x ≤ℤ figure (adding first gain) path
  pub low : neg_ℤ (pos (size_visited k)) ≤ℤ x
  pub high : x ≤ℤ pos (size_visited k)

-- What late figures nodes are left with, so many visits after sweeps have settled or before any sweep: none is without an end, each is no more than that of some path, and a latch is left with no less than its opening edge.
pub record Near (n : Network) (first : ℕ → ℤ) (gain : ℕ → ℕ → ℤ) (k : ℕ) (leaves : ℕ → Arrival) : Type 0 where
  pub ends : (v : ℕ) → v < n.size → leaves v ≡ NoEnd → ⊥
  pub below : (v : ℕ) (x : ℤ) → v < n.size → leaves v ≡ At x → Below n first gain k v x
  pub opened : (v : ℕ) → n.is_latch v ≡ true → (x : ℤ) × (leaves v ≡ At x) × (first v ≤ℤ x)
