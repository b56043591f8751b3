-- Networks of nodes, and the paths in them.
use Rattle.std.specs.Prelude.{◌≡◌, ℕ, suc, ◌<◌, Bool, true, false, cond, not, ◌&&◌, ◌⊎◌, List, [], ◌∷◌}
use Rattle.closing.specs.Sets.{count}

-- The nodes are the numbers below `size`. Paths start at origins; latches cut them into short ones. The sources of a node are the nodes that it is connected from.
pub record Network : Type 0 where
  pub size : ℕ
  pub is_origin : ℕ → Bool
  pub is_latch : ℕ → Bool
  pub sources : ℕ → List ℕ

-- a number that is in a list
abbrev pub IsIn : ℕ → List ℕ → Type 0
IsIn k [] = ⊥
IsIn k (x ∷ xs) = (k ≡ x) ⊎ IsIn k xs

-- a connection from k to v
abbrev pub Connected : Network → ℕ → ℕ → Type 0
Connected n k v = IsIn k (n.sources v)

-- A path to a node: it starts at an origin and follows any number of connections, or none.
pub data Path (n : Network) : ℕ → Type 0 where
  start : {v : ℕ} → n.is_origin v ≡ true → Path n v
  step : {k v : ℕ} → Path n k → Connected n k v → Path n v

-- how many connections a path follows
abbrev pub steps : {n : Network} {v : ℕ} → Path n v → ℕ
steps (start o) = 0
steps (step p c) = suc (steps p)

-- how many of its steps enter a latch; where it starts is not entered
abbrev pub latches_entered : {n : Network} {v : ℕ} → Path n v → ℕ
latches_entered (start o) = 0
latches_entered {n} {v} (step p c) = cond (n.is_latch v) (suc (latches_entered p)) (latches_entered p)

-- a path of one step or more
abbrev pub has_step : {n : Network} {v : ℕ} → Path n v → Bool
has_step (start o) = false
has_step (step p c) = true

-- a path that enters no latch
abbrev pub enters_none : {n : Network} {v : ℕ} → Path n v → Bool
enters_none (start o) = true
enters_none {n} {v} (step p c) = not (n.is_latch v) && enters_none p

-- a short path: no latch lies between its ends
abbrev pub is_short : {n : Network} {v : ℕ} → Path n v → Bool
is_short (start o) = true
is_short (step p c) = enters_none p

-- how many latches a network has
abbrev pub latch_count : Network → ℕ
latch_count n = count n.size n.is_latch

-- Origins and the ends of connections are nodes, a latch is an origin, an origin that is no latch has no source, and only a latch may be connected from a node that does not stand before it: there is no ring without a latch.
pub record Sound (n : Network) : Type 0 where
  pub origins : (v : ℕ) → n.is_origin v ≡ true → v < n.size
  pub sources : (k v : ℕ) → Connected n k v → (k < n.size) × (v < n.size)
  pub latches : (v : ℕ) → n.is_latch v ≡ true → n.is_origin v ≡ true
  pub inputs : (v : ℕ) → n.is_origin v ≡ true → n.is_latch v ≡ false → n.sources v ≡ []
  pub order : (k v : ℕ) → Connected n k v → n.is_latch v ≡ false → k < v
