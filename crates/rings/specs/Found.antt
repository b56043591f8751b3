-- What settled sweeps of the latest and of the earliest kind have found of the paths in a network.
use Rattle.std.specs.Prelude.{◌≡◌, ℕ, ◌<◌, ◌≤◌, Bool, true, false, ℤ, pos, neg_ℤ, ◌≤ℤ◌}
use Rattle.paths.specs.Networks.{Network, Path, Connected, Sound, has_step, latch_count}
use Rattle.paths.specs.Figures.{Measure, figure, adding, Greatest, Least, every, Unbounded}
use Rattle.paths.specs.Sweeps.{Course, leaving, arrives_short}
use Rattle.kinds.specs.declared.arrival.Arrival.{Arrival}
use Rattle.kinds.specs.declared.arrival.Arrival.TheVariants.{NoPath, At, NoEnd}
use Rattle.kinds.specs.Arrivals.{latest_kind, latest_restarts, earliest_kind, earliest_restarts}
use Rattle.rings.specs.Settling.{Settled}

-- no path to a node is picked
abbrev pub NoneOf : {n : Network} {v : ℕ} → (Path n v → Bool) → Type 0
NoneOf {n} {v} picks = (p : Path n v) → picks p ≡ true → ⊥

-- what a latest arrival says of the picked paths to a node
abbrev pub IsLatest : {n : Network} {v : ℕ} → Measure ℤ → (Path n v → Bool) → Arrival → Type 0
IsLatest m picks NoPath = NoneOf picks
IsLatest m picks (At f) = Greatest m picks f
IsLatest m picks NoEnd = Unbounded m picks

-- what an earliest arrival says of the picked paths to a node
abbrev pub IsEarliest : {n : Network} {v : ℕ} → Measure ℤ → (Path n v → Bool) → Arrival → Type 0
IsEarliest m picks NoPath = NoneOf picks
IsEarliest m picks (At f) = Least m picks f
IsEarliest m picks NoEnd = ⊥

-- a figure of no more than 2 ^ 32, above or below 0
abbrev pub Small : ℤ → Type 0
Small z = (neg_ℤ (pos 4294967296) ≤ℤ z) × (z ≤ℤ pos 4294967296)

-- A course over a network of at most 4096 nodes that says what paths start with and what connections gain, all of them small.
pub record Says (n : Network) (course : Course Arrival ℤ) (first : ℕ → ℤ) (gain : ℕ → ℕ → ℤ) : Type 0 where
  pub few : n.size ≤ 4096
  pub starts : (v : ℕ) → n.is_origin v ≡ true → n.is_latch v ≡ false → course.start v ≡ At (first v)
  pub steps : (k v : ℕ) → Connected n k v → course.step k v ≡ gain k v
  pub small_starts : (v : ℕ) → n.is_origin v ≡ true → Small (first v)
  pub small_gains : (k v : ℕ) → Connected n k v → Small (gain k v)

-- 2 ^ 56 + 2 ^ 46. A path that enters no more latches than there are follows fewer than 4096 * 4098 connections, so it has no greater figure, nor has a latch that settled sweeps leave with an end.
abbrev pub settled_size : ℤ
settled_size = pos 72127962782105600

-- 2 ^ 57: past every figure that settled sweeps leave a latch with, or visits after them
abbrev pub furthest : ℤ
furthest = pos 144115188075855872

-- What latches may begin from before the first sweep: no less than the path that only starts there, no more than some path to the latch, and not past the furthest figure.
pub record Begins (n : Network) (first : ℕ → ℤ) (gain : ℕ → ℕ → ℤ) (begun : ℕ → Arrival) : Type 0 where
  pub at : (v : ℕ) → n.is_latch v ≡ true → (x : ℤ) × (begun v ≡ At x) × (first v ≤ℤ x) × (x ≤ℤ furthest) × (p : Path n v) × (x ≤ℤ figure (adding first gain) p)

-- what settled sweeps of the latest kind have found: at each node its paths, at each latch those of one step or more too, no node without an end but where a latch has none, and no latch that starts past the settled size but without an end
pub record LatestFound (n : Network) (first : ℕ → ℤ) (gain : ℕ → ℕ → ℤ) (starts column : ℕ → Arrival) : Type 0 where
  pub nodes : (v : ℕ) → v < n.size → IsLatest {n = n} {v = v} (adding first gain) every (leaving n starts column v)
  pub arrivals : (v : ℕ) → v < n.size → n.is_latch v ≡ true → IsLatest {n = n} {v = v} (adding first gain) has_step (column v)
  pub led : (v : ℕ) → v < n.size → leaving n starts column v ≡ NoEnd → (u : ℕ) × (u < n.size) × (n.is_latch u ≡ true) × (starts u ≡ NoEnd)
  pub near : (v : ℕ) → n.is_latch v ≡ true → (x : ℤ) → starts v ≡ At x → x ≤ℤ settled_size

-- Whatever latches may begin from, sweeps of the latest kind settle on the greatest figures. A latch that climbs in a sweep before which as many were made as there are latches has no end, nor has what it leads to.
abbrev pub LatestSettles : Type 0
LatestSettles =
    (n : Network) (course : Course Arrival ℤ) (first : ℕ → ℤ) (gain : ℕ → ℕ → ℤ) (begun : ℕ → Arrival) (made : ℕ) (starts column : ℕ → Arrival) →
    Sound n → Says n course first gain → Begins n first gain begun →
    Settled latest_kind n course latest_restarts (latch_count n) begun made starts column →
    LatestFound n first gain starts column

-- sweeps of the earliest kind settle on the least figures of the short paths that arrive at each node
abbrev pub EarliestSettles : Type 0
EarliestSettles =
    (n : Network) (course : Course Arrival ℤ) (first : ℕ → ℤ) (gain : ℕ → ℕ → ℤ) (limit made : ℕ) (starts column : ℕ → Arrival) →
    Sound n → Says n course first gain →
    Settled earliest_kind n course earliest_restarts limit (λ v. At (first v)) made starts column →
    (v : ℕ) → v < n.size → IsEarliest {n = n} {v = v} (adding first gain) arrives_short (column v)
