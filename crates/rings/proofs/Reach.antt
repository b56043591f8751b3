-- What is said of one sweep in whole numbers, for the latest and the earliest kind alike.
use Rattle.std.proofs.Common.{◌≡◌, ℕ, ◌+◌, ◌*◌, ◌<◌, ◌≤◌, true, false, ℤ, ◌+ℤ◌, ◌≤ℤ◌, arith}
use Rattle.std.proofs.lemmas.Int.{ints}
use Rattle.paths.specs.Networks.{Network, Path, start, step, Connected, has_step, latches_entered}
use Rattle.paths.specs.Figures.{Measure, figure, adding, every, Unbounded}
use Rattle.paths.specs.Kinds.{Kind}
use Rattle.paths.specs.Sweeps.{leaving}
use Rattle.paths.proofs.Steps.{Within}
use Rattle.kinds.specs.declared.arrival.Arrival.{Arrival}
use Rattle.kinds.specs.declared.arrival.Arrival.TheVariants.{NoPath, At, NoEnd as Endless}
use Rattle.kinds.specs.Arrivals.{latest_kind, earliest_kind}

-- the two kinds
pub data Way : Type 0 where
  later : Way
  earlier : Way

abbrev pub kind_of : Way → Kind Arrival ℤ
kind_of later = latest_kind
kind_of earlier = earliest_kind

-- a figure that is not past another, in the way of a kind
abbrev pub NotPast : Way → ℤ → ℤ → Type 0
NotPast later f x = f ≤ℤ x
NotPast earlier f x = x ≤ℤ f

-- an arrival that has absorbed a figure
abbrev pub Reaches : Way → ℤ → Arrival → Type 0
Reaches way f NoPath = ⊥
Reaches way f (At x) = NotPast way f x
Reaches way f Endless = Unit {0}

-- how many latches a path enters before its last step
abbrev pub front_entered : {n : Network} {v : ℕ} → Path n v → ℕ
front_entered (start o) = 0
front_entered (step p c) = latches_entered p

-- how many latches a path may enter that a figure comes from: of the latest kind any number, since latches may begin from what any path brings
abbrev pub MayEnter : Way → ℕ → ℕ → Type 0
MayEnter later k entered = Unit {0}
MayEnter earlier k entered = entered ≤ k

-- how large a figure is at most, so many steps after what latches may begin from
abbrev pub size_after : ℕ → ℕ
size_after steps = 144115188075855872 + steps * 4294967296

-- a figure that is no larger after some steps is so after more
pub larger_size : (s t : ℕ) (x : ℤ) → s ≤ t → Within (size_after s) x → Within (size_after t) x
larger_size s t x more small = (omega (arith, ints, small.0, more), omega (arith, ints, small.1, more))

-- what latches start from is not past the figure of some path, and not large
abbrev pub Backed : Way → (n : Network) → Measure ℤ → ℕ → (ℕ → Arrival) → Type 0
Backed way n m k starts = (v : ℕ) (x : ℤ) → n.is_latch v ≡ true → starts v ≡ At x → (p : Path n v) × (NotPast way x (figure m p)) × (MayEnter way k (latches_entered p)) × (Within (size_after (k * 4097)) x)

-- what latches start from has absorbed every path that enters few latches
abbrev pub Covered : Way → (n : Network) → Measure ℤ → ℕ → (ℕ → Arrival) → Type 0
Covered way n m k starts = (v : ℕ) → n.is_latch v ≡ true → (p : Path n v) → latches_entered p ≤ k → Reaches way (figure m p) (starts v)

-- what one sweep makes of such starts
pub record OneSweep (way : Way) (n : Network) (first : ℕ → ℤ) (gain : ℕ → ℕ → ℤ) (k : ℕ) (starts column : ℕ → Arrival) : Type 0 where
  pub backed : (v : ℕ) (x : ℤ) → v < n.size → column v ≡ At x → (p : Path n v) × (NotPast way x (figure (adding first gain) p)) × (MayEnter way k (front_entered p)) × (n.is_latch v ≡ true → has_step p ≡ true) × (Within (size_after (k * 4097 + 4097)) x)
  pub covered : (v : ℕ) (p : Path n v) → front_entered p ≤ k → (n.is_latch v ≡ true → has_step p ≡ true) → Reaches way (figure (adding first gain) p) (column v)
  pub passed_on : (u v : ℕ) → Connected n u v → (f : ℤ) → Reaches way f (leaving n starts column u) → Reaches way (f +ℤ gain u v) (column v)
  pub own : (v : ℕ) → n.is_origin v ≡ true → n.is_latch v ≡ false → Reaches way (first v) (column v)
  pub led : (v : ℕ) → v < n.size → column v ≡ Endless → (u : ℕ) × (u < n.size) × (n.is_latch u ≡ true) × (starts u ≡ Endless) × (Unbounded {n = n} {v = u} (adding first gain) every → Unbounded {n = n} {v = v} (adding first gain) has_step)
