-- The figures of paths, and whether those of the paths to a node have an end.
use Rattle.std.specs.Prelude.{◌≡◌, ℕ, Bool, true, ℤ, ◌+ℤ◌, ◌≤ℤ◌, ◌<ℤ◌}
use Rattle.paths.specs.Networks.{Network, Path, start, step}

-- how figures are made along a path: the one that it starts with at an origin, and what a step from one node to another makes of a figure
pub record Measure (F : Type 0) : Type 0 where
  pub first : ℕ → F
  pub next : F → ℕ → ℕ → F

-- the figure of a path
abbrev pub figure : {F : Type 0} {n : Network} {v : ℕ} → Measure F → Path n v → F
figure {v = v} m (start o) = m.first v
figure m (step {k} {v} p c) = m.next (figure m p) k v

-- a step adds what its connection gains
abbrev pub adding : (ℕ → ℤ) → (ℕ → ℕ → ℤ) → Measure ℤ
adding first gain = record { first = first; next = λ f k v. f +ℤ gain k v }

-- the greatest figure of those paths to a node that a test picks
pub record Greatest {n : Network} {v : ℕ} (m : Measure ℤ) (picks : Path n v → Bool) (f : ℤ) : Type 0 where
  pub path : Path n v
  pub picked : picks path ≡ true
  pub reached : figure m path ≡ f
  pub most : (p : Path n v) → picks p ≡ true → figure m p ≤ℤ f

-- the least figure of those paths to a node that a test picks
pub record Least {n : Network} {v : ℕ} (m : Measure ℤ) (picks : Path n v → Bool) (f : ℤ) : Type 0 where
  pub path : Path n v
  pub picked : picks path ≡ true
  pub reached : figure m path ≡ f
  pub least : (p : Path n v) → picks p ≡ true → f ≤ℤ figure m p

-- the test that picks every path
abbrev pub every : {n : Network} {v : ℕ} → Path n v → Bool
every p = true

-- the figures of those paths to a node that a test picks grow past every number
abbrev pub Unbounded : {n : Network} {v : ℕ} → Measure ℤ → (Path n v → Bool) → Type 0
Unbounded {n} {v} m picks = (bound : ℤ) → (p : Path n v) × (picks p ≡ true) × (bound <ℤ figure m p)

-- a node without an end: the figures of all paths to it grow past every number
abbrev pub NoEnd : (n : Network) → Measure ℤ → ℕ → Type 0
NoEnd n m v = Unbounded {n = n} {v = v} m every
