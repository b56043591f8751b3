-- One sweep over a network: the figures that come to each node when latches pass on nothing but what they start from.
use Rattle.std.specs.Prelude.{◌≡◌, ℕ, ◌<◌, Bool, true, cond, not, ◌&&◌, ◌||◌, List, map}
use Rattle.std.specs.List.{list_all}
use Rattle.paths.specs.Networks.{Network, Path, Sound, has_step, is_short}
use Rattle.paths.specs.Figures.{Measure, figure}
use Rattle.paths.specs.Kinds.{Kind, joined}

-- how a kind sees a network: the figure that an input starts with, and what a step from one node to another is
pub record Course (F S : Type 0) : Type 0 where
  pub start : ℕ → F
  pub step : ℕ → ℕ → S

-- the figure with which a node is left: that from which it starts if it is a latch, and else the one that came to it
abbrev pub leaving : {F : Type 0} → Network → (ℕ → F) → (ℕ → F) → ℕ → F
leaving n starts column k = cond (n.is_latch k) (starts k) (column k)

-- the figure that an input starts with; no other node has one of its own in a sweep
abbrev pub own : {F S : Type 0} → Kind F S → Network → Course F S → ℕ → F
own kind n course v = cond (n.is_origin v && not (n.is_latch v)) (course.start v) kind.no_path

-- the figure that comes to node v along its connection from k
abbrev pub along : {F S : Type 0} → Kind F S → Network → Course F S → (ℕ → F) → (ℕ → F) → ℕ → ℕ → F
along kind n course starts column v k = kind.step (leaving n starts column k) (course.step k v)

-- the figure that comes to a node: its own, joined with what comes along each of its connections
abbrev pub arrival : {F S : Type 0} → Kind F S → Network → Course F S → (ℕ → F) → (ℕ → F) → ℕ → F
arrival kind n course starts column v = kind.join (own kind n course v) (joined kind (map (along kind n course starts column v) (n.sources v)))

-- a column that a sweep has filled: at each node stands the figure that comes to it
abbrev pub Swept : {F S : Type 0} → Kind F S → Network → Course F S → (ℕ → F) → (ℕ → F) → Type 0
Swept kind n course starts column = (v : ℕ) → v < n.size → column v ≡ arrival kind n course starts column v

-- figures along a path: a latch has the figure from which it starts
abbrev pub carried : {F S : Type 0} → Kind F S → Network → Course F S → (ℕ → F) → Measure F
carried kind n course starts = record { first = λ v. cond (n.is_latch v) (starts v) (course.start v); next = λ f k v. kind.step f (course.step k v) }

-- a path that arrives at a node; at a latch it arrives by one step or more
abbrev pub arrives : {n : Network} {v : ℕ} → Path n v → Bool
arrives {n} {v} p = has_step p || not (n.is_latch v)

-- a short path that arrives at a node
abbrev pub arrives_short : {n : Network} {v : ℕ} → Path n v → Bool
arrives_short p = is_short p && arrives p

-- What a sweep finds: the figure at a node absorbs that of every short path that arrives there, and is the join of some of them.
pub record OverShortPaths {F S : Type 0} (kind : Kind F S) (n : Network) (course : Course F S) (starts column : ℕ → F) : Type 0 where
  pub absorbs : (v : ℕ) → v < n.size → (p : Path n v) → arrives_short p ≡ true → kind.join (column v) (figure (carried kind n course starts) p) ≡ column v
  pub joins : (v : ℕ) → v < n.size → (ps : List (Path n v)) × (list_all arrives_short ps ≡ true) × (column v ≡ joined kind (map (figure (carried kind n course starts)) ps))

-- every sweep of a kind over a sound network finds the short paths
abbrev pub FindsShortPaths : {F S : Type 0} → Kind F S → Type 0
FindsShortPaths {F} {S} kind = (n : Network) (course : Course F S) (starts column : ℕ → F) → Sound n → Swept kind n course starts column → OverShortPaths kind n course starts column
