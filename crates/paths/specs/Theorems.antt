-- What holds of the paths of every network.
use Rattle.std.specs.Prelude.{ℕ, ◌≤◌, ℤ, ◌≤ℤ◌, ◌<ℤ◌}
use Rattle.paths.specs.Networks.{Network, Path, Connected, Sound, latches_entered, latch_count}
use Rattle.paths.specs.Figures.{adding, figure, NoEnd}

-- A path to a node above all those that enter no more latches than there are: then the figures of the paths to the node have no end.
abbrev pub Overtaken : Type 0
Overtaken =
    (n : Network) (first : ℕ → ℤ) (gain : ℕ → ℕ → ℤ) → Sound n →
    (v : ℕ) (bound : ℤ) → ((p : Path n v) → latches_entered p ≤ latch_count n → figure (adding first gain) p ≤ℤ bound) →
    (q : Path n v) → bound <ℤ figure (adding first gain) q → NoEnd n (adding first gain) v

-- a node that is connected from one without an end has none
abbrev pub Spreads : Type 0
Spreads =
    (n : Network) (first : ℕ → ℤ) (gain : ℕ → ℕ → ℤ) (k v : ℕ) → Connected n k v →
    NoEnd n (adding first gain) k → NoEnd n (adding first gain) v

-- where nothing starts later and no connection gains more, no path has a greater figure
abbrev pub Grows : Type 0
Grows =
    (n : Network) (first first' : ℕ → ℤ) (gain gain' : ℕ → ℕ → ℤ) →
    ((v : ℕ) → first v ≤ℤ first' v) → ((k v : ℕ) → gain k v ≤ℤ gain' k v) →
    (v : ℕ) (p : Path n v) → figure (adding first gain) p ≤ℤ figure (adding first' gain') p
