-- What one step after another makes of the figures of paths that add: a path without an end goes on, greater gains make greater figures, and figures are no larger than the number of their steps allows.
use Rattle.std.proofs.Common.{refl, ◌≡◌, ℕ, suc, ◌*◌, true, ℤ, pos, neg_ℤ, ◌-ℤ◌, ◌≤ℤ◌, arith}
use Rattle.std.proofs.lemmas.Int.{ints}
use Rattle.paths.specs.Networks.{Network, Path, start, step, Connected, steps}
use Rattle.paths.specs.Figures.{figure, adding}
use Rattle.paths.specs.Theorems.{Spreads, Grows}

-- a path to the source that is above a number by what the connection gains leads to one above the number itself
pub spreads : Spreads
spreads n first gain k v c more bound =
    let r = more (bound -ℤ gain k v) in
    (step r.0 c, refl, omega (arith, ints, r.2))

-- no figure is greater than that of the same path where starts and gains are no less
pub grows : Grows
grows n first first' gain gain' starts gains v (start o) = starts v
grows n first first' gain gain' starts gains v (step {k = k} p c) =
    let before = grows n first first' gain gain' starts gains k p in
    let here = gains k v in
    omega (arith, ints, before, here)

-- an integer between a number and its negative
abbrev pub Within : ℕ → ℤ → Type 0
Within b z = (neg_ℤ (pos b) ≤ℤ z) × (z ≤ℤ pos b)

-- where no start and no gain is larger than B, the figure of a path is no larger than B for its start and for each of its steps
pub path_small : (n : Network) (first : ℕ → ℤ) (gain : ℕ → ℕ → ℤ) (B : ℕ) → ((v : ℕ) → n.is_origin v ≡ true → Within B (first v)) → ((k v : ℕ) → Connected n k v → Within B (gain k v)) →
    {v : ℕ} (p : Path n v) → Within (suc (steps p) * B) (figure (adding first gain) p)
path_small n first gain B starts gains (start {v = v} o) =
    let here = starts v o in
    (omega (arith, ints, here.0), omega (arith, ints, here.1))
path_small n first gain B starts gains (step {k = k} {v = v} p c) =
    let before = path_small n first gain B starts gains p in
    let here = gains k v c in
    (omega (arith, ints, before.0, here.0), omega (arith, ints, before.1, here.1))
