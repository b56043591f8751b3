-- What latches may begin from before the first sweep: their opening edges; what they may begin from where connections gain less; and what settled sweeps have found, where no latch has no end.
use Rattle.std.proofs.Common.{◌≡◌, ℕ, true, ℤ, ◌≤ℤ◌, refl, arith}
use Rattle.std.proofs.lemmas.Int.{ints}
use Rattle.paths.specs.Networks.{Network, Path, start, Sound}
use Rattle.paths.specs.Figures.{figure, adding, every}
use Rattle.paths.specs.Sweeps.{Course}
use Rattle.paths.proofs.Steps.{Within, grows}
use Rattle.kinds.specs.declared.arrival.Arrival.{Arrival}
use Rattle.kinds.specs.declared.arrival.Arrival.TheVariants.{NoPath, At, NoEnd as Endless}
use Rattle.rings.specs.Found.{IsLatest, Says, furthest, Begins, LatestFound}

-- latches may begin from their opening edges
pub opening_begins : (n : Network) (course : Course Arrival ℤ) (first : ℕ → ℤ) (gain : ℕ → ℕ → ℤ) → Sound n → Says n course first gain → Begins n first gain (λ v. At (first v))
opening_begins n course first gain sound says =
    record {
      at = λ v l.
          let small : Within 4294967296 (first v) = says.small_starts v (sound.latches v l) in
          (first v, refl, omega (arith, ints), omega (arith, ints, small.1), start (sound.latches v l), omega (arith, ints));
    }

-- what they may begin from where connections gain less, they may begin from
pub begins_grow : (n : Network) (first : ℕ → ℤ) (gain gain' : ℕ → ℕ → ℤ) (begun : ℕ → Arrival) → ((k v : ℕ) → gain k v ≤ℤ gain' k v) → Begins n first gain begun → Begins n first gain' begun
begins_grow n first gain gain' begun more begins =
    record {
      at = λ v l.
          let b = begins.at v l in
          let grown : figure (adding first gain) b.4 ≤ℤ figure (adding first gain') b.4 = grows n first first gain gain' (λ u. omega (arith, ints)) more v b.4 in
          (b.0, b.1, b.2, b.3, b.4, omega (arith, ints, b.5, grown));
    }

-- a latch may begin from the latest of its paths, where that is no further than the furthest figure
latest_begins : (n : Network) (first : ℕ → ℤ) (gain : ℕ → ℕ → ℤ) (v : ℕ) (a : Arrival) → n.is_origin v ≡ true → IsLatest {n = n} {v = v} (adding first gain) every a → ((x : ℤ) → a ≡ At x → x ≤ℤ furthest) → (a ≡ Endless → ⊥) →
    (x : ℤ) × (a ≡ At x) × (first v ≤ℤ x) × (x ≤ℤ furthest) × (p : Path n v) × (x ≤ℤ figure (adding first gain) p)
latest_begins n first gain v NoPath o latest near ends = absurd (latest (start o) refl)
latest_begins n first gain v (At x) o latest near ends =
    (x, refl, latest.most (start o) refl, near x refl, latest.path, omega (arith, ints, latest.reached))
latest_begins n first gain v Endless o latest near ends = absurd (ends refl)

-- they may begin from what settled sweeps have found, where no latch has no end
pub found_begins : (n : Network) (first : ℕ → ℤ) (gain : ℕ → ℕ → ℤ) (starts column : ℕ → Arrival) → Sound n → LatestFound n first gain starts column → ((v : ℕ) → n.is_latch v ≡ true → starts v ≡ Endless → ⊥) → Begins n first gain starts
found_begins n first gain starts column sound found ends =
    record {
      at = λ v l.
          let o : n.is_origin v ≡ true = sound.latches v l in
          let latest : IsLatest {n = n} {v = v} (adding first gain) every (starts v) = rw l at (found.nodes v (sound.origins v o)) in
          latest_begins n first gain v (starts v) o latest (λ x e. let near = found.near v l x e in omega (arith, ints, near)) (ends v l);
    }
