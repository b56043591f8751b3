-- Sweeps of the earliest kind settle on the least figures of the short paths that arrive at each node: no latch starts from anything but its opening edge, so one sweep says it all.
use Rattle.std.proofs.Common.{◌≡◌, ℕ, ◌<◌, ◌≤◌, true, false, not, ◌||◌, ℤ, ◌≤ℤ◌, refl, sym, ◌∙◌, ⊎_elim, arith}
use Rattle.std.proofs.lemmas.Int.{ints}
use Rattle.std.proofs.lemmas.Bool.{cases_Bool, and_parts, and_from, not-true, not_from_false, or_left, or_right, true≢false}
use Rattle.paths.specs.Networks.{Network, Path, start, step, Sound, has_step, latches_entered, enters_none, is_short}
use Rattle.paths.specs.Figures.{figure, adding}
use Rattle.paths.specs.Sweeps.{Course, arrives_short}
use Rattle.kinds.specs.declared.arrival.Arrival.{Arrival}
use Rattle.kinds.specs.declared.arrival.Arrival.TheVariants.{NoPath, At, NoEnd as Endless}
use Rattle.kinds.specs.Arrivals.{earliest_kind}
use Rattle.rings.specs.Settling.{Restarted, unswept, after_sweep}
use Rattle.kinds.specs.Arrivals.{earliest_restarts}
use Rattle.rings.specs.Found.{IsEarliest, Small, EarliestSettles}
use Rattle.rings.proofs.Reach.{earlier, Reaches, front_entered, Backed, Covered, OneSweep}
use Rattle.rings.proofs.OneSweep.{same_figure, one_sweep}

-- ---- paths that enter no latch

-- a path that enters no latch enters 0 of them
none_entered : {n : Network} {v : ℕ} (p : Path n v) → enters_none p ≡ true → latches_entered p ≡ 0
none_entered (start o) e = refl
none_entered {n} {v} (step p c) e =
    let r = and_parts (not (n.is_latch v)) (enters_none p) e in
    rw (not-true (n.is_latch v) r.0) (none_entered p r.1)

-- a path that enters 0 latches enters none
enters_no_latch : {n : Network} {v : ℕ} (p : Path n v) → latches_entered p ≤ 0 → enters_none p ≡ true
enters_no_latch (start o) h = refl
enters_no_latch {n} {v} (step p c) h =
    ⊎_elim
    (λ (l : n.is_latch v ≡ true). absurd (omega (arith, rw l at h)))
    (λ (l : n.is_latch v ≡ false). and_from _ _ (not_from_false (n.is_latch v) l) (enters_no_latch p (rw l at h)))
    (cases_Bool (n.is_latch v))

-- a short path enters no latch before its last step
short_entered : {n : Network} {v : ℕ} (p : Path n v) → is_short p ≡ true → front_entered p ≤ 0
short_entered (start o) e = omega arith
short_entered (step p c) e = omega (arith, none_entered p e)

-- and one that enters none before its last step is short
short : {n : Network} {v : ℕ} (p : Path n v) → front_entered p ≤ 0 → is_short p ≡ true
short (start o) h = refl
short (step p c) h = enters_no_latch p h

-- a path to a latch has a step if it comes there
comes_by_step : {n : Network} {v : ℕ} (p : Path n v) → (has_step p || not (n.is_latch v)) ≡ true → n.is_latch v ≡ true → has_step p ≡ true
comes_by_step (start o) e l = absurd (true≢false (sym l ∙ not-true _ e))
comes_by_step (step p c) e l = refl

-- a short path with a step, if it leads to a latch, comes there
it_comes : {n : Network} {v : ℕ} (p : Path n v) → front_entered p ≤ 0 → (n.is_latch v ≡ true → has_step p ≡ true) → arrives_short p ≡ true
it_comes {n} {v} p h s =
    and_from (is_short p) (has_step p || not (n.is_latch v)) (short p h)
    (⊎_elim
    (λ (l : n.is_latch v ≡ true). or_left (has_step p) (not (n.is_latch v)) (s l))
    (λ (l : n.is_latch v ≡ false). or_right (has_step p) (not (n.is_latch v)) (not_from_false (n.is_latch v) l))
    (cases_Bool (n.is_latch v)))

-- ---- what latches start from

-- a latch starts always from its opening edge
starts_first : (n : Network) (course : Course Arrival ℤ) (first : ℕ → ℤ) (limit made : ℕ) (starts : ℕ → Arrival) → Restarted earliest_kind n course earliest_restarts limit (λ v. At (first v)) made starts → (v : ℕ) → n.is_latch v ≡ true → starts v ≡ At (first v)
starts_first n course first limit made starts (unswept h) v l = h v l
starts_first n course first limit made starts (after_sweep {made = made'} {starts = starts'} column next before swept w latch climbs h) v l =
    h v l ∙ starts_first n course first limit made' starts' before v l

module _ (n : Network) (first : ℕ → ℤ) (gain : ℕ → ℕ → ℤ) (starts : ℕ → Arrival) (sound : Sound n) (small_starts : (v : ℕ) → n.is_origin v ≡ true → Small (first v)) (at_first : (v : ℕ) → n.is_latch v ≡ true → starts v ≡ At (first v)) where
  -- that is the figure of the path that starts there
  backed_first : Backed earlier n (adding first gain) 0 starts
  backed_first v x l e =
      let z : first v ≡ x = same_figure (first v) x (sym (at_first v l) ∙ e) in
      let small : Small (first v) = small_starts v (sound.latches v l) in
      (start (sound.latches v l), omega (arith, ints, z), omega arith, (omega (arith, ints, z, small.0), omega (arith, ints, z, small.1)))

  -- and no other path enters no latch
  covered_first : Covered earlier n (adding first gain) 0 starts
  covered_first v l (start o) h = rw (at_first v l) (omega (arith, ints))
  covered_first v l (step p c) h = absurd (omega (arith, rw l at h))

module _ (n : Network) (first : ℕ → ℤ) (gain : ℕ → ℕ → ℤ) (starts column : ℕ → Arrival) (at_first : (v : ℕ) → n.is_latch v ≡ true → starts v ≡ At (first v)) (one : OneSweep earlier n first gain 0 starts column) where
  -- one sweep of such starts reaches each short path that arrives at a node
  reached : (v : ℕ) (p : Path n v) → arrives_short p ≡ true → Reaches earlier (figure (adding first gain) p) (column v)
  reached v p q =
      let r = and_parts (is_short p) (has_step p || not (n.is_latch v)) q in
      one.covered v p (short_entered p r.0) (comes_by_step p r.1)

  -- so it has the least of them
  found : (v : ℕ) → v < n.size → (a : Arrival) → column v ≡ a → IsEarliest {n = n} {v = v} (adding first gain) arrives_short a
  found v lt NoPath e = λ p q. rw e at (reached v p q)
  found v lt (At f) e =
      let b = one.backed v f lt e in
      let comes : arrives_short b.0 ≡ true = it_comes b.0 b.2 b.3 in
      let below : f ≤ℤ figure (adding first gain) b.0 = rw e at (reached v b.0 comes) in
      record { path = b.0; picked = comes; reached = omega (arith, ints, b.1, below); least = λ p q. rw e at (reached v p q) }
  found v lt Endless e =
      let u = one.led v lt e in
      let z : At (first u.0) ≡ Endless = sym (at_first u.0 u.2) ∙ u.3 in
      cc

-- Sweeps of the earliest kind settle on the least figures of the short paths that arrive at each node.
pub earliest_settles : EarliestSettles
earliest_settles n course first gain limit made starts column sound says settled v lt =
    let at_first = starts_first n course first limit made starts settled.restarted in
    let one = one_sweep earlier n course first gain 0 starts column sound says (omega arith) (backed_first n first gain starts sound says.small_starts at_first) (covered_first n first gain starts sound says.small_starts at_first) settled.swept in
    found n first gain starts column at_first one v lt (column v) refl
