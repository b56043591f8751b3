-- From what stands in columns to which latches are late or early, and by how much.
use Rattle.std.proofs.Common.{◌≡◌, ℕ, ◌<◌, Bool, true, false, ◌&&◌, length, ℤ, ◌<ℤ◌, Option, Some, None, int_lt, refl, sym, ap, ◌∙◌, ⊎_elim, arith}
use Rattle.std.proofs.lemmas.Bool.{cases_Bool, true≢false, and_parts, and_from}
use Rattle.std.proofs.lemmas.Int.{ints}
use Rattle.design.specs.declared.nodes.Node.{Node}
use Rattle.design.specs.declared.nodes.Node.TheVariants.{Free, Input, Gate, Latch}
use Rattle.design.specs.Rows.{is_latch}
use Rattle.design.specs.Table.{Table}
use Rattle.design.specs.SoFar.{Stands}
use Rattle.paths.specs.Networks.{Path, has_step, is_short}
use Rattle.paths.specs.Figures.{Greatest, Least}
use Rattle.paths.specs.Sweeps.{arrives, arrives_short}
use Rattle.kinds.specs.declared.arrival.Arrival.{Arrival}
use Rattle.kinds.specs.declared.arrival.Arrival.TheVariants.{NoPath, At, NoEnd}
use Rattle.rings.specs.Found.{IsLatest, IsEarliest}
use Rattle.timing.specs.Connections.{row, network, late_bound, early_bound}
use Rattle.timing.specs.Figures.{late, early}
use Rattle.timing.specs.Windows.{HasNoEnd, setup_of, hold_of, IsLate, IsEarly}
use Rattle.timing.specs.Breaches.{NoNode, LateBy, EarlyBy, short_step}
use Rattle.timing.proofs.Bounded.{lateness_fits, earliness_fits}
use Rattle.windows.specs.declared.checked.Breach.{Breach}
use Rattle.windows.specs.declared.circuit.Circuit.{Circuit}
use Rattle.windows.specs.Edges.{is_late, is_early, late_excess, early_excess}
use Rattle.windows.specs.Breaches.{late_at, late_excess_at, early_at, early_excess_at, LowestBreach}
use Rattle.windows.specs.Found.{Shows}
use Rattle.windows.specs.Answers.{BreachSaid, LateSaid, EarlySaid}
use Rattle.windows.proofs.Reading.{arrives_by_step}

-- the lowest node at which a check fails is the lowest of which something holds, where the check tells of which nodes it does
breach_said : (t : Table) (holds : ℕ → Type 0) (by : ℕ → ℤ → Type 0) (fails : ℕ → Bool) (excess : ℕ → ℤ) → ((v : ℕ) → v < length t.nodes → fails v ≡ true → holds v × by v (excess v)) → ((v : ℕ) → v < length t.nodes → holds v → fails v ≡ true) →
    (found : Option Breach) → LowestBreach (length t.nodes) fails excess found → BreachSaid t holds by found
breach_said t holds by fails excess told tells None none = λ v lt h. none v lt (tells v lt h)
breach_said t holds by fails excess told tells (Some b) lowest =
    let here = told b.latch lowest.0 lowest.1 in (
      (lowest.0, here.0, λ u lt h. lowest.3 u lt (tells u (omega (arith, lt, lowest.0)) h)),
      rw lowest.2 here.1,
    )

-- a latch has a latest arrival of the paths of one step or more
by_steps : (t : Table) (S : ℕ → Bool) (v : ℕ) → is_latch (row t.nodes v) ≡ true → (f : ℤ) → Greatest {n = network t.nodes} {v = v} (late t S) arrives f → Greatest {n = network t.nodes} {v = v} (late t S) has_step f
by_steps t S v l f g =
    record {
      path = g.path;
      picked = sym (arrives_by_step {n = network t.nodes} {v = v} l g.path) ∙ g.picked;
      reached = g.reached;
      most = λ p e. g.most p (arrives_by_step {n = network t.nodes} {v = v} l p ∙ e);
    }

-- and an earliest one of the short paths of one step or more
by_short_steps : (t : Table) (S : ℕ → Bool) (v : ℕ) → is_latch (row t.nodes v) ≡ true → (f : ℤ) → Least {n = network t.nodes} {v = v} (early t S) arrives_short f → Least {n = network t.nodes} {v = v} (early t S) short_step f
by_short_steps t S v l f g =
    let same : (p : Path (network t.nodes) v) → arrives_short p ≡ short_step p = λ p. ap (λ b. is_short p && b) (arrives_by_step {n = network t.nodes} {v = v} l p) in
    record {
      path = g.path;
      picked = sym (same g.path) ∙ g.picked;
      reached = g.reached;
      least = λ p e. g.least p (same p ∙ e);
    }

-- the test of two figures says that one is before the other
after_bound : (a b : ℤ) → a <ℤ b → int_lt a b ≡ true
after_bound a b lt = ⊎_elim (λ (e : int_lt a b ≡ true). e) (λ (e : int_lt a b ≡ false). absurd (omega (arith, ints, lt, e))) (cases_Bool (int_lt a b))

module _ (t : Table) (S : ℕ → Bool) (stands : Stands t) (v : ℕ) (lt : v < length t.nodes) where
  -- a latch whose latest arrival is after its late bound is late, by the excess
  late_told : (x : Node) (a : Arrival) → row t.nodes v ≡ x → IsLatest {n = network t.nodes} {v = v} (late t S) arrives a → (a ≡ NoEnd → ⊥) → is_late t.clock x a ≡ true → IsLate t S v × LateBy t S v (late_excess t.clock x a)
  late_told Free a e h end after = absurd (true≢false (sym after))
  late_told (Input phase earliest latest) a e h end after = absurd (true≢false (sym after))
  late_told (Gate phase least greatest sources) a e h end after = absurd (true≢false (sym after))
  late_told (Latch phase least greatest setup hold source) NoPath e h end after = absurd (true≢false (sym after))
  late_told (Latch phase least greatest setup hold source) (At f) e h end after =
      let l : is_latch (row t.nodes v) ≡ true = ap is_latch e in
      let bound : late_bound t.clock (setup_of (row t.nodes v)) ≡ late_bound t.clock setup = ap (λ r. late_bound t.clock (setup_of r)) e in
      let g = by_steps t S v l f h in
      let over : late_bound t.clock (setup_of (row t.nodes v)) <ℤ f = omega (arith, ints, after, bound) in
      let fits = lateness_fits t S stands v lt f g over in (
        (l, (g.path, g.picked, omega (arith, ints, over, g.reached))),
        (f, g, rw (← bound) fits),
      )
  late_told (Latch phase least greatest setup hold source) NoEnd e h end after = absurd (end refl)

  -- and a late latch has a latest arrival after its late bound
  late_tells : (x : Node) (a : Arrival) → row t.nodes v ≡ x → IsLatest {n = network t.nodes} {v = v} (late t S) arrives a → IsLate t S v → is_late t.clock x a ≡ true
  late_tells Free a e h i = absurd (true≢false (sym i.0 ∙ ap is_latch e))
  late_tells (Input phase earliest latest) a e h i = absurd (true≢false (sym i.0 ∙ ap is_latch e))
  late_tells (Gate phase least greatest sources) a e h i = absurd (true≢false (sym i.0 ∙ ap is_latch e))
  late_tells (Latch phase least greatest setup hold source) NoPath e h i = absurd (h i.1.0 (arrives_by_step {n = network t.nodes} {v = v} i.0 i.1.0 ∙ i.1.1))
  late_tells (Latch phase least greatest setup hold source) (At f) e h i =
      let bound : late_bound t.clock (setup_of (row t.nodes v)) ≡ late_bound t.clock setup = ap (λ r. late_bound t.clock (setup_of r)) e in
      let most = h.most i.1.0 (arrives_by_step {n = network t.nodes} {v = v} i.0 i.1.0 ∙ i.1.1) in
      after_bound (late_bound t.clock setup) f (omega (arith, ints, bound, most, i.1.2))
  late_tells (Latch phase least greatest setup hold source) NoEnd e h i = refl

  -- a latch whose earliest arrival is before its early bound is early, by the excess
  early_told : (x : Node) (a : Arrival) → row t.nodes v ≡ x → IsEarliest {n = network t.nodes} {v = v} (early t S) arrives_short a → is_early x a ≡ true → IsEarly t S v × EarlyBy t S v (early_excess x a)
  early_told Free a e h before = absurd (true≢false (sym before))
  early_told (Input phase earliest latest) a e h before = absurd (true≢false (sym before))
  early_told (Gate phase least greatest sources) a e h before = absurd (true≢false (sym before))
  early_told (Latch phase least greatest setup hold source) NoPath e h before = absurd (true≢false (sym before))
  early_told (Latch phase least greatest setup hold source) (At f) e h before =
      let l : is_latch (row t.nodes v) ≡ true = ap is_latch e in
      let bound : early_bound (hold_of (row t.nodes v)) ≡ early_bound hold = ap (λ r. early_bound (hold_of r)) e in
      let g = by_short_steps t S v l f h in
      let under : f <ℤ early_bound (hold_of (row t.nodes v)) = omega (arith, ints, before, bound) in
      let fits = earliness_fits t S stands v lt f g under in
      let picked = and_parts (is_short g.path) (has_step g.path) g.picked in (
        (l, (g.path, picked.0, picked.1, omega (arith, ints, under, g.reached))),
        (f, g, rw (← bound) fits),
      )
  early_told (Latch phase least greatest setup hold source) NoEnd e h before = absurd h

  -- and an early latch has an earliest arrival before its early bound
  early_tells : (x : Node) (a : Arrival) → row t.nodes v ≡ x → IsEarliest {n = network t.nodes} {v = v} (early t S) arrives_short a → IsEarly t S v → is_early x a ≡ true
  early_tells Free a e h i = absurd (true≢false (sym i.0 ∙ ap is_latch e))
  early_tells (Input phase earliest latest) a e h i = absurd (true≢false (sym i.0 ∙ ap is_latch e))
  early_tells (Gate phase least greatest sources) a e h i = absurd (true≢false (sym i.0 ∙ ap is_latch e))
  early_tells (Latch phase least greatest setup hold source) NoPath e h i = absurd (h i.1.0 (and_from _ _ i.1.1 (arrives_by_step {n = network t.nodes} {v = v} i.0 i.1.0 ∙ i.1.2)))
  early_tells (Latch phase least greatest setup hold source) (At f) e h i =
      let bound : early_bound (hold_of (row t.nodes v)) ≡ early_bound hold = ap (λ r. early_bound (hold_of r)) e in
      let least = h.least i.1.0 (and_from _ _ i.1.1 (arrives_by_step {n = network t.nodes} {v = v} i.0 i.1.0 ∙ i.1.2)) in
      after_bound f (early_bound hold) (omega (arith, ints, bound, least, i.1.3))
  early_tells (Latch phase least greatest setup hold source) NoEnd e h i = absurd h

-- an arrival without an end leaves no end to the node
no_arrival_ends : (t : Table) (S : ℕ → Bool) (v : ℕ) → v < length t.nodes → NoNode t (HasNoEnd t S) → (a : Arrival) → IsLatest {n = network t.nodes} {v = v} (late t S) arrives a → a ≡ NoEnd → ⊥
no_arrival_ends t S v lt ended NoPath h e = absurd cc
no_arrival_ends t S v lt ended (At f) h e = absurd cc
no_arrival_ends t S v lt ended NoEnd h e = ended v lt (λ bound. let r = h bound in (r.0, refl, r.2))

module _ (t : Table) (S : ℕ → Bool) (c : Circuit) (stands : Stands t) (shows : Shows t S c) (column : ℕ → Arrival) (found : Option Breach) where
  -- where every window has an end, the lowest latch that is late by the latest arrivals is the lowest late latch
  pub late_said : ((v : ℕ) → v < length t.nodes → IsLatest {n = network t.nodes} {v = v} (late t S) arrives (column v)) → NoNode t (HasNoEnd t S) →
      LowestBreach (length c.nodes.now) (late_at c column) (late_excess_at c column) found → LateSaid t S found
  late_said latest ended lowest =
      breach_said t (IsLate t S) (LateBy t S) (λ v. is_late t.clock (row t.nodes v) (column v)) (λ v. late_excess t.clock (row t.nodes v) (column v))
      (λ v lt after. late_told t S stands v lt (row t.nodes v) (column v) refl (latest v lt) (no_arrival_ends t S v lt ended (column v) (latest v lt)) after)
      (λ v lt i. late_tells t S stands v lt (row t.nodes v) (column v) refl (latest v lt) i)
      found (rw (shows.nodes, shows.clock) at lowest)

  -- and the lowest that is early by the earliest arrivals the lowest early latch
  pub early_said : ((v : ℕ) → v < length t.nodes → IsEarliest {n = network t.nodes} {v = v} (early t S) arrives_short (column v)) →
      LowestBreach (length c.nodes.now) (early_at c column) (early_excess_at c column) found → EarlySaid t S found
  early_said earliest lowest =
      breach_said t (IsEarly t S) (EarlyBy t S) (λ v. is_early (row t.nodes v) (column v)) (λ v. early_excess (row t.nodes v) (column v))
      (λ v lt before. early_told t S stands v lt (row t.nodes v) (column v) refl (earliest v lt) before)
      (λ v lt i. early_tells t S stands v lt (row t.nodes v) (column v) refl (earliest v lt) i)
      found (rw shows.nodes at lowest)
