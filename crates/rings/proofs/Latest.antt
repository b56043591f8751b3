-- Sweeps of the latest kind settle on the greatest figures: what latches start from has absorbed each path that enters no more latches than sweeps were made, and a latch that climbs still after as many sweeps as there are latches has no end.
use Rattle.std.proofs.Common.{◌≡◌, ℕ, suc, ◌+◌, ◌*◌, ◌<◌, ◌≤◌, Bool, true, false, ◌⊎◌, ℤ, ◌+ℤ◌, ◌≤ℤ◌, ◌<ℤ◌, refl, sym, ap, ◌∙◌, inl, inr, ⊎_elim, arith}
use Rattle.std.proofs.lemmas.Int.{ints, clamps, by_lt_z}
use Rattle.std.proofs.lemmas.Bool.{true≢false, cases_Bool, cases_lt, lt-ltb, le-ltb}
use Rattle.closing.proofs.Counts.{count-most}
use Rattle.paths.specs.Networks.{Network, Path, start, step, Connected, Sound, has_step, steps, latches_entered, latch_count}
use Rattle.paths.specs.Figures.{Measure, figure, adding, every, Unbounded}
use Rattle.paths.specs.Sweeps.{Course, Swept, leaving}
use Rattle.paths.proofs.Steps.{Within, path_small}
use Rattle.paths.proofs.Loops.{overtaken}
use Rattle.kinds.specs.declared.arrival.Arrival.{Arrival}
use Rattle.kinds.specs.declared.arrival.Arrival.TheVariants.{NoPath, At, NoEnd as Endless}
use Rattle.kinds.specs.Arrivals.{latest_kind, is_later}
use Rattle.rings.specs.Settling.{next_start, Restarted, unswept, after_sweep, Settled}
use Rattle.kinds.specs.Arrivals.{latest_restarts}
use Rattle.rings.specs.Found.{IsLatest, Says, settled_size, Begins, LatestFound, LatestSettles}
use Rattle.rings.proofs.Reach.{later, Reaches, size_after, larger_size, Backed, Covered, OneSweep}
use Rattle.rings.proofs.OneSweep.{same_figure, one_sweep}

-- ---- starts, and arrivals that are later

-- joined with an arrival that is later, a start is that arrival
pub later_joins : (s c : Arrival) → is_later s c ≡ true → latest_kind.join s c ≡ c
later_joins NoPath c h = refl
later_joins (At x) NoPath h = absurd (true≢false (sym h))
later_joins (At x) (At y) h = ap At (omega (arith, ints, clamps))
later_joins (At x) Endless h = refl
later_joins Endless c h = absurd (true≢false (sym h))

-- an arrival that is later has absorbed what the start has
later_reaches : (s c : Arrival) → is_later s c ≡ true → (f : ℤ) → Reaches later f s → Reaches later f c
later_reaches NoPath c h f r = absurd r
later_reaches (At x) NoPath h f r = absurd (true≢false (sym h))
later_reaches (At x) (At y) h f r = omega (arith, ints)
later_reaches (At x) Endless h f r = tt
later_reaches Endless c h f r = absurd (true≢false (sym h))

-- a start has absorbed what an arrival that is not later has
still_reaches : (s c : Arrival) → is_later s c ≡ false → (f : ℤ) → Reaches later f c → Reaches later f s
still_reaches NoPath NoPath h f r = r
still_reaches NoPath (At y) h f r = absurd (true≢false h)
still_reaches NoPath Endless h f r = absurd (true≢false h)
still_reaches (At x) NoPath h f r = absurd r
still_reaches (At x) (At y) h f r = omega (arith, ints)
still_reaches (At x) Endless h f r = absurd (true≢false h)
still_reaches Endless c h f r = tt

-- while fewer sweeps were made than the limit, a latch starts next from what came to it if that is later, and else as before
starts_early : (P : Arrival → Type 0) (limit made : ℕ) (s c s' : Arrival) → made < limit → s' ≡ next_start latest_restarts limit made s c → (is_later s c ≡ true → P c) → (is_later s c ≡ false → P s) → P s'
starts_early P limit made s c s' less e more same =
    ⊎_elim
    (λ (h : is_later s c ≡ true). rw (e, h, lt-ltb made limit less, later_joins s c h) (more h))
    (λ (h : is_later s c ≡ false). rw (e, h) (same h))
    (cases_Bool (is_later s c))

-- and from then on it starts without an end if that is later, and else as before
starts_late : (P : Arrival → Type 0) (limit made : ℕ) (s c s' : Arrival) → limit ≤ made → s' ≡ next_start latest_restarts limit made s c → (is_later s c ≡ true → P Endless) → (is_later s c ≡ false → P s) → P s'
starts_late P limit made s c s' past e more same =
    ⊎_elim
    (λ (h : is_later s c ≡ true). rw (e, h, le-ltb made limit past) (more h))
    (λ (h : is_later s c ≡ false). rw (e, h) (same h))
    (cases_Bool (is_later s c))

-- ---- paths, and what they enter

-- a step that enters a latch counts it
entered : {n : Network} {k v : ℕ} (p : Path n k) (c : Connected n k v) → n.is_latch v ≡ true → latches_entered (step p c) ≡ suc (latches_entered p)
entered {n} {v = v} p c t = simp t refl

-- a step that enters no latch counts none
not_entered : {n : Network} {k v : ℕ} (p : Path n k) (c : Connected n k v) → n.is_latch v ≡ false → latches_entered (step p c) ≡ latches_entered p
not_entered {n} {v = v} p c t = simp t refl

-- between one latch and the next a path passes nodes of ever greater numbers, so it has few steps
few_steps : (n : Network) → Sound n → n.size ≤ 4096 → {v : ℕ} (p : Path n v) → steps p ≤ latches_entered p * 4097 + v
few_steps n sound size (start o) = omega arith
few_steps n sound size (step {k = u} {v = v} p c) =
    let before : steps p ≤ latches_entered p * 4097 + u = few_steps n sound size p in
    let below : u < n.size = (sound.sources u v c).0 in
    ⊎_elim
    (λ (l : n.is_latch v ≡ true). omega (arith, before, below, size, entered p c l))
    (λ (l : n.is_latch v ≡ false). omega (arith, before, sound.order u v c l, not_entered p c l))
    (cases_Bool (n.is_latch v))

-- figures that grow past every number on some paths do so on all
unbounded_every : {n : Network} {v : ℕ} (m : Measure ℤ) (picks : Path n v → Bool) → Unbounded {n = n} {v = v} m picks → Unbounded {n = n} {v = v} m every
unbounded_every m picks h bound =
    let r = h bound in
    (r.0, refl, r.2)

-- An arrival is the latest of some paths if it has absorbed each of them, is no more than the figure of one where it is a figure, and has no end only where they have none.
is_latest : {n : Network} {v : ℕ} (m : Measure ℤ) (picks : Path n v → Bool) (a : Arrival) → ((p : Path n v) → picks p ≡ true → Reaches later (figure m p) a) → ((x : ℤ) → a ≡ At x → (p : Path n v) × (picks p ≡ true) × (x ≤ℤ figure m p)) → (a ≡ Endless → Unbounded {n = n} {v = v} m picks) → IsLatest {n = n} {v = v} m picks a
is_latest m picks NoPath most back more = most
is_latest m picks (At x) most back more =
    let r = back x refl in
    let under : figure m r.0 ≤ℤ x = most r.0 r.1 in
    record { path = r.0; picked = r.1; reached = omega (arith, ints, r.2, under); most = most }
is_latest m picks Endless most back more = more refl

-- ---- between sweeps

-- What is known of the starts after so many sweeps. Each with an end is no more than the figure of some path, and they have absorbed each path that enters no more latches than a bound: the bound is how many sweeps were made, and at most how many latches there are. A latch that starts without an end has paths without an end.
record Between (n : Network) (m : Measure ℤ) (made : ℕ) (starts : ℕ → Arrival) : Type 0 where
  bound : ℕ
  few : bound ≤ latch_count n
  early : made ≤ latch_count n → bound ≡ made
  late : latch_count n ≤ made → bound ≡ latch_count n
  backed : Backed later n m bound starts
  covered : Covered later n m bound starts
  endless : (v : ℕ) → n.is_latch v ≡ true → starts v ≡ Endless → Unbounded {n = n} {v = v} m every

module _ (n : Network) (first : ℕ → ℤ) (gain : ℕ → ℕ → ℤ) (sound : Sound n) where
  -- figures that sum up what connections gain
  abbrev sums : Measure ℤ
  sums = adding first gain

  -- a latch is a node
  latch_below : (v : ℕ) → n.is_latch v ≡ true → v < n.size
  latch_below v l = sound.origins v (sound.latches v l)

  -- of the paths to a latch only the one that starts there enters none
  covers_first : (v : ℕ) → n.is_latch v ≡ true → (p : Path n v) → latches_entered p ≤ 0 → figure sums p ≤ℤ first v
  covers_first v l (start o) h = omega (arith, ints)
  covers_first v l (step p c) h = absurd (omega (arith, h, entered p c l))

  -- before the first sweep each latch starts from what it begins from
  between_first : (begun starts : ℕ → Arrival) → Begins n first gain begun → ((v : ℕ) → n.is_origin v ≡ true → Within 4294967296 (first v)) → ((v : ℕ) → n.is_latch v ≡ true → starts v ≡ begun v) → Between n sums 0 starts
  between_first begun starts begins small e =
      record {
        bound = 0;
        few = omega arith;
        early = λ l. refl;
        late = λ l. omega arith;
        backed = λ v x l s.
            let b = begins.at v l in
            let is : b.0 ≡ x = same_figure b.0 x (sym (e v l ∙ b.1) ∙ s) in
            let least : Within 4294967296 (first v) = small v (sound.latches v l) in
            (b.4, rw is at b.5, tt, (omega (arith, ints, is, b.2, least.0), omega (arith, ints, is, b.3)));
        covered = λ v l p h.
            let b = begins.at v l in
            let under : figure sums p ≤ℤ first v = covers_first v l p h in
            rw (e v l, b.1) (omega (arith, ints, under, b.2));
        endless = λ v l s.
            let b = begins.at v l in
            let q : At b.0 ≡ Endless = sym (e v l ∙ b.1) ∙ s in absurd cc;
      }

  module _ {made : ℕ} {starts : ℕ → Arrival} (column : ℕ → Arrival) (b : Between n sums made starts) (one : OneSweep later n first gain b.bound starts column) where
    -- a node to which what comes has no end has paths of one step or more without an end
    comes_endless : (v : ℕ) → v < n.size → column v ≡ Endless → Unbounded {n = n} {v = v} sums has_step
    comes_endless v lt e =
        let r = one.led v lt e in
        r.4 (b.endless r.0 r.2 r.3)

    -- what comes to a latch is not past the figure of some path, and larger by one sweep at most
    comes_backed : (v : ℕ) (x : ℤ) → n.is_latch v ≡ true → column v ≡ At x → (p : Path n v) × (x ≤ℤ figure sums p) × (Unit {0}) × (Within (size_after (suc b.bound * 4097)) x)
    comes_backed v x l e =
        let r = one.backed v x (latch_below v l) e in
        (r.0, r.1, tt, larger_size (b.bound * 4097 + 4097) (suc b.bound * 4097) x (omega arith) r.4)

    -- a path to a latch that enters one latch more was absorbed by what the latch started from, or by what came to it
    comes_covers : (v : ℕ) → n.is_latch v ≡ true → (p : Path n v) → latches_entered p ≤ suc b.bound → Reaches later (figure sums p) (starts v) ⊎ Reaches later (figure sums p) (column v)
    comes_covers v l (start o) h = inl (b.covered v l (start o) (omega arith))
    comes_covers v l (step p c) h = inr (one.covered v (step p c) (omega (arith, h, entered p c l)) (λ t. refl))

    -- what climbs when paths that enter all latches were absorbed has no end
    climbs_endless : b.bound ≡ latch_count n → (v : ℕ) → n.is_latch v ≡ true → (s c : Arrival) → starts v ≡ s → column v ≡ c → is_later s c ≡ true → Unbounded {n = n} {v = v} sums every
    climbs_endless all v l NoPath c es ec h = absurd (rw es at (b.covered v l (start (sound.latches v l)) (omega arith)))
    climbs_endless all v l (At y) NoPath es ec h = absurd (true≢false (sym h))
    climbs_endless all v l (At y) (At x) es ec h =
        let r = one.backed v x (latch_below v l) ec in
        let under : (p : Path n v) → latches_entered p ≤ latch_count n → figure sums p ≤ℤ y = λ p few. rw es at (b.covered v l p (omega (arith, all, few))) in
        overtaken n first gain sound v y under r.0 (omega (arith, ints, r.1, h))
    climbs_endless all v l (At y) Endless es ec h = unbounded_every sums has_step (comes_endless v (latch_below v l) ec)
    climbs_endless all v l Endless c es ec h = absurd (true≢false (sym h))

    module _ (starts' : ℕ → Arrival) (next : (v : ℕ) → n.is_latch v ≡ true → starts' v ≡ next_start latest_restarts (latch_count n) made (starts v) (column v)) where
      -- what is known after one sweep more, where latches start from what came to them if that is later
      between_early : made < latch_count n → Between n sums (suc made) starts'
      between_early less =
          let same : b.bound ≡ made = b.early (omega arith) in
          record {
            bound = suc b.bound;
            few = omega arith;
            early = λ h. omega arith;
            late = λ h. omega arith;
            backed = λ v x l.
                starts_early (λ a. a ≡ At x → (p : Path n v) × (x ≤ℤ figure sums p) × (Unit {0}) × (Within (size_after (suc b.bound * 4097)) x))
                (latch_count n) made (starts v) (column v) (starts' v) less (next v l)
                (λ h e. comes_backed v x l e)
                (λ h e.
                let r = b.backed v x l e in
                (r.0, r.1, tt, larger_size (b.bound * 4097) (suc b.bound * 4097) x (omega arith) r.3));
            covered = λ v l p h.
                let f = figure sums p in
                starts_early (Reaches later f)
                (latch_count n) made (starts v) (column v) (starts' v) less (next v l)
                (λ t. ⊎_elim (later_reaches (starts v) (column v) t f) (λ r. r) (comes_covers v l p h))
                (λ t. ⊎_elim (λ r. r) (still_reaches (starts v) (column v) t f) (comes_covers v l p h));
            endless = λ v l.
                starts_early (λ a. a ≡ Endless → Unbounded {n = n} {v = v} sums every)
                (latch_count n) made (starts v) (column v) (starts' v) less (next v l)
                (λ h e. unbounded_every sums has_step (comes_endless v (latch_below v l) e))
                (λ h e. b.endless v l e);
          }

      -- and where latches start without an end if that is later
      between_late : latch_count n ≤ made → Between n sums (suc made) starts'
      between_late past =
          record {
            bound = b.bound;
            few = b.few;
            early = λ h. absurd (omega arith);
            late = λ h. b.late past;
            backed = λ v x l.
                starts_late (λ a. a ≡ At x → (p : Path n v) × (x ≤ℤ figure sums p) × (Unit {0}) × (Within (size_after (b.bound * 4097)) x))
                (latch_count n) made (starts v) (column v) (starts' v) past (next v l)
                (λ h e. absurd cc)
                (λ h e. b.backed v x l e);
            covered = λ v l p h.
                starts_late (Reaches later (figure sums p))
                (latch_count n) made (starts v) (column v) (starts' v) past (next v l)
                (λ t. tt)
                (λ t. b.covered v l p h);
            endless = λ v l.
                starts_late (λ a. a ≡ Endless → Unbounded {n = n} {v = v} sums every)
                (latch_count n) made (starts v) (column v) (starts' v) past (next v l)
                (λ h e. climbs_endless (b.late past) v l (starts v) (column v) refl refl h)
                (λ h e. b.endless v l e);
          }

    module _ (still : (v : ℕ) → n.is_latch v ≡ true → is_later (starts v) (column v) ≡ false) where
      -- what leaves a node has absorbed what came to it
      leaves_on : (v : ℕ) (f : ℤ) → Reaches later f (column v) → Reaches later f (leaving n starts column v)
      leaves_on v f r =
          ⊎_elim
          (λ (l : n.is_latch v ≡ true). rw l (still_reaches (starts v) (column v) (still v l) f r))
          (λ (l : n.is_latch v ≡ false). rw l r)
          (cases_Bool (n.is_latch v))

      -- once no latch climbs, what leaves a node has absorbed every path to it
      all_leave : {v : ℕ} (p : Path n v) → Reaches later (figure sums p) (leaving n starts column v)
      all_leave (start {v = v} o) =
          ⊎_elim
          (λ (l : n.is_latch v ≡ true). rw l (b.covered v l (start o) (omega arith)))
          (λ (l : n.is_latch v ≡ false). rw l (one.own v o l))
          (cases_Bool (n.is_latch v))
      all_leave (step {k = u} {v = v} p c) = leaves_on v (figure sums p +ℤ gain u v) (one.passed_on u v c (figure sums p) (all_leave p))

      -- and what comes to it has absorbed every path of one step or more
      all_come : {v : ℕ} (p : Path n v) → has_step p ≡ true → Reaches later (figure sums p) (column v)
      all_come (start o) t = absurd (true≢false (sym t))
      all_come (step {k = u} {v = v} p c) t = one.passed_on u v c (figure sums p) (all_leave p)

      -- what leaves a node is the latest of its paths
      node_found : (v : ℕ) → v < n.size → IsLatest {n = n} {v = v} sums every (leaving n starts column v)
      node_found v lt =
          is_latest sums every (leaving n starts column v) (λ p t. all_leave p)
          (λ x e.
          ⊎_elim
          (λ (l : n.is_latch v ≡ true).
          let r = b.backed v x l (rw l at e) in
          (r.0, refl, r.1))
          (λ (l : n.is_latch v ≡ false).
          let r = one.backed v x lt (rw l at e) in
          (r.0, refl, r.1))
          (cases_Bool (n.is_latch v)))
          (λ e.
          ⊎_elim
          (λ (l : n.is_latch v ≡ true). b.endless v l (rw l at e))
          (λ (l : n.is_latch v ≡ false). unbounded_every sums has_step (comes_endless v lt (rw l at e)))
          (cases_Bool (n.is_latch v)))

      -- what comes to a latch is the latest of its paths of one step or more
      arrival_found : (v : ℕ) → v < n.size → n.is_latch v ≡ true → IsLatest {n = n} {v = v} sums has_step (column v)
      arrival_found v lt l =
          is_latest sums has_step (column v) all_come
          (λ x e.
          let r = one.backed v x lt e in
          (r.0, r.3 l, r.1))
          (comes_endless v lt)

      -- where what leaves a node has no end, a latch starts without one
      led_found : (v : ℕ) → v < n.size → leaving n starts column v ≡ Endless → (u : ℕ) × (u < n.size) × (n.is_latch u ≡ true) × (starts u ≡ Endless)
      led_found v lt e =
          ⊎_elim
          (λ (l : n.is_latch v ≡ true). (v, lt, l, rw l at e))
          (λ (l : n.is_latch v ≡ false).
          let r = one.led v lt (rw l at e) in
          (r.0, r.1, r.2, r.3))
          (cases_Bool (n.is_latch v))

      -- what a latch starts from is no more than a number that the paths to it which enter few latches keep to
      near_found : (v : ℕ) (bound : ℤ) → n.is_latch v ≡ true → ((p : Path n v) → latches_entered p ≤ latch_count n → figure sums p ≤ℤ bound) → (x : ℤ) → starts v ≡ At x → x ≤ℤ bound
      near_found v bound l under x e =
          let r = b.backed v x l e in
          by_lt_z bound x
          (λ (past : bound <ℤ x).
          let more = overtaken n first gain sound v bound under r.0 (omega (arith, ints, past, r.1)) x in
          let reached : figure sums more.0 ≤ℤ x = rw (l, e) at (all_leave more.0) in
          absurd (omega (arith, ints, more.2, reached)))
          (λ h. h)

module _ (n : Network) (course : Course Arrival ℤ) (first : ℕ → ℤ) (gain : ℕ → ℕ → ℤ) (sound : Sound n) (says : Says n course first gain) where
  -- no path that enters few latches has a figure past the settled size
  few_near : {v : ℕ} (p : Path n v) → v < n.size → latches_entered p ≤ latch_count n → figure (adding first gain) p ≤ℤ settled_size
  few_near {v} p lt less =
      let small : Within (suc (steps p) * 4294967296) (figure (adding first gain) p) = path_small n first gain 4294967296 says.small_starts says.small_gains p in
      let count : steps p ≤ 16785407 = omega (arith, few_steps n sound says.few p, less, count-most n.size n.is_latch, says.few, lt) in
      omega (arith, ints, small.1, count)

  -- what one sweep makes of such starts
  sweeps : {made : ℕ} {starts : ℕ → Arrival} (column : ℕ → Arrival) → (b : Between n (adding first gain) made starts) → Swept latest_kind n course starts column → OneSweep later n first gain b.bound starts column
  sweeps {made} {starts} column b swept =
      one_sweep later n course first gain b.bound starts column sound says (omega (arith, b.few, count-most n.size n.is_latch, says.few)) b.backed b.covered swept

  -- that is known of the starts after any number of sweeps
  between : (begun : ℕ → Arrival) → Begins n first gain begun → {made : ℕ} {starts : ℕ → Arrival} → Restarted latest_kind n course latest_restarts (latch_count n) begun made starts → Between n (adding first gain) made starts
  between begun begins (unswept {starts} e) = between_first n first gain sound begun starts begins says.small_starts e
  between begun begins (after_sweep {made} {starts} column starts' before swept w latch climbs next) =
      let b = between begun begins before in
      let one = sweeps column b swept in
      ⊎_elim
      (λ (less : made < latch_count n). between_early n first gain sound column b one starts' next less)
      (λ (past : latch_count n ≤ made). between_late n first gain sound column b one starts' next past)
      (cases_lt made (latch_count n))

  -- sweeps that settle have found the latest of all paths
  settles : (begun : ℕ → Arrival) → Begins n first gain begun → (made : ℕ) (starts column : ℕ → Arrival) → Settled latest_kind n course latest_restarts (latch_count n) begun made starts column → LatestFound n first gain starts column
  settles begun begins made starts column s =
      let b = between begun begins s.restarted in
      let one = sweeps column b s.swept in
      record {
        nodes = node_found n first gain sound column b one s.still;
        arrivals = arrival_found n first gain sound column b one s.still;
        led = led_found n first gain sound column b one s.still;
        near = λ v l. near_found n first gain sound column b one s.still v settled_size l (λ p less. few_near p (latch_below n first gain sound v l) less);
      }

-- sweeps of the latest kind settle on the greatest figures
pub latest_settles : LatestSettles
latest_settles n course first gain begun made starts column sound says begins s = settles n course first gain sound says begun begins made starts column s
