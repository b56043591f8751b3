-- Sweeps settle: with each that leaves a latch climbing, either fewer are left before the limit, or fewer figures can climb.
use Rattle.std.proofs.Common.{◌≡◌, ℕ, zero, suc, ◌+◌, ◌-◌, ◌*◌, ◌<◌, ◌≤◌, Bool, true, false, List, refl, ◌∙◌, ⊎_elim, arith, nat_lt}
use Rattle.std.proofs.lemmas.Bool.{cases_Bool, cases_lt, le-ltb}
use Rattle.paths.specs.Networks.{Network, Sound}
use Rattle.paths.specs.Kinds.{Kind}
use Rattle.paths.specs.Sweeps.{Course, Swept}
use Rattle.paths.specs.Kinds.{Restarts}
use Rattle.rings.specs.Settling.{next_start, Restarted, unswept, after_sweep}
use Rattle.windows.specs.Seen.{figure_at}
use Rattle.windows.specs.Rings.{PassedOn, Started}

-- how many figures can climb in what the nodes below a number start from
abbrev pub climbing : {F : Type 0} → (F → ℕ) → ℕ → (ℕ → F) → ℕ
climbing can zero starts = 0
climbing can (suc n) starts = can (starts n) + climbing can n starts

-- few can climb of few nodes
pub climbing_few : {F : Type 0} (can : F → ℕ) → ((x : F) → can x ≤ 255) → (n : ℕ) (starts : ℕ → F) → climbing can n starts ≤ n * 255
climbing_few can few zero starts = omega arith
climbing_few can few (suc n) starts = omega (arith, few (starts n), climbing_few can few n starts)

-- where no start can climb more than before, no more can climb
climbing_falls : {F : Type 0} (can : F → ℕ) (n : ℕ) (old new : ℕ → F) → ((v : ℕ) → v < n → can (new v) ≤ can (old v)) → climbing can n new ≤ climbing can n old
climbing_falls can zero old new le = omega arith
climbing_falls can (suc n) old new le = omega (arith, le n (omega arith), climbing_falls can n old new (λ v lt. le v (omega arith)))

-- and where one start can climb less, fewer can
climbing_less : {F : Type 0} (can : F → ℕ) (n : ℕ) (old new : ℕ → F) → ((v : ℕ) → v < n → can (new v) ≤ can (old v)) → (w : ℕ) → w < n → can (new w) < can (old w) → climbing can n new < climbing can n old
climbing_less can zero old new le w lt less = omega arith
climbing_less can (suc n) old new le w lt less =
    ⊎_elim
    (λ (l : w < n). omega (arith, le n (omega arith), climbing_less can n old new (λ v lt. le v (omega arith)) w l less))
    (λ (l : n ≤ w).
    let e : w ≡ n = omega arith in
    let here : can (new n) < can (old n) = rw e at less in
    omega (arith, here, climbing_falls can n old new (λ v lt. le v (omega arith))))
    (cases_lt w n)

-- what a kind of delay keeps at a latch between two sweeps
pub record Falls {F : Type 0} (can : F → ℕ) (r : Restarts F) : Type 0 where
  pub restarts : (start arrival : F) → can (r.restart start arrival) ≤ can start
  pub ends : (start arrival : F) → r.climbs start arrival ≡ true → can (r.without_end start arrival) < can start

module _ {F : Type 0} (no_path : F) (can : F → ℕ) (r : Restarts F) (falls : Falls can r) (n : Network) (made limit : ℕ) where
  -- what is next for a latch can climb no more than before, and less if it is given no end
  next_falls : (start arrival : F) → can (next_start r limit made start arrival) ≤ can start
  next_falls start arrival =
      ⊎_elim
      (λ (c : r.climbs start arrival ≡ true).
      ⊎_elim
      (λ (m : nat_lt made limit ≡ true). rw (c, m) (falls.restarts start arrival))
      (λ (m : nat_lt made limit ≡ false). let e = falls.ends start arrival c in rw (c, m) (omega (arith, e)))
      (cases_Bool (nat_lt made limit)))
      (λ (c : r.climbs start arrival ≡ false). rw c (omega arith))
      (cases_Bool (r.climbs start arrival))

  -- a sweep after which a latch climbs brings the limit nearer, or leaves fewer figures that can climb
  pub nearer : (column old new : List F) (climbs : Bool) → climbs ≡ true → PassedOn no_path r n made limit 0 n.size column old new climbs →
      (limit - (made + 1)) + climbing can n.size (figure_at no_path new) < (limit - made) + climbing can n.size (figure_at no_path old)
  nearer column old new climbs e p =
      let le : (v : ℕ) → v < n.size → can (figure_at no_path new v) ≤ can (figure_at no_path old v) =
      λ v lt. rw (p.next v (omega arith) lt)
      (⊎_elim
      (λ (l : n.is_latch v ≡ true). rw l (next_falls (figure_at no_path old v) (figure_at no_path column v)))
      (λ (l : n.is_latch v ≡ false). rw l (omega arith))
      (cases_Bool (n.is_latch v))) in
      let s = p.some e in
      ⊎_elim
      (λ (m : made < limit). omega (arith, climbing_falls can n.size (figure_at no_path old) (figure_at no_path new) le))
      (λ (m : limit ≤ made).
      let marked : can (figure_at no_path new s.0) < can (figure_at no_path old s.0) =
      rw (p.next s.0 s.1 s.2, s.3, s.4, le-ltb made limit m) (falls.ends (figure_at no_path old s.0) (figure_at no_path column s.0) s.4) in
      omega (arith, climbing_less can n.size (figure_at no_path old) (figure_at no_path new) le s.0 s.2 marked))
      (cases_lt made limit)

module _ {F S : Type 0} (kind : Kind F S) (n : Network) (course : Course F S) (r : Restarts F) (limit : ℕ) (first : ℕ → F) where
  -- the starts after one more sweep
  pub once_more : (made : ℕ) (column old new : List F) (climbs : Bool) → climbs ≡ true → Sound n → Restarted kind n course r limit first made (figure_at kind.no_path old) →
      Swept kind n course (figure_at kind.no_path old) (figure_at kind.no_path column) → PassedOn kind.no_path r n made limit 0 n.size column old new climbs →
      Restarted kind n course r limit first (made + 1) (figure_at kind.no_path new)
  once_more made column old new climbs c sound before swept p =
      let e : made + 1 ≡ suc made = omega arith in
      let some = p.some c in
      rw e
      (after_sweep (figure_at kind.no_path column) (figure_at kind.no_path new) before swept some.0 some.3 some.4
      (λ v l. let lt = sound.origins v (sound.latches v l) in p.next v (omega arith) lt ∙ rw l refl))

  -- the starts before the first sweep
  pub before_sweeps : (old new : List F) → Sound n → Started kind.no_path first n.size old new → Restarted kind n course r limit first 0 (figure_at kind.no_path new)
  before_sweeps old new sound o = unswept (λ v l. o.opens v (sound.origins v (sound.latches v l)))
