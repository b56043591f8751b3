-- What visits one at a time make of late figures: none is past that of some path, so at rest they are what settled sweeps find. And where visits may begin: after settled sweeps, at greater gains, and at the opening edges.
use Rattle.std.proofs.Common.{◌≡◌, ℕ, zero, suc, ◌+◌, ◌*◌, ◌<◌, ◌≤◌, Bool, true, false, cond, ◌⊎◌, List, [], ◌∷◌, map, ℤ, ◌+ℤ◌, ◌≤ℤ◌, refl, sym, ap, ◌∙◌, inl, inr, ⊎_elim, arith}
use Rattle.std.proofs.lemmas.Int.{ints}
use Rattle.std.proofs.lemmas.Bool.{cases_Bool, cases_eq, true≢false}
use Rattle.paths.specs.Networks.{Network, start, step, Connected, IsIn, Sound, latch_count}
use Rattle.paths.specs.Figures.{figure, adding, every}
use Rattle.paths.specs.Kinds.{Kind, Restarts, joined}
use Rattle.paths.specs.Sweeps.{Course, Swept, leaving, own, arrives_short}
use Rattle.paths.proofs.Steps.{Within, grows}
use Rattle.kinds.specs.declared.arrival.Arrival.{Arrival}
use Rattle.kinds.specs.declared.arrival.Arrival.TheVariants.{NoPath, At, NoEnd as Endless}
use Rattle.kinds.specs.Laws.{within_64}
use Rattle.kinds.specs.Arrivals.{sum_within, latest_kind, is_later, latest_restarts, earliest_kind, earliest_restarts}
use Rattle.rings.specs.Settling.{unswept, Settled}
use Rattle.rings.specs.Found.{IsLatest, IsEarliest, Says, Begins, LatestFound}
use Rattle.rings.specs.InPlace.{comes, visited, Visits, unvisited, visit, Rests, Below, Near}
use Rattle.rings.proofs.Reach.{later}
use Rattle.rings.proofs.OneSweep.{same_figure, stepped_at, stepped_endless, brought, comes_of}
use Rattle.rings.proofs.Latest.{later_joins, latest_settles}
use Rattle.rings.proofs.Earliest.{earliest_settles}
use Rattle.rings.proofs.Beginning.{found_begins}

-- ---- figures at rest are a column swept

-- a node is left with the figure that a function says
left_same : {F : Type 0} (n : Network) (leaves : ℕ → F) (u : ℕ) → leaving n leaves leaves u ≡ leaves u
left_same n leaves u =
    ⊎_elim
    (λ (l : n.is_latch u ≡ true). rw l refl)
    (λ (l : n.is_latch u ≡ false). rw l refl)
    (cases_Bool (n.is_latch u))

-- functions that agree on a list map it to the same
map_agrees : {F : Type 0} (f g : ℕ → F) (ks : List ℕ) → ((u : ℕ) → IsIn u ks → f u ≡ g u) → map f ks ≡ map g ks
map_agrees f g [] h = refl
map_agrees f g (k ∷ ks) h = rw (h k (inl refl), map_agrees f g ks (λ u i. h u (inr i))) refl

-- nodes at rest are left with a column that a sweep from their own figures fills
pub rests_swept : {F S : Type 0} (kind : Kind F S) (n : Network) (course : Course F S) (r : Restarts F) (leaves : ℕ → F) → Sound n → ((v : ℕ) → v < n.size → Rests kind n course r leaves v) → Swept kind n course leaves (comes kind n course leaves)
rests_swept kind n course r leaves sound rests v lt =
    let same : (u : ℕ) → IsIn u (n.sources v) → kind.step (leaving n leaves leaves u) (course.step u v) ≡ kind.step (leaving n leaves (comes kind n course leaves) u) (course.step u v) =
    λ u c.
    ⊎_elim
    (λ (l : n.is_latch u ≡ true). rw l refl)
    (λ (l : n.is_latch u ≡ false).
    let is : leaves u ≡ comes kind n course leaves u = (rests u (sound.sources u v c).0).other l in
    simp l (ap (λ x. kind.step x (course.step u v)) is))
    (cases_Bool (n.is_latch u))
    in
    let all = map_agrees (λ u. kind.step (leaving n leaves leaves u) (course.step u v)) (λ u. kind.step (leaving n leaves (comes kind n course leaves) u) (course.step u v)) (n.sources v) same in
    ap (λ l. kind.join (own kind n course v) (joined kind l)) all

-- ---- visits

-- figures near after some visits are near after more
pub near_more : (n : Network) (first : ℕ → ℤ) (gain : ℕ → ℕ → ℤ) (k k' : ℕ) (leaves : ℕ → Arrival) → k ≤ k' → Near n first gain k leaves → Near n first gain k' leaves
near_more n first gain k k' leaves more near =
    record {
      ends = near.ends;
      below = λ v x lt e.
          let b = near.below v x lt e in
          let low = b.low in
          let high = b.high in
          record { path = b.path; within = b.within; low = omega (arith, ints, low, more); high = omega (arith, ints, high, more) };
      opened = near.opened;
    }

-- greater gains keep them near
pub near_grows : (n : Network) (first : ℕ → ℤ) (gain gain' : ℕ → ℕ → ℤ) (k : ℕ) (leaves : ℕ → Arrival) → ((k v : ℕ) → gain k v ≤ℤ gain' k v) → Near n first gain k leaves → Near n first gain' k leaves
near_grows n first gain gain' k leaves more near =
    record {
      ends = near.ends;
      below = λ v x lt e.
          let b = near.below v x lt e in
          let within = b.within in
          let grown : figure (adding first gain) b.path ≤ℤ figure (adding first gain') b.path = grows n first first gain gain' (λ u. omega (arith, ints)) more v b.path in
          record { path = b.path; within = omega (arith, ints, within, grown); low = b.low; high = b.high };
      opened = near.opened;
    }

-- figures equal to near ones are near
pub near_same : (n : Network) (first : ℕ → ℤ) (gain : ℕ → ℕ → ℤ) (k : ℕ) (leaves new : ℕ → Arrival) → Sound n → ((v : ℕ) → v < n.size → new v ≡ leaves v) → Near n first gain k leaves → Near n first gain k new
near_same n first gain k leaves new sound same near =
    record {
      ends = λ v lt e. near.ends v lt (sym (same v lt) ∙ e);
      below = λ v x lt e. near.below v x lt (sym (same v lt) ∙ e);
      opened = λ v l.
          let o = near.opened v l in
          (o.0, same v (sound.origins v (sound.latches v l)) ∙ o.1, o.2);
    }

-- what is so of what a node was left with, and of what came to it, at a latch where that is later, is so of what a visit leaves it with
left_one : (P : Arrival → Type 0) (latch : Bool) (s c : Arrival) → P s → ((latch ≡ true → is_later s c ≡ true) → P c) → P (cond latch (cond (is_later s c) (latest_kind.join s c) s) c)
left_one P true s c before came =
    ⊎_elim
    (λ (h : is_later s c ≡ true). rw (h, later_joins s c h) (came (λ t. h)))
    (λ (h : is_later s c ≡ false). rw h before)
    (cases_Bool (is_later s c))
left_one P false s c before came = came (λ t. absurd (true≢false (sym t)))

-- what is later than a figure, and has an end, is a greater figure
later_opened : (f : ℤ) (s c : Arrival) → is_later s c ≡ true → (c ≡ Endless → ⊥) → (x : ℤ) × (s ≡ At x) × (f ≤ℤ x) → (x : ℤ) × (c ≡ At x) × (f ≤ℤ x)
later_opened f NoPath c h ends o = let z : NoPath ≡ At o.0 = o.1 in absurd cc
later_opened f (At y) NoPath h ends o = absurd (true≢false (sym h))
later_opened f (At y) (At x) h ends o =
    let is : y ≡ o.0 = same_figure y o.0 o.1 in
    (x, refl, omega (arith, ints, h, is, o.2))
later_opened f (At y) Endless h ends o = absurd (ends refl)
later_opened f Endless c h ends o = absurd (true≢false (sym h))

module _ (n : Network) (course : Course Arrival ℤ) (first : ℕ → ℤ) (gain : ℕ → ℕ → ℤ) (sound : Sound n) (says : Says n course first gain) where
  -- what starts a path is no more than its figure, and not large
  first_below : (k v : ℕ) → n.is_origin v ≡ true → Below n first gain k v (first v)
  first_below k v o =
      let small : Within 4294967296 (first v) = says.small_starts v o in
      record { path = start o; within = omega (arith, ints); low = omega (arith, ints, small.0); high = omega (arith, ints, small.1) }

  -- so far along a connection the sum is exact
  sum_exact : (k u v : ℕ) (y : ℤ) → k ≤ 65536 → Connected n u v → Below n first gain k u y → sum_within y (course.step u v) ≡ y +ℤ gain u v
  sum_exact k u v y few c b =
      let small : Within 4294967296 (gain u v) = says.small_gains u v c in
      let low = b.low in
      let high = b.high in
      rw (says.steps u v c)
      (within_64 (y +ℤ gain u v) (omega (arith, ints, low, small.0, few)) (omega (arith, ints, high, small.1, few)))

  -- and it is no more than the figure of the path that goes on there
  sum_below : (k u v : ℕ) (y : ℤ) → Connected n u v → Below n first gain k u y → Below n first gain (suc k) v (y +ℤ gain u v)
  sum_below k u v y c b =
      let small : Within 4294967296 (gain u v) = says.small_gains u v c in
      let low = b.low in
      let high = b.high in
      let within = b.within in
      record { path = step b.path c; within = omega (arith, ints, within); low = omega (arith, ints, low, small.0); high = omega (arith, ints, high, small.1) }

  module _ (k : ℕ) (few : k ≤ 65536) (leaves : ℕ → Arrival) (near : Near n first gain k leaves) where
    -- no visit finds what has no end
    pub comes_ends : (v : ℕ) → comes latest_kind n course leaves v ≡ Endless → ⊥
    comes_ends v e =
        ⊎_elim
        (λ (h : comes latest_kind n course leaves v ≡ NoPath). let z : NoPath ≡ Endless = sym h ∙ e in absurd cc)
        (λ (h : ((n.is_origin v ≡ true) × (n.is_latch v ≡ false) × (comes latest_kind n course leaves v ≡ At (first v))) ⊎ ((u : ℕ) × (Connected n u v) × (comes latest_kind n course leaves v ≡ brought n course leaves leaves v u))).
        ⊎_elim
        (λ (o : (n.is_origin v ≡ true) × (n.is_latch v ≡ false) × (comes latest_kind n course leaves v ≡ At (first v))).
        let z : At (first v) ≡ Endless = sym o.2 ∙ e in absurd cc)
        (λ (o : (u : ℕ) × (Connected n u v) × (comes latest_kind n course leaves v ≡ brought n course leaves leaves v u)).
        let z : leaving n leaves leaves o.0 ≡ Endless = stepped_endless (leaving n leaves leaves o.0) (course.step o.0 v) (sym o.2 ∙ e) in
        near.ends o.0 (sound.sources o.0 v o.1).0 (sym (left_same n leaves o.0) ∙ z))
        h)
        (comes_of later n course first says leaves leaves v (comes latest_kind n course leaves v) refl)

    -- a figure that a visit finds is no more than that of some path
    pub comes_below : (v : ℕ) (x : ℤ) → comes latest_kind n course leaves v ≡ At x → Below n first gain (suc k) v x
    comes_below v x e =
        ⊎_elim
        (λ (h : comes latest_kind n course leaves v ≡ NoPath). let z : NoPath ≡ At x = sym h ∙ e in absurd cc)
        (λ (h : ((n.is_origin v ≡ true) × (n.is_latch v ≡ false) × (comes latest_kind n course leaves v ≡ At (first v))) ⊎ ((u : ℕ) × (Connected n u v) × (comes latest_kind n course leaves v ≡ brought n course leaves leaves v u))).
        ⊎_elim
        (λ (o : (n.is_origin v ≡ true) × (n.is_latch v ≡ false) × (comes latest_kind n course leaves v ≡ At (first v))).
        let is : first v ≡ x = same_figure (first v) x (sym o.2 ∙ e) in
        rw is at (first_below (suc k) v o.0))
        (λ (o : (u : ℕ) × (Connected n u v) × (comes latest_kind n course leaves v ≡ brought n course leaves leaves v u)).
        let a = stepped_at (leaving n leaves leaves o.0) (course.step o.0 v) x (sym o.2 ∙ e) in
        let b : Below n first gain k o.0 a.0 = near.below o.0 a.0 (sound.sources o.0 v o.1).0 (sym (left_same n leaves o.0) ∙ a.1) in
        let is : a.0 +ℤ gain o.0 v ≡ x = sym (sum_exact k o.0 v a.0 few o.1 b) ∙ a.2 in
        rw is at (sum_below k o.0 v a.0 o.1 b))
        h)
        (comes_of later n course first says leaves leaves v (comes latest_kind n course leaves v) refl)

    -- what is so of what a node was left with, and of what came to it, at a latch where that is later, is so of what it is left with after a visit to some node
    after_visit : (v : ℕ) (new : ℕ → Arrival) → new v ≡ visited latest_kind n course latest_restarts leaves v → ((u : ℕ) → u < n.size → (u ≡ v → ⊥) → new u ≡ leaves u) →
        (P : Arrival → Type 0) (u : ℕ) → u < n.size → P (leaves u) → ((n.is_latch u ≡ true → is_later (leaves u) (comes latest_kind n course leaves u) ≡ true) → P (comes latest_kind n course leaves u)) → P (new u)
    after_visit v new is others P u lt before came =
        ⊎_elim
        (λ (e : u ≡ v).
        let here : new u ≡ visited latest_kind n course latest_restarts leaves u = rw e is in
        rw here (left_one P (n.is_latch u) (leaves u) (comes latest_kind n course leaves u) before came))
        (λ (e : u ≡ v → ⊥). rw (others u lt e) before)
        (cases_eq u v)

    -- after one visit figures are near still
    pub near_visit : (v : ℕ) (new : ℕ → Arrival) → new v ≡ visited latest_kind n course latest_restarts leaves v → ((u : ℕ) → u < n.size → (u ≡ v → ⊥) → new u ≡ leaves u) → Near n first gain (suc k) new
    near_visit v new is others =
        record {
          ends = λ u lt. after_visit v new is others (λ a. a ≡ Endless → ⊥) u lt (near.ends u lt) (λ h. comes_ends u);
          below = λ u x lt.
              after_visit v new is others (λ a. a ≡ At x → Below n first gain (suc k) u x) u lt
              (λ e. (near_more n first gain k (suc k) leaves (omega arith) near).below u x lt e)
              (λ h. comes_below u x);
          opened = λ u l.
              after_visit v new is others (λ a. (x : ℤ) × (a ≡ At x) × (first u ≤ℤ x)) u (sound.origins u (sound.latches u l)) (near.opened u l)
              (λ h. later_opened (first u) (leaves u) (comes latest_kind n course leaves u) (h l) (comes_ends u) (near.opened u l));
        }

    -- latches may begin from them
    pub near_begins : Begins n first gain leaves
    near_begins =
        record {
          at = λ v l.
              let o = near.opened v l in
              let b = near.below v o.0 (sound.origins v (sound.latches v l)) o.1 in
              let high = b.high in
              (o.0, o.1, o.2, omega (arith, ints, high, few), b.path, b.within);
        }

    module _ (rests : (v : ℕ) → v < n.size → Rests latest_kind n course latest_restarts leaves v) where
      -- where all nodes are at rest no sweep is wanted
      pub near_still : Settled latest_kind n course latest_restarts (latch_count n) leaves 0 leaves (comes latest_kind n course leaves)
      near_still =
          record {
            restarted = unswept (λ v l. refl);
            swept = rests_swept latest_kind n course latest_restarts leaves sound rests;
            still = λ v l. (rests v (sound.origins v (sound.latches v l))).latch l;
          }

      -- and they are what settled sweeps find
      pub near_settled : (Settled latest_kind n course latest_restarts (latch_count n) leaves 0 leaves (comes latest_kind n course leaves)) × (LatestFound n first gain leaves (comes latest_kind n course leaves))
      near_settled = (near_still, latest_settles n course first gain leaves 0 leaves (comes latest_kind n course leaves) sound says near_begins near_still)

  -- after any number of visits, one after another, figures are near still
  pub near_visits : {count : ℕ} {old new : ℕ → Arrival} → Visits latest_kind n course latest_restarts count old new → (k : ℕ) → Near n first gain k old → k + count ≤ 65536 → Near n first gain (k + count) new
  near_visits (unvisited {old} {new} same) k near few =
      near_more n first gain k (k + 0) new (omega arith) (near_same n first gain k old new sound same near)
  near_visits (visit {k = count} {mid = mid} {new = new} before v lt is others) k near few =
      let mids : Near n first gain (k + count) mid = near_visits before k near (omega (arith, few)) in
      near_more n first gain (suc (k + count)) (k + suc count) new (omega arith) (near_visit (k + count) (omega (arith, few)) mid mids v new is others)

  -- the opening edges are near, with nothing come to other nodes
  pub near_opening : (leaves : ℕ → Arrival) → ((v : ℕ) → n.is_latch v ≡ true → leaves v ≡ At (first v)) → ((v : ℕ) → v < n.size → n.is_latch v ≡ false → leaves v ≡ NoPath) → Near n first gain 0 leaves
  near_opening leaves opens others =
      record {
        ends = λ v lt e.
            ⊎_elim
            (λ (l : n.is_latch v ≡ true). let z : At (first v) ≡ Endless = sym (opens v l) ∙ e in absurd cc)
            (λ (l : n.is_latch v ≡ false). let z : NoPath ≡ Endless = sym (others v lt l) ∙ e in absurd cc)
            (cases_Bool (n.is_latch v));
        below = λ v x lt e.
            ⊎_elim
            (λ (l : n.is_latch v ≡ true).
            let is : first v ≡ x = same_figure (first v) x (sym (opens v l) ∙ e) in
            rw is at (first_below 0 v (sound.latches v l)))
            (λ (l : n.is_latch v ≡ false). let z : NoPath ≡ At x = sym (others v lt l) ∙ e in absurd cc)
            (cases_Bool (n.is_latch v));
        opened = λ v l. (first v, opens v l, omega (arith, ints));
      }

  -- at rest latches that start from their opening edges are left with the earliest of the short paths
  pub rests_earliest : (leaves : ℕ → Arrival) → ((v : ℕ) → n.is_latch v ≡ true → leaves v ≡ At (first v)) → ((v : ℕ) → v < n.size → Rests earliest_kind n course earliest_restarts leaves v) →
      (v : ℕ) → v < n.size → IsEarliest {n = n} {v = v} (adding first gain) arrives_short (comes earliest_kind n course leaves v)
  rests_earliest leaves opens rests =
      earliest_settles n course first gain 0 0 leaves (comes earliest_kind n course leaves) sound says
      (record {
        restarted = unswept opens;
        swept = rests_swept earliest_kind n course earliest_restarts leaves sound rests;
        still = λ v l. refl;
      })

-- ---- after settled sweeps

-- how large a figure is at most with which settled sweeps leave a node
abbrev settled_by : ℕ → ℕ
settled_by v = 72127962782105600 + suc v * 4294967296

module _ (n : Network) (course : Course Arrival ℤ) (first : ℕ → ℤ) (gain : ℕ → ℕ → ℤ) (starts column : ℕ → Arrival) (sound : Sound n) (says : Says n course first gain) (swept : Swept latest_kind n course starts column) (found : LatestFound n first gain starts column) (ends : (v : ℕ) → n.is_latch v ≡ true → starts v ≡ Endless → ⊥) where
  -- a latch is left with a figure that is not large
  latch_small : (v : ℕ) (x : ℤ) → n.is_latch v ≡ true → starts v ≡ At x → Within (settled_by v) x
  latch_small v x l e =
      let o = sound.latches v l in
      let b = (found_begins n first gain starts column sound found ends).at v l in
      let is : b.0 ≡ x = same_figure b.0 x (sym b.1 ∙ e) in
      let opens = b.2 in
      let high = found.near v l x e in
      let small : Within 4294967296 (first v) = says.small_starts v o in
      (omega (arith, ints, is, opens, small.0), omega (arith, ints, high))

  -- the sum along a connection is exact, and not large
  gate_small : (u v : ℕ) (y : ℤ) → Connected n u v → u < v → Within (settled_by u) y → Within (settled_by v) (sum_within y (course.step u v))
  gate_small u v y c less small =
      let more : Within 4294967296 (gain u v) = says.small_gains u v c in
      let lt : u < n.size = (sound.sources u v c).0 in
      let size : n.size ≤ 4096 = says.few in
      let exact : sum_within y (course.step u v) ≡ y +ℤ gain u v =
      rw (says.steps u v c)
      (within_64 (y +ℤ gain u v) (omega (arith, ints, small.0, more.0, lt, size)) (omega (arith, ints, small.1, more.1, lt, size)))
      in
      rw exact (omega (arith, ints, small.0, more.0, less), omega (arith, ints, small.1, more.1, less))

  -- so is each figure with which a node is left, by the numbers of the nodes
  left_small : (b v : ℕ) (x : ℤ) → v < b → v < n.size → leaving n starts column v ≡ At x → Within (settled_by v) x
  left_small zero v x h lt e = absurd (omega arith)
  left_small (suc b) v x h lt e =
      ⊎_elim
      (λ (l : n.is_latch v ≡ true). latch_small v x l (rw l at e))
      (λ (l : n.is_latch v ≡ false).
      let came : column v ≡ At x = rw l at e in
      ⊎_elim
      (λ (m : column v ≡ NoPath). let z : NoPath ≡ At x = sym m ∙ came in absurd cc)
      (λ (m : ((n.is_origin v ≡ true) × (n.is_latch v ≡ false) × (column v ≡ At (first v))) ⊎ ((u : ℕ) × (Connected n u v) × (column v ≡ brought n course starts column v u))).
      ⊎_elim
      (λ (o : (n.is_origin v ≡ true) × (n.is_latch v ≡ false) × (column v ≡ At (first v))).
      let is : first v ≡ x = same_figure (first v) x (sym o.2 ∙ came) in
      let small : Within 4294967296 (first v) = says.small_starts v o.0 in
      (omega (arith, ints, is, small.0), omega (arith, ints, is, small.1)))
      (λ (o : (u : ℕ) × (Connected n u v) × (column v ≡ brought n course starts column v u)).
      let a = stepped_at (leaving n starts column o.0) (course.step o.0 v) x (sym o.2 ∙ came) in
      let less : o.0 < v = sound.order o.0 v o.1 l in
      let small : Within (settled_by o.0) a.0 = left_small b o.0 a.0 (omega (arith, less, h)) (sound.sources o.0 v o.1).0 a.1 in
      rw a.2 at (gate_small o.0 v a.0 o.1 less small))
      m)
      (comes_of later n course first says starts column v (column v) (swept v lt)))
      (cases_Bool (n.is_latch v))

  -- what settled sweeps leave nodes with is near, where no latch has no end
  pub near_found : (leaves : ℕ → Arrival) → ((v : ℕ) → v < n.size → leaves v ≡ leaving n starts column v) → Near n first gain 0 leaves
  near_found leaves same =
      record {
        ends = λ v lt e.
            let r = found.led v lt (sym (same v lt) ∙ e) in
            ends r.0 r.2 r.3;
        below = λ v x lt e.
            let left : leaving n starts column v ≡ At x = sym (same v lt) ∙ e in
            let latest : IsLatest {n = n} {v = v} (adding first gain) every (At x) = rw left at (found.nodes v lt) in
            let reached = latest.reached in
            let small : Within (settled_by v) x = left_small n.size v x lt lt left in
            let size : n.size ≤ 4096 = says.few in
            record { path = latest.path; within = omega (arith, ints, reached); low = omega (arith, ints, small.0, lt, size); high = omega (arith, ints, small.1, lt, size) };
        opened = λ v l.
            let b = (found_begins n first gain starts column sound found ends).at v l in
            (b.0, same v (sound.origins v (sound.latches v l)) ∙ rw l b.1, b.2);
      }
