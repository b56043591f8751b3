-- What one sweep makes of what latches start from, in whole numbers: no sum leaves 64 bits, no figure is past that of some path, each path is absorbed, and what has no end comes from a latch that has none.
use Rattle.std.proofs.Common.{◌≡◌, ℕ, zero, suc, ◌+◌, ◌*◌, ◌<◌, ◌≤◌, Bool, true, false, not, ◌&&◌, ◌⊎◌, List, [], ◌∷◌, map, ℤ, ◌+ℤ◌, ◌-ℤ◌, refl, sym, ap, ◌∙◌, inl, inr, ⊎_elim, arith}
use Rattle.std.proofs.lemmas.Int.{ints, clamps}
use Rattle.std.proofs.lemmas.Bool.{cases_Bool, cases_cond, and_parts, not-true, true≢false}
use Rattle.std.specs.Int.{int_max, int_min}
use Rattle.paths.specs.Networks.{Network, Path, start, step, Connected, IsIn, Sound, has_step, latches_entered}
use Rattle.paths.specs.Figures.{figure, adding, every, Unbounded}
use Rattle.paths.specs.Kinds.{Kind, joined}
use Rattle.paths.specs.Sweeps.{Course, leaving, own, arrival, Swept}
use Rattle.paths.proofs.Steps.{Within}
use Rattle.kinds.specs.declared.arrival.Arrival.{Arrival}
use Rattle.kinds.specs.declared.arrival.Arrival.TheVariants.{NoPath, At, NoEnd as Endless}
use Rattle.kinds.specs.Laws.{within_64}
use Rattle.kinds.specs.Arrivals.{sum_within, stepped, joined_by}
use Rattle.rings.specs.Found.{Says}
use Rattle.rings.proofs.Reach.{Way, later, earlier, kind_of, NotPast, Reaches, front_entered, MayEnter, size_after, larger_size, Backed, Covered, OneSweep}

-- ---- the two kinds at once

-- which of two figures is picked
abbrev pick_of : Way → ℤ → ℤ → ℤ
pick_of later = int_max
pick_of earlier = int_min

-- a kind by its pick
abbrev pub plain : Way → Kind Arrival ℤ
plain way = record { no_path = NoPath; join = joined_by (pick_of way); step = stepped }

-- each kind is the one by its pick
by_pick : (way : Way) → kind_of way ≡ plain way
by_pick later = refl
by_pick earlier = refl

-- the figure that is picked is one of the two
picks_one : (way : Way) (x y : ℤ) → (pick_of way x y ≡ x) ⊎ (pick_of way x y ≡ y)
picks_one later x y = cases_cond _ x y (int_max x y) refl
picks_one earlier x y = ⊎_elim (λ (h : int_min x y ≡ y). inr h) (λ (h : int_min x y ≡ x). inl h) (cases_cond _ y x (int_min x y) refl)

-- what is not past the one is not past the picked one
pick_left : (way : Way) (f x y : ℤ) → NotPast way f x → NotPast way f (pick_of way x y)
pick_left later f x y h = omega (arith, ints, clamps)
pick_left earlier f x y h = omega (arith, ints, clamps)

-- nor is what is not past the other
pick_right : (way : Way) (f x y : ℤ) → NotPast way f y → NotPast way f (pick_of way x y)
pick_right later f x y h = omega (arith, ints, clamps)
pick_right earlier f x y h = omega (arith, ints, clamps)

-- a figure is not past itself
self : (way : Way) (f : ℤ) → NotPast way f f
self later f = omega (arith, ints)
self earlier f = omega (arith, ints)

-- what is not past another is not so after the same gain
both_gain : (way : Way) (f x g : ℤ) → NotPast way f x → NotPast way (f +ℤ g) (x +ℤ g)
both_gain later f x g h = omega (arith, ints)
both_gain earlier f x g h = omega (arith, ints)

-- a path that only starts enters none of the latches that it may enter
may_start : (way : Way) (k : ℕ) → MayEnter way k 0
may_start later k = tt
may_start earlier k = omega arith

-- ---- joins

-- a join is one of the two
joins_one : (way : Way) (a b : Arrival) → (joined_by (pick_of way) a b ≡ a) ⊎ (joined_by (pick_of way) a b ≡ b)
joins_one way NoPath b = inr refl
joins_one way (At x) NoPath = inl refl
joins_one way (At x) (At y) = ⊎_elim (λ (h : pick_of way x y ≡ x). inl (ap At h)) (λ (h : pick_of way x y ≡ y). inr (ap At h)) (picks_one way x y)
joins_one way (At x) Endless = inr refl
joins_one way Endless b = inl refl

-- a join reaches what its one side reaches
join_left : (way : Way) (f : ℤ) (a b : Arrival) → Reaches way f a → Reaches way f (joined_by (pick_of way) a b)
join_left way f NoPath b h = absurd h
join_left way f (At x) NoPath h = h
join_left way f (At x) (At y) h = pick_left way f x y h
join_left way f (At x) Endless h = tt
join_left way f Endless b h = tt

-- and what its other side reaches
join_right : (way : Way) (f : ℤ) (a b : Arrival) → Reaches way f b → Reaches way f (joined_by (pick_of way) a b)
join_right way f NoPath b h = h
join_right way f (At x) NoPath h = absurd h
join_right way f (At x) (At y) h = pick_right way f x y h
join_right way f (At x) Endless h = tt
join_right way f Endless b h = tt

-- a joined list is the mark, or one of its items
joined_one : (way : Way) (f : ℕ → Arrival) (ks : List ℕ) → (joined (plain way) (map f ks) ≡ NoPath) ⊎ ((u : ℕ) × (IsIn u ks) × (joined (plain way) (map f ks) ≡ f u))
joined_one way f [] = inl refl
joined_one way f (k ∷ ks) =
    ⊎_elim
    (λ (h : joined_by (pick_of way) (f k) (joined (plain way) (map f ks)) ≡ f k). inr (k, inl refl, h))
    (λ (h : joined_by (pick_of way) (f k) (joined (plain way) (map f ks)) ≡ joined (plain way) (map f ks)).
    ⊎_elim
    (λ (e : joined (plain way) (map f ks) ≡ NoPath). inl (h ∙ e))
    (λ (e : (u : ℕ) × (IsIn u ks) × (joined (plain way) (map f ks) ≡ f u)). inr (e.0, inr e.1, h ∙ e.2))
    (joined_one way f ks))
    (joins_one way (f k) (joined (plain way) (map f ks)))

-- a joined list reaches what one of its items reaches
joined_reaches : (way : Way) (x : ℤ) (f : ℕ → Arrival) (ks : List ℕ) (u : ℕ) → IsIn u ks → Reaches way x (f u) → Reaches way x (joined (plain way) (map f ks))
joined_reaches way x f [] u i h = absurd i
joined_reaches way x f (k ∷ ks) u (inl e) h = join_left way x (f k) (joined (plain way) (map f ks)) (rw e at h)
joined_reaches way x f (k ∷ ks) u (inr i) h = join_right way x (f k) (joined (plain way) (map f ks)) (joined_reaches way x f ks u i h)

-- ---- sums and steps

-- equal figures of arrivals
pub same_figure : (x y : ℤ) → At x ≡ At y → x ≡ y
same_figure x y e = cc

-- what comes along a connection with a figure left with one
pub stepped_at : (a : Arrival) (g x : ℤ) → stepped a g ≡ At x → (y : ℤ) × (a ≡ At y) × (sum_within y g ≡ x)
stepped_at NoPath g x e = absurd cc
stepped_at (At y) g x e = (y, refl, same_figure _ x e)
stepped_at Endless g x e = absurd cc

-- what comes without an end left without one
pub stepped_endless : (a : Arrival) (g : ℤ) → stepped a g ≡ Endless → a ≡ Endless
stepped_endless NoPath g e = absurd cc
stepped_endless (At y) g e = absurd cc
stepped_endless Endless g e = refl

-- a step passes on what was reached where its sum is exact
passes : (way : Way) (f g gained : ℤ) (a : Arrival) → ((y : ℤ) → a ≡ At y → sum_within y g ≡ y +ℤ gained) → Reaches way f a → Reaches way (f +ℤ gained) (stepped a g)
passes way f g gained NoPath exact h = absurd h
passes way f g gained (At y) exact h = rw (exact y refl) (both_gain way f y gained h)
passes way f g gained Endless exact h = tt

-- a path to a node that is no latch enters no latch by its last step
enters_before : {n : Network} {v : ℕ} (p : Path n v) → n.is_latch v ≡ false → latches_entered p ≡ front_entered p
enters_before (start o) t = refl
enters_before (step p c) t = rw t refl

-- ---- what comes to a node

-- the figure that comes to node v along its connection from u
abbrev pub brought : Network → Course Arrival ℤ → (ℕ → Arrival) → (ℕ → Arrival) → ℕ → ℕ → Arrival
brought n course starts column v u = stepped (leaving n starts column u) (course.step u v)

-- a figure that is the mark, or the first of an input, or what comes along one of the connections of a node
abbrev pub Made : Network → Course Arrival ℤ → (ℕ → ℤ) → (ℕ → Arrival) → (ℕ → Arrival) → ℕ → Arrival → Type 0
Made n course first starts column v came = (came ≡ NoPath) ⊎ (((n.is_origin v ≡ true) × (n.is_latch v ≡ false) × (came ≡ At (first v))) ⊎ ((u : ℕ) × (Connected n u v) × (came ≡ brought n course starts column v u)))

module _ (way : Way) (n : Network) (course : Course Arrival ℤ) (first : ℕ → ℤ) {gain : ℕ → ℕ → ℤ} (says : Says n course first gain) where
  -- an input has its own figure, and no other node has one
  own_is : (v : ℕ) → (own (plain way) n course v ≡ NoPath) ⊎ ((n.is_origin v ≡ true) × (n.is_latch v ≡ false) × (own (plain way) n course v ≡ At (first v)))
  own_is v =
      ⊎_elim
      (λ (e : (n.is_origin v && not (n.is_latch v)) ≡ true).
      let r = and_parts (n.is_origin v) (not (n.is_latch v)) e in
      let l = not-true (n.is_latch v) r.1 in
      inr (r.0, l, rw e (says.starts v r.0 l)))
      (λ (e : (n.is_origin v && not (n.is_latch v)) ≡ false). inl (rw e refl))
      (cases_Bool (n.is_origin v && not (n.is_latch v)))

  -- what comes to a node is such a figure
  pub comes_of : (starts column : ℕ → Arrival) (v : ℕ) (came : Arrival) → came ≡ arrival (plain way) n course starts column v → Made n course first starts column v came
  comes_of starts column v came is =
      let along : ℕ → Arrival = brought n course starts column v in
      ⊎_elim
      (λ (h : came ≡ own (plain way) n course v).
      ⊎_elim
      (λ (e : own (plain way) n course v ≡ NoPath). inl (h ∙ e))
      (λ (e : (n.is_origin v ≡ true) × (n.is_latch v ≡ false) × (own (plain way) n course v ≡ At (first v))). inr (inl (e.0, e.1, h ∙ e.2)))
      (own_is v))
      (λ (h : came ≡ joined (plain way) (map along (n.sources v))).
      ⊎_elim
      (λ (e : joined (plain way) (map along (n.sources v)) ≡ NoPath). inl (h ∙ e))
      (λ (e : (u : ℕ) × (IsIn u (n.sources v)) × (joined (plain way) (map along (n.sources v)) ≡ along u)). inr (inr (e.0, e.1, h ∙ e.2)))
      (joined_one way along (n.sources v)))
      (rw (← is) at (joins_one way (own (plain way) n course v) (joined (plain way) (map along (n.sources v)))))

-- ---- one sweep

module _ (way : Way) (n : Network) (course : Course Arrival ℤ) (first : ℕ → ℤ) (gain : ℕ → ℕ → ℤ) (k : ℕ) (starts column : ℕ → Arrival) (sound : Sound n) (says : Says n course first gain) (few : k ≤ 4096) (from : Backed way n (adding first gain) k starts) (swept : Swept (plain way) n course starts column) where
  -- the figure with which a node is left
  abbrev leaves : ℕ → Arrival
  leaves u = leaving n starts column u

  -- the figure that comes along a connection
  abbrev along : ℕ → ℕ → Arrival
  along = brought n course starts column

  -- the figure at a node is the mark, or the first of an input, or what comes along one of its connections
  made_of : (v : ℕ) → v < n.size → Made n course first starts column v (column v)
  made_of v lt = comes_of way n course first says starts column v (column v) (swept v lt)

  -- what leaves a node is not past the figure of some path, and not large
  abbrev LeftBy : ℕ → ℤ → Type 0
  LeftBy u y = (p : Path n u) × (NotPast way y (figure (adding first gain) p)) × (MayEnter way k (latches_entered p)) × (Within (size_after (k * 4097 + u)) y)

  -- then the sum along a connection is exact
  exact : (u v : ℕ) (y : ℤ) → Connected n u v → LeftBy u y → sum_within y (course.step u v) ≡ y +ℤ gain u v
  exact u v y c r =
      let lt : u < n.size = (sound.sources u v c).0 in
      let size : n.size ≤ 4096 = says.few in
      let small : Within (size_after (k * 4097 + u)) y = r.3 in
      let more : Within 4294967296 (gain u v) = says.small_gains u v c in
      let count : k * 4097 + u ≤ 16785408 = omega (arith, few, lt, size) in
      rw (says.steps u v c)
      (within_64 (y +ℤ gain u v) (omega (arith, ints, small.0, more.0, count)) (omega (arith, ints, small.1, more.1, count)))

  -- and one step larger at most
  larger : (u v t : ℕ) (y : ℤ) → Connected n u v → u < t → Within (size_after (k * 4097 + u)) y → Within (size_after (k * 4097 + t)) (y +ℤ gain u v)
  larger u v t y c below small =
      let more : Within 4294967296 (gain u v) = says.small_gains u v c in
      (omega (arith, ints, small.0, more.0, below), omega (arith, ints, small.1, more.1, below))

  -- what an input starts with is not large
  small_first : (v t : ℕ) → n.is_origin v ≡ true → Within (size_after (k * 4097 + t)) (first v)
  small_first v t o =
      let small : Within 4294967296 (first v) = says.small_starts v o in
      (omega (arith, ints, small.0), omega (arith, ints, small.1))

  -- the figure at a node is not past that of some path, where what leaves its sources is not, each of them below a number
  backed_on : (v t : ℕ) (x : ℤ) → v < n.size → column v ≡ At x → ((u : ℕ) → Connected n u v → u < t) → ((u : ℕ) (y : ℤ) → Connected n u v → leaves u ≡ At y → LeftBy u y) → (p : Path n v) × (NotPast way x (figure (adding first gain) p)) × (MayEnter way k (front_entered p)) × (n.is_latch v ≡ true → has_step p ≡ true) × (Within (size_after (k * 4097 + t)) x)
  backed_on v t x lt e below left =
      ⊎_elim
      (λ (h : column v ≡ NoPath). absurd cc)
      (λ (h : ((n.is_origin v ≡ true) × (n.is_latch v ≡ false) × (column v ≡ At (first v))) ⊎ ((u : ℕ) × (Connected n u v) × (column v ≡ along v u))).
      ⊎_elim
      (λ (o : (n.is_origin v ≡ true) × (n.is_latch v ≡ false) × (column v ≡ At (first v))).
      let is : first v ≡ x = same_figure (first v) x (sym o.2 ∙ e) in
      (start o.0, rw (← is) (self way (first v)), may_start way k, (λ l. absurd (true≢false (sym l ∙ o.1))), rw is at (small_first v t o.0)))
      (λ (o : (u : ℕ) × (Connected n u v) × (column v ≡ along v u)).
      let a = stepped_at (leaves o.0) (course.step o.0 v) x (sym o.2 ∙ e) in
      let r : LeftBy o.0 a.0 = left o.0 a.0 o.1 a.1 in
      let is : a.0 +ℤ gain o.0 v ≡ x = sym (exact o.0 v a.0 o.1 r) ∙ a.2 in
      (step r.0 o.1, rw is at (both_gain way a.0 (figure (adding first gain) r.0) (gain o.0 v) r.1), r.2, (λ l. refl), rw is at (larger o.0 v t a.0 o.1 (below o.0 o.1) r.3)))
      h)
      (made_of v lt)

  -- what leaves a node is not past the figure of some path, by the numbers of the nodes
  left_by : (b v : ℕ) (x : ℤ) → v < b → v < n.size → leaves v ≡ At x → LeftBy v x
  left_by zero v x h lt e = absurd (omega arith)
  left_by (suc b) v x h lt e =
      ⊎_elim
      (λ (l : n.is_latch v ≡ true).
      let r = from v x l (rw l at e) in
      (r.0, r.1, r.2, larger_size (k * 4097) (k * 4097 + v) x (omega arith) r.3))
      (λ (l : n.is_latch v ≡ false).
      let r = backed_on v v x lt (rw l at e) (λ u c. sound.order u v c l) (λ u y c q. let less : u < v = sound.order u v c l in left_by b u y (omega arith) (sound.sources u v c).0 q) in
      (r.0, r.1, rw (enters_before r.0 l) r.2, r.4))
      (cases_Bool (n.is_latch v))

  -- what leaves a node that is connected to another is so
  left : (u v : ℕ) (y : ℤ) → Connected n u v → leaves u ≡ At y → LeftBy u y
  left u v y c e =
      let lt = (sound.sources u v c).0 in
      left_by n.size u y lt lt e

  -- the figure at a node is not past that of some path
  backed_all : (v : ℕ) (x : ℤ) → v < n.size → column v ≡ At x → (p : Path n v) × (NotPast way x (figure (adding first gain) p)) × (MayEnter way k (front_entered p)) × (n.is_latch v ≡ true → has_step p ≡ true) × (Within (size_after (k * 4097 + 4097)) x)
  backed_all v x lt e =
      let r = backed_on v n.size x lt e (λ u c. (sound.sources u v c).0) (λ u y c q. left u v y c q) in
      let size : n.size ≤ 4096 = says.few in
      (r.0, r.1, r.2, r.3, larger_size (k * 4097 + n.size) (k * 4097 + 4097) x (omega (arith, size)) r.4)

  -- what reaches a node that is left goes on along each connection
  passes_on : (u v : ℕ) → Connected n u v → (f : ℤ) → Reaches way f (leaves u) → Reaches way (f +ℤ gain u v) (column v)
  passes_on u v c f h =
      rw (swept v (sound.sources u v c).1)
      (join_right way _ (own (plain way) n course v) _
      (joined_reaches way _ (along v) (n.sources v) u c
      (passes way f (course.step u v) (gain u v) (leaves u) (λ y e. exact u v y c (left u v y c e)) h)))

  -- an input reaches what it starts with
  own_all : (v : ℕ) → n.is_origin v ≡ true → n.is_latch v ≡ false → Reaches way (first v) (column v)
  own_all v o l =
      rw (swept v (sound.origins v o))
      (join_left way (first v) (own (plain way) n course v) _ (rw (o, l, says.starts v o l) (self way (first v))))

  -- each path that enters few latches before its last step is reached
  covered_all : Covered way n (adding first gain) k starts → (v : ℕ) (p : Path n v) → front_entered p ≤ k → (n.is_latch v ≡ true → has_step p ≡ true) → Reaches way (figure (adding first gain) p) (column v)
  covered_all cover v (start o) h s =
      ⊎_elim
      (λ (l : n.is_latch v ≡ true). absurd (true≢false (sym (s l))))
      (λ (l : n.is_latch v ≡ false). own_all v o l)
      (cases_Bool (n.is_latch v))
  covered_all cover v (step {k = u} q c) h s =
      passes_on u v c (figure (adding first gain) q)
      (⊎_elim
      (λ (l : n.is_latch u ≡ true). rw l (cover u l q h))
      (λ (l : n.is_latch u ≡ false).
      rw l (covered_all cover u q (rw (enters_before q l) at h) (λ l'. absurd (true≢false (sym l' ∙ l)))))
      (cases_Bool (n.is_latch u)))

  -- a latch that starts without an end, whose paths, if they have none, lead to paths that are picked
  abbrev LedTo : (v : ℕ) → (Path n v → Bool) → Type 0
  LedTo v picks = (u : ℕ) × (u < n.size) × (n.is_latch u ≡ true) × (starts u ≡ Endless) × (Unbounded {n = n} {v = u} (adding first gain) every → Unbounded {n = n} {v = v} (adding first gain) picks)

  -- paths without an end go on along a connection
  goes_on : (u v : ℕ) → Connected n u v → Unbounded {n = n} {v = u} (adding first gain) every → Unbounded {n = n} {v = v} (adding first gain) has_step
  goes_on u v c more bound =
      let r = more (bound -ℤ gain u v) in
      (step r.0 c, refl, omega (arith, ints, r.2))

  -- what comes to a node without an end is led to it, where what leaves its sources without one is
  led_on : (v : ℕ) → v < n.size → column v ≡ Endless → ((u : ℕ) → Connected n u v → leaves u ≡ Endless → LedTo u every) → LedTo v has_step
  led_on v lt e led =
      ⊎_elim
      (λ (h : column v ≡ NoPath). absurd cc)
      (λ (h : ((n.is_origin v ≡ true) × (n.is_latch v ≡ false) × (column v ≡ At (first v))) ⊎ ((u : ℕ) × (Connected n u v) × (column v ≡ along v u))).
      ⊎_elim
      (λ (o : (n.is_origin v ≡ true) × (n.is_latch v ≡ false) × (column v ≡ At (first v))).
      let z : At (first v) ≡ Endless = sym o.2 ∙ e in absurd cc)
      (λ (o : (u : ℕ) × (Connected n u v) × (column v ≡ along v u)).
      let r : LedTo o.0 every = led o.0 o.1 (stepped_endless (leaves o.0) (course.step o.0 v) (sym o.2 ∙ e)) in
      (r.0, r.1, r.2, r.3, λ more. goes_on o.0 v o.1 (r.4 more)))
      h)
      (made_of v lt)

  -- what leaves a node without an end is led to it, by the numbers of the nodes
  led_by : (b v : ℕ) → v < b → v < n.size → leaves v ≡ Endless → LedTo v every
  led_by zero v h lt e = absurd (omega arith)
  led_by (suc b) v h lt e =
      ⊎_elim
      (λ (l : n.is_latch v ≡ true). (v, lt, l, rw l at e, λ more. more))
      (λ (l : n.is_latch v ≡ false).
      let r = led_on v lt (rw l at e) (λ u c q. let less : u < v = sound.order u v c l in led_by b u (omega arith) (sound.sources u v c).0 q) in
      (r.0, r.1, r.2, r.3, λ more bound. let z = r.4 more bound in (z.0, refl, z.2)))
      (cases_Bool (n.is_latch v))

  -- what comes to a node without an end is led to it
  led_all : (v : ℕ) → v < n.size → column v ≡ Endless → LedTo v has_step
  led_all v lt e = led_on v lt e (λ u c q. let l = (sound.sources u v c).0 in led_by n.size u l l q)

-- What one sweep makes of starts that are backed by paths and cover them.
pub one_sweep : (way : Way) (n : Network) (course : Course Arrival ℤ) (first : ℕ → ℤ) (gain : ℕ → ℕ → ℤ) (k : ℕ) (starts column : ℕ → Arrival) → Sound n → Says n course first gain → k ≤ 4096 → Backed way n (adding first gain) k starts → Covered way n (adding first gain) k starts → Swept (kind_of way) n course starts column → OneSweep way n first gain k starts column
one_sweep way n course first gain k starts column sound says few from cover swept =
    let plainly : Swept (plain way) n course starts column = rw (by_pick way) at swept in
    record {
      backed = backed_all way n course first gain k starts column sound says few from plainly;
      covered = covered_all way n course first gain k starts column sound says few from plainly cover;
      passed_on = passes_on way n course first gain k starts column sound says few from plainly;
      own = own_all way n course first gain k starts column sound says few from plainly;
      led = led_all way n course first gain k starts column sound says few from plainly;
    }
