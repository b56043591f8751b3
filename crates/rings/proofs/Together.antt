-- Both kinds visited at once: what is left, and what comes, is for each of them what its own visits make; nodes at rest for both are at rest for each, and the other way round. No visit changes the earliest figure of a latch.
use Rattle.std.proofs.Common.{◌≡◌, ℕ, ◌<◌, Bool, true, false, not, ◌&&◌, cond, List, [], ◌∷◌, map, ℤ, refl, sym, ap, ◌∙◌, ⊎_elim}
use Rattle.std.proofs.lemmas.Bool.{cases_eq}
use Rattle.paths.specs.Networks.{Network}
use Rattle.paths.specs.Kinds.{Kind, joined}
use Rattle.paths.specs.Sweeps.{Course, leaving, own, along}
use Rattle.kinds.specs.declared.arrival.Arrival.{Arrival}
use Rattle.kinds.specs.declared.both.Arrivals.{Arrivals}
use Rattle.kinds.specs.declared.both.Gains.{Gains}
use Rattle.kinds.specs.Arrivals.{latest_kind, earliest_kind, latest_restarts, earliest_restarts}
use Rattle.kinds.specs.Both.{both_kind, both_restarts, latest_course, earliest_course}
use Rattle.kinds.specs.Laws.{arrivals_are}
use Rattle.rings.specs.InPlace.{comes, visited, Visits, unvisited, visit, Rests}

-- what is taken of a choice is chosen of what is taken
of_cond : {F G : Type 0} (p : F → G) (b : Bool) (x y : F) → p (cond b x y) ≡ cond b (p x) (p y)
of_cond p true x y = refl
of_cond p false x y = refl

-- a choice between the same is no choice
cond_same : {F : Type 0} (b : Bool) (x : F) → cond b x x ≡ x
cond_same true x = refl
cond_same false x = refl

-- ---- a part of a kind, which its mark, joins and steps keep apart

module _ {F S G T : Type 0} (kind : Kind F S) (part : Kind G T) (p : F → G) (q : S → T)
    (marks : p kind.no_path ≡ part.no_path) (joins : (x y : F) → p (kind.join x y) ≡ part.join (p x) (p y)) (steps : (x : F) (s : S) → p (kind.step x s) ≡ part.step (p x) (q s)) where
  -- the part of a course
  abbrev course_of : Course F S → Course G T
  course_of course = record { start = λ v. p (course.start v); step = λ k v. q (course.step k v) }

  module _ (n : Network) (course : Course F S) (leaves : ℕ → F) where
    -- the part of what comes along a connection
    part_along : (v k : ℕ) → p (along kind n course leaves leaves v k) ≡ along part n (course_of course) (λ u. p (leaves u)) (λ u. p (leaves u)) v k
    part_along v k = steps (leaving n leaves leaves k) (course.step k v) ∙ ap (λ x. part.step x (q (course.step k v))) (of_cond p (n.is_latch k) (leaves k) (leaves k))

    -- the part of what comes along connections
    part_joined : (v : ℕ) (ks : List ℕ) → p (joined kind (map (along kind n course leaves leaves v) ks)) ≡ joined part (map (along part n (course_of course) (λ u. p (leaves u)) (λ u. p (leaves u)) v) ks)
    part_joined v [] = marks
    part_joined v (k ∷ ks) =
        joins (along kind n course leaves leaves v k) (joined kind (map (along kind n course leaves leaves v) ks)) ∙
        (ap (λ x. part.join x (p (joined kind (map (along kind n course leaves leaves v) ks)))) (part_along v k) ∙
        ap (part.join (along part n (course_of course) (λ u. p (leaves u)) (λ u. p (leaves u)) v k)) (part_joined v ks))

    -- the part of the figure with which an input starts
    part_own : (v : ℕ) → p (own kind n course v) ≡ own part n (course_of course) v
    part_own v = of_cond p (n.is_origin v && not (n.is_latch v)) (course.start v) kind.no_path ∙ ap (cond (n.is_origin v && not (n.is_latch v)) (p (course.start v))) marks

    -- the part of what comes to a node
    part_comes : (v : ℕ) → p (comes kind n course leaves v) ≡ comes part n (course_of course) (λ u. p (leaves u)) v
    part_comes v =
        joins (own kind n course v) (joined kind (map (along kind n course leaves leaves v) (n.sources v))) ∙
        (ap (λ x. part.join x (p (joined kind (map (along kind n course leaves leaves v) (n.sources v))))) (part_own v) ∙
        ap (part.join (own part n (course_of course) v)) (part_joined v (n.sources v)))

-- ---- both kinds, each by itself

-- the latest of what a visit leaves, of what was left before and what came
late_left : (latch : Bool) (s c : Arrivals) → (cond latch (cond (both_restarts.climbs s c) (both_restarts.restart s c) s) c).latest ≡ cond latch (cond (latest_restarts.climbs s.latest c.latest) (latest_restarts.restart s.latest c.latest) s.latest) c.latest
late_left true s c = of_cond (λ x. x.latest) (both_restarts.climbs s c) (both_restarts.restart s c) s
late_left false s c = refl

-- and its earliest
early_left : (latch : Bool) (s c : Arrivals) → (cond latch (cond (both_restarts.climbs s c) (both_restarts.restart s c) s) c).earliest ≡ cond latch (cond (earliest_restarts.climbs s.earliest c.earliest) (earliest_restarts.restart s.earliest c.earliest) s.earliest) c.earliest
early_left true s c = of_cond (λ x. x.earliest) (both_restarts.climbs s c) (both_restarts.restart s c) s ∙ cond_same (both_restarts.climbs s c) s.earliest
early_left false s c = refl

module _ (n : Network) (course : Course Arrival ℤ) where
  -- no visit changes the earliest figure of a latch
  pub visited_earliest_latch : (leaves : ℕ → Arrival) (v : ℕ) → n.is_latch v ≡ true → visited earliest_kind n course earliest_restarts leaves v ≡ leaves v
  visited_earliest_latch leaves v l = rw l refl

  -- nor do any number of them
  pub latches_stay : {count : ℕ} {old new : ℕ → Arrival} → Visits earliest_kind n course earliest_restarts count old new → (v : ℕ) → v < n.size → n.is_latch v ≡ true → new v ≡ old v
  latches_stay (unvisited same) v lt l = same v lt
  latches_stay (visit {old = old} {mid = mid} {new = new} before w within is others) v lt l =
      let stays : mid v ≡ old v = latches_stay before v lt l in
      ⊎_elim
      (λ (e : v ≡ w).
      let here : new v ≡ visited earliest_kind n course earliest_restarts mid v = rw e is in
      here ∙ (visited_earliest_latch mid v l ∙ stays))
      (λ (e : v ≡ w → ⊥). others v lt e ∙ stays)
      (cases_eq v w)

module _ (n : Network) (course : Course Arrivals Gains) where
  -- what comes to a node, of both kinds, is what comes of each
  pub comes_both : (leaves : ℕ → Arrivals) (v : ℕ) →
      ((comes both_kind n course leaves v).latest ≡ comes latest_kind n (latest_course course) (λ u. (leaves u).latest) v) × ((comes both_kind n course leaves v).earliest ≡ comes earliest_kind n (earliest_course course) (λ u. (leaves u).earliest) v)
  comes_both leaves v = (
    part_comes both_kind latest_kind (λ x. x.latest) (λ s. s.latest) refl (λ x y. refl) (λ x s. refl) n course leaves v,
    part_comes both_kind earliest_kind (λ x. x.earliest) (λ s. s.earliest) refl (λ x y. refl) (λ x s. refl) n course leaves v,
  )

  -- so is what a visit leaves it with
  pub visited_both : (leaves : ℕ → Arrivals) (v : ℕ) →
      ((visited both_kind n course both_restarts leaves v).latest ≡ visited latest_kind n (latest_course course) latest_restarts (λ u. (leaves u).latest) v) × ((visited both_kind n course both_restarts leaves v).earliest ≡ visited earliest_kind n (earliest_course course) earliest_restarts (λ u. (leaves u).earliest) v)
  visited_both leaves v = (
    late_left (n.is_latch v) (leaves v) (comes both_kind n course leaves v) ∙
        ap (λ c. cond (n.is_latch v) (cond (latest_restarts.climbs (leaves v).latest c) (latest_restarts.restart (leaves v).latest c) (leaves v).latest) c) (comes_both leaves v).0,
    early_left (n.is_latch v) (leaves v) (comes both_kind n course leaves v) ∙
        ap (λ c. cond (n.is_latch v) (cond (earliest_restarts.climbs (leaves v).earliest c) (earliest_restarts.restart (leaves v).earliest c) (leaves v).earliest) c) (comes_both leaves v).1,
  )

  -- visits of both kinds are visits of the latest
  pub visits_latest : {count : ℕ} {old new : ℕ → Arrivals} → Visits both_kind n course both_restarts count old new → Visits latest_kind n (latest_course course) latest_restarts count (λ v. (old v).latest) (λ v. (new v).latest)
  visits_latest (unvisited same) = unvisited (λ v lt. ap (λ x. x.latest) (same v lt))
  visits_latest (visit {mid = mid} before v lt is others) =
      visit (visits_latest before) v lt (ap (λ x. x.latest) is ∙ (visited_both mid v).0) (λ u less e. ap (λ x. x.latest) (others u less e))

  -- and of the earliest
  pub visits_earliest : {count : ℕ} {old new : ℕ → Arrivals} → Visits both_kind n course both_restarts count old new → Visits earliest_kind n (earliest_course course) earliest_restarts count (λ v. (old v).earliest) (λ v. (new v).earliest)
  visits_earliest (unvisited same) = unvisited (λ v lt. ap (λ x. x.earliest) (same v lt))
  visits_earliest (visit {mid = mid} before v lt is others) =
      visit (visits_earliest before) v lt (ap (λ x. x.earliest) is ∙ (visited_both mid v).1) (λ u less e. ap (λ x. x.earliest) (others u less e))

  -- visits of both kinds leave the earliest figure of a latch as it was
  pub latches_stay_both : {count : ℕ} {old new : ℕ → Arrivals} → Visits both_kind n course both_restarts count old new → (v : ℕ) → v < n.size → n.is_latch v ≡ true → (new v).earliest ≡ (old v).earliest
  latches_stay_both visits v lt l = latches_stay n (earliest_course course) (visits_earliest visits) v lt l

  module _ (leaves : ℕ → Arrivals) (v : ℕ) where
    -- a node at rest for both kinds is at rest for the latest
    pub rests_latest : Rests both_kind n course both_restarts leaves v → Rests latest_kind n (latest_course course) latest_restarts (λ u. (leaves u).latest) v
    rests_latest rests =
        record {
          latch = λ l. ap (latest_restarts.climbs (leaves v).latest) (sym (comes_both leaves v).0) ∙ rests.latch l;
          other = λ l. ap (λ x. x.latest) (rests.other l) ∙ (comes_both leaves v).0;
        }

    -- and for the earliest
    pub rests_earliest_part : Rests both_kind n course both_restarts leaves v → Rests earliest_kind n (earliest_course course) earliest_restarts (λ u. (leaves u).earliest) v
    rests_earliest_part rests =
        record {
          latch = λ l. refl;
          other = λ l. ap (λ x. x.earliest) (rests.other l) ∙ (comes_both leaves v).1;
        }

    -- a node at rest for each is at rest for both
    pub rests_both : Rests latest_kind n (latest_course course) latest_restarts (λ u. (leaves u).latest) v → Rests earliest_kind n (earliest_course course) earliest_restarts (λ u. (leaves u).earliest) v → Rests both_kind n course both_restarts leaves v
    rests_both late early =
        record {
          latch = λ l. ap (latest_restarts.climbs (leaves v).latest) (comes_both leaves v).0 ∙ late.latch l;
          other = λ l. arrivals_are (leaves v) (comes both_kind n course leaves v) (late.other l ∙ sym (comes_both leaves v).0) (early.other l ∙ sym (comes_both leaves v).1);
        }
