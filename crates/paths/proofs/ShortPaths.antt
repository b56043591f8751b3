-- What a sweep finds: the figure at a node absorbs that of every short path that arrives there, and is the join of some of them.
use Rattle.std.proofs.Common.{◌≡◌, ℕ, zero, suc, ◌<◌, Bool, true, false, not, ◌&&◌, List, [], ◌∷◌, ◌++◌, map, sym, refl, ap, ◌∙◌, inl, inr, ⊎_elim, arith}
use Rattle.std.specs.List.{list_all}
use Rattle.std.proofs.lemmas.List.{map-append}
use Rattle.std.proofs.lemmas.List.Folds.{list_all-append}
use Rattle.std.proofs.lemmas.Bool.{cases_Bool, and_parts, and_from, not-true, not_from_false}
use Rattle.paths.specs.Networks.{Network, Path, start, step, Sound, Connected, IsIn, enters_none}
use Rattle.paths.specs.Figures.{figure}
use Rattle.paths.specs.Kinds.{Kind, Lawful, joined}
use Rattle.paths.specs.Sweeps.{Course, leaving, own, Swept, carried, arrives_short, OverShortPaths}

-- where a test holds of all in a list, so does each test that follows from it
list_all-weaker : {X : Type 0} (p q : X → Bool) → ((x : X) → p x ≡ true → q x ≡ true) → (xs : List X) → list_all p xs ≡ true → list_all q xs ≡ true
list_all-weaker p q h [] e = refl
list_all-weaker p q h (x ∷ xs) e =
    let r = and_parts (p x) (list_all p xs) e in
    and_from (q x) (list_all q xs) (h x r.0) (list_all-weaker p q h xs r.1)

module _ {F S : Type 0} (kind : Kind F S) (law : Lawful kind) where
  -- what a figure absorbs, a join with it in front absorbs
  absorbs-left : (x y z : F) → kind.join x y ≡ x → kind.join (kind.join x z) y ≡ kind.join x z
  absorbs-left x y z h =
      law.regroups x z y ∙ ap (λ w. kind.join x w) (law.swaps z y) ∙ sym (law.regroups x y z) ∙ ap (λ w. kind.join w z) h

  -- what a figure absorbs, a join with it behind absorbs
  absorbs-right : (x y z : F) → kind.join x y ≡ x → kind.join (kind.join z x) y ≡ kind.join z x
  absorbs-right x y z h = law.regroups z x y ∙ ap (λ w. kind.join z w) h

  -- a step keeps absorbing
  absorbs-step : (x y : F) (s : S) → kind.join x y ≡ x → kind.join (kind.step x s) (kind.step y s) ≡ kind.step x s
  absorbs-step x y s h = sym (law.steps_before x y s) ∙ ap (λ w. kind.step w s) h

  -- what one figure of a joined list absorbs, the whole absorbs
  absorbs-joined : (f : ℕ → F) (ks : List ℕ) (k : ℕ) (y : F) → IsIn k ks → kind.join (f k) y ≡ f k → kind.join (joined kind (map f ks)) y ≡ joined kind (map f ks)
  absorbs-joined f [] k y i h = absurd i
  absorbs-joined f (x ∷ ks) k y (inl e) h =
      absorbs-left (f x) y (joined kind (map f ks)) (rw e at h)
  absorbs-joined f (x ∷ ks) k y (inr i) h =
      absorbs-right (joined kind (map f ks)) y (f x) (absorbs-joined f ks k y i h)

  -- a join ignores the mark in front too
  ignores-left : (x : F) → kind.join kind.no_path x ≡ x
  ignores-left x = law.swaps kind.no_path x ∙ law.ignores x

  -- two lists, one behind the other, are joined as the joins of each
  joined-append : (xs ys : List F) → joined kind (xs ++ ys) ≡ kind.join (joined kind xs) (joined kind ys)
  joined-append [] ys = sym (ignores-left (joined kind ys))
  joined-append (x ∷ xs) ys =
      ap (λ w. kind.join x w) (joined-append xs ys) ∙ sym (law.regroups x (joined kind xs) (joined kind ys))

module _ {F S : Type 0} (kind : Kind F S) (n : Network) (course : Course F S) (starts column : ℕ → F) (law : Lawful kind) (sound : Sound n) (swept : Swept kind n course starts column) where
  -- the figure of a path, as a sweep carries it
  abbrev carries : {v : ℕ} → Path n v → F
  carries p = figure (carried kind n course starts) p

  -- the figure with which a sweep leaves a node
  abbrev leaves : ℕ → F
  leaves k = leaving n starts column k

  -- an input's figure absorbs what it starts with
  absorbs-own : (v : ℕ) → v < n.size → n.is_origin v ≡ true → n.is_latch v ≡ false → kind.join (column v) (course.start v) ≡ column v
  absorbs-own v lt o e =
      let q : own kind n course v ≡ course.start v = rw (o, e) refl in
      rw (swept v lt) (absorbs-left kind law (own kind n course v) (course.start v) _ (rw q (law.repeats (course.start v))))

  -- a node's figure absorbs one step more of what the figure that leaves a source absorbs
  absorbs_on : (k v : ℕ) → v < n.size → Connected n k v → (y : F) → kind.join (leaves k) y ≡ leaves k → kind.join (column v) (kind.step y (course.step k v)) ≡ column v
  absorbs_on k v lt c y h =
      rw (swept v lt)
      (absorbs-right kind law _ _ _
      (absorbs-joined kind law (λ j. kind.step (leaves j) (course.step j v)) (n.sources v) k (kind.step y (course.step k v)) c
      (absorbs-step kind law (leaves k) y (course.step k v) h)))

  -- the figure that leaves a node absorbs that of each path to it that enters no latch
  absorbs-leaving : (v : ℕ) → v < n.size → (p : Path n v) → enters_none p ≡ true → kind.join (leaves v) (carries p) ≡ leaves v
  absorbs-leaving v lt (start o) e =
      ⊎_elim
      (λ (l : n.is_latch v ≡ true). rw l (law.repeats (starts v)))
      (λ (l : n.is_latch v ≡ false). rw l (absorbs-own v lt o l))
      (cases_Bool (n.is_latch v))
  absorbs-leaving v lt (step {k = k} p c) e =
      let r = and_parts (not (n.is_latch v)) (enters_none p) e in
      let ih = absorbs-leaving k (sound.sources k v c).0 p r.1 in
      rw (not-true (n.is_latch v) r.0) (absorbs_on k v lt c (carries p) ih)

  -- the figure at a node absorbs that of each short path that arrives there
  absorbs-short : (v : ℕ) → v < n.size → (p : Path n v) → arrives_short p ≡ true → kind.join (column v) (carries p) ≡ column v
  absorbs-short v lt (start o) e =
      let l = not-true (n.is_latch v) e in
      rw l (absorbs-own v lt o l)
  absorbs-short v lt (step {k = k} p c) e =
      let r = and_parts (enters_none p) true e in
      absorbs_on k v lt c (carries p) (absorbs-leaving k (sound.sources k v c).0 p r.0)

  -- paths that a test picks, whose figures join to a given one
  abbrev Joins : (v : ℕ) → (Path n v → Bool) → F → Type 0
  Joins v picks f = (ps : List (Path n v)) × (list_all picks ps ≡ true) × (f ≡ joined kind (map (λ p. carries p) ps))

  -- one path that a test picks joins to its figure
  joins-one : (v : ℕ) (picks : Path n v → Bool) (p : Path n v) (f : F) → picks p ≡ true → f ≡ carries p → Joins v picks f
  joins-one v picks p f e q = (p ∷ [], and_from (picks p) true e refl, q ∙ sym (law.ignores (carries p)))

  -- two lists of paths, one behind the other, join to the join of what each joins to
  joins-both : (v : ℕ) (picks : Path n v → Bool) (f g : F) → Joins v picks f → Joins v picks g → Joins v picks (kind.join f g)
  joins-both v picks f g a b = (
    a.0 ++ b.0,
    list_all-append picks a.0 b.0 ∙ and_from _ _ a.1 b.1,
    rw (a.2, b.2, map-append (λ p. carries p) a.0 b.0) (sym (joined-append kind law _ _)),
  )

  -- paths that each go one step on join to one step more of what they joined to
  joined-step : (k v : ℕ) (c : Connected n k v) (ps : List (Path n k)) → kind.step (joined kind (map (λ p. carries p) ps)) (course.step k v) ≡ joined kind (map (λ p. carries p) (map (λ p. step p c) ps))
  joined-step k v c [] = law.keeps (course.step k v)
  joined-step k v c (p ∷ ps) = law.steps_before _ _ (course.step k v) ∙ ap (λ w. kind.join (kind.step (carries p) (course.step k v)) w) (joined-step k v c ps)

  -- paths that enter no latch, each one step on, are short paths that arrive at the next node
  all-step : (k v : ℕ) (c : Connected n k v) (ps : List (Path n k)) → list_all enters_none ps ≡ true → list_all arrives_short (map (λ p. step p c) ps) ≡ true
  all-step k v c [] e = refl
  all-step k v c (p ∷ ps) e =
      let r = and_parts (enters_none p) (list_all enters_none ps) e in
      and_from _ _ (and_from (enters_none p) true r.0 refl) (all-step k v c ps r.1)

  -- what comes along a connection is joined of paths where what leaves its source is
  joins-step : (k v : ℕ) → Connected n k v → Joins k enters_none (leaves k) → Joins v arrives_short (kind.step (leaves k) (course.step k v))
  joins-step k v c a = (map (λ p. step p c) a.0, all-step k v c a.0 a.1, ap (λ w. kind.step w (course.step k v)) a.2 ∙ joined-step k v c a.0)

  -- so is what comes along all connections of a list
  joins-all : (v : ℕ) (ks : List ℕ) → ((k : ℕ) → IsIn k ks → Connected n k v) → ((k : ℕ) → IsIn k ks → Joins k enters_none (leaves k)) → Joins v arrives_short (joined kind (map (λ k. kind.step (leaves k) (course.step k v)) ks))
  joins-all v [] c a = ([], refl, refl)
  joins-all v (k ∷ ks) c a =
      joins-both v arrives_short _ _ (joins-step k v (c k (inl refl)) (a k (inl refl))) (joins-all v ks (λ j i. c j (inr i)) (λ j i. a j (inr i)))

  -- what a node has of its own is joined of paths: the one that starts there, or none
  joins-own : (v : ℕ) → Joins v arrives_short (own kind n course v)
  joins-own v =
      ⊎_elim
      (λ (e : (n.is_origin v && not (n.is_latch v)) ≡ true).
      let r = and_parts (n.is_origin v) (not (n.is_latch v)) e in
      let l = not-true (n.is_latch v) r.1 in
      joins-one v arrives_short (start r.0) _ r.1 (rw (e, l) refl))
      (λ (e : (n.is_origin v && not (n.is_latch v)) ≡ false). ([], refl, rw e refl))
      (cases_Bool (n.is_origin v && not (n.is_latch v)))

  -- the figure at a node is joined of paths that arrive there, where what leaves each of its sources is
  joins-column : (v : ℕ) → v < n.size → ((k : ℕ) → Connected n k v → Joins k enters_none (leaves k)) → Joins v arrives_short (column v)
  joins-column v lt a =
      let r = joins-both v arrives_short _ _ (joins-own v) (joins-all v (n.sources v) (λ k c. c) a) in
      (r.0, r.1, swept v lt ∙ r.2)

  -- a short path that arrives at a node that is no latch enters none
  comes_none : (v : ℕ) → n.is_latch v ≡ false → (p : Path n v) → arrives_short p ≡ true → enters_none p ≡ true
  comes_none v l (start o) e = refl
  comes_none v l (step p c) e = and_from _ _ (not_from_false (n.is_latch v) l) (and_parts (enters_none p) true e).0

  -- the figure that leaves a node is joined of paths that enter no latch
  joins-leaving : (b v : ℕ) → v < b → v < n.size → Joins v enters_none (leaves v)
  joins-leaving zero v h lt = absurd (omega arith)
  joins-leaving (suc b) v h lt =
      ⊎_elim
      (λ (l : n.is_latch v ≡ true). joins-one v enters_none (start (sound.latches v l)) (leaves v) refl (rw l refl))
      (λ (l : n.is_latch v ≡ false).
      let r = joins-column v lt (λ k c. let q : k < v = sound.order k v c l in joins-leaving b k (omega arith) (sound.sources k v c).0) in
      (r.0, list_all-weaker arrives_short enters_none (comes_none v l) r.0 r.1, rw l r.2))
      (cases_Bool (n.is_latch v))

  -- a sweep is over the short paths
  over_short : OverShortPaths kind n course starts column
  over_short =
      record {
        absorbs = absorbs-short;
        joins = λ v lt. joins-column v lt (λ k c. joins-leaving n.size k (sound.sources k v c).0 (sound.sources k v c).0);
      }

-- What a sweep finds of every lawful kind in every sound network: the figure at a node absorbs that of every short path that arrives there, and is the join of some of them.
pub sweeps_short_paths : {F S : Type 0} (kind : Kind F S) (n : Network) (course : Course F S) (starts column : ℕ → F) → Lawful kind → Sound n → Swept kind n course starts column → OverShortPaths kind n course starts column
sweeps_short_paths kind n course starts column law sound swept = over_short kind n course starts column law sound swept
