-- Paths that enter more latches than there are go round a loop. One that gains is gone round for ever, and one that gains nothing is cut out, so a path above all those of few latches shows that there is no end.
use Rattle.std.proofs.Common.{◌≡◌, ℕ, zero, suc, ◌+◌, ◌<◌, ◌≤◌, Bool, true, false, ◌||◌, eqb, ◌⊎◌, ℤ, pos, negsuc, ◌+ℤ◌, ◌-ℤ◌, ◌≤ℤ◌, ◌<ℤ◌, refl, ap, inl, inr, ⊎_elim, arith}
use Rattle.std.proofs.lemmas.Int.{ints, by_lt_z}
use Rattle.std.proofs.lemmas.Bool.{or_cases, cases_Bool, or_left, or_right, eqb-true, eq-eqb}
use Rattle.closing.specs.Sets.{count}
use Rattle.closing.proofs.Counts.{count-within, count-gains}
use Rattle.paths.specs.Networks.{Network, Path, start, step, Connected, Sound, steps, latches_entered, latch_count}
use Rattle.paths.specs.Figures.{figure, adding, NoEnd}
use Rattle.paths.specs.Theorems.{Overtaken}

-- ---- sets of numbers below a count

-- a set with one more number
abbrev with : (ℕ → Bool) → ℕ → ℕ → Bool
with S v u = S u || eqb u v

-- a number below the count that was not in a set adds to it
count_with : (n : ℕ) (S : ℕ → Bool) (v : ℕ) → v < n → S v ≡ false → count n S < count n (with S v)
count_with n S v l out = count-gains n S (with S v) v (λ u lt t. or_left (S u) (eqb u v) t) l out (or_right (S v) (eqb v v) (eq-eqb v v refl))

-- ---- walks from any node

-- connections that are followed from the node u on
data Walk (n : Network) (u : ℕ) : ℕ → Type 0 where
  stay : Walk n u u
  on : {k v : ℕ} → Walk n u k → Connected n k v → Walk n u v

-- how many they are
abbrev size : {n : Network} {u v : ℕ} → Walk n u v → ℕ
size stay = 0
size (on w c) = suc (size w)

-- what they gain
abbrev gained : {n : Network} {u v : ℕ} → (ℕ → ℕ → ℤ) → Walk n u v → ℤ
gained gain stay = pos 0
gained {v = v} gain (on {k} w c) = gained gain w +ℤ gain k v

-- a path that goes on by a walk
abbrev along : {n : Network} {u v : ℕ} → Path n u → Walk n u v → Path n v
along p stay = p
along p (on w c) = step (along p w) c

-- it has the steps of both
along_steps : {n : Network} {u v : ℕ} (p : Path n u) (w : Walk n u v) → steps (along p w) ≡ steps p + size w
along_steps p stay = omega arith
along_steps p (on w c) = omega (arith, along_steps p w)

-- and its figure is the path's, with what the walk gains
along_figure : {n : Network} (first : ℕ → ℤ) (gain : ℕ → ℕ → ℤ) {u v : ℕ} (p : Path n u) (w : Walk n u v) → figure (adding first gain) (along p w) ≡ figure (adding first gain) p +ℤ gained gain w
along_figure first gain p stay = omega (arith, ints)
along_figure first gain p (on w c) = omega (arith, ints, along_figure first gain p w)

-- ---- the loop that a path has if it enters a latch twice

-- a path passes a node: it comes there, and goes on
record Passes {n : Network} {v : ℕ} (u : ℕ) (q : Path n v) : Type 0 where
  front : Path n u
  rest : Walk n u v
  whole : along front rest ≡ q

-- a path comes back to a node that it has passed
record Turns {n : Network} {v : ℕ} (q : Path n v) : Type 0 where
  node : ℕ
  front : Path n node
  loop : Walk n node node
  rest : Walk n node v
  moves : 1 ≤ size loop
  whole : along (along front loop) rest ≡ q

-- the latches that a path enters are all different: they are a set of as many
record Differ {n : Network} {v : ℕ} (q : Path n v) : Type 0 where
  set : ℕ → Bool
  enough : latches_entered q ≤ count n.size set
  latches : (u : ℕ) → set u ≡ true → n.is_latch u ≡ true
  passed : (u : ℕ) → set u ≡ true → Passes u q

-- a path passes its end
passes_end : {n : Network} {v : ℕ} (q : Path n v) → Passes v q
passes_end q = record { front = q; rest = stay; whole = refl }

-- one step more passes what was passed before
passes_on : {n : Network} {u k v : ℕ} (p : Path n k) (c : Connected n k v) → Passes u p → Passes u (step p c)
passes_on p c z = record { front = z.front; rest = on z.rest c; whole = ap (λ r. step r c) z.whole }

-- and keeps the loop that there was
turns_on : {n : Network} {k v : ℕ} (p : Path n k) (c : Connected n k v) → Turns p → Turns (step p c)
turns_on p c z =
    record { node = z.node; front = z.front; loop = z.loop; rest = on z.rest c; moves = z.moves; whole = ap (λ r. step r c) z.whole }

-- a step back to a node that was passed closes a loop
turns_here : {n : Network} {k v : ℕ} (p : Path n k) (c : Connected n k v) → Passes v p → Turns (step p c)
turns_here {v = v} p c z =
    record { node = v; front = z.front; loop = on z.rest c; rest = stay; moves = omega arith; whole = ap (λ r. step r c) z.whole }

-- a step that enters a latch counts it
entered : {n : Network} {k v : ℕ} (p : Path n k) (c : Connected n k v) → n.is_latch v ≡ true → latches_entered (step p c) ≡ suc (latches_entered p)
entered {n} {v = v} p c t = simp t refl

-- and no other step counts
not_entered : {n : Network} {k v : ℕ} (p : Path n k) (c : Connected n k v) → n.is_latch v ≡ false → latches_entered (step p c) ≡ latches_entered p
not_entered {n} {v = v} p c t = simp t refl

-- a step that enters no latch leaves the set as it is
differ_on : {n : Network} {k v : ℕ} (p : Path n k) (c : Connected n k v) → n.is_latch v ≡ false → Differ p → Differ (step p c)
differ_on p c t z =
    record { set = z.set; enough = omega (arith, z.enough, not_entered p c t); latches = z.latches; passed = λ u s. passes_on p c (z.passed u s) }

-- one that enters a latch for the first time adds it
differ_more : {n : Network} {k v : ℕ} (p : Path n k) (c : Connected n k v) → v < n.size → n.is_latch v ≡ true → (z : Differ p) → z.set v ≡ false → Differ (step p c)
differ_more {n} {v = v} p c l t z out =
    record {
      set = with z.set v;
      enough = omega (arith, z.enough, entered p c t, count_with n.size z.set v l out);
      latches = λ u s.
          ⊎_elim
          (λ (a : z.set u ≡ true). z.latches u a)
          (λ (a : eqb u v ≡ true). rw (eqb-true u v a) t)
          (or_cases (z.set u) (eqb u v) s);
      passed = λ u s.
          ⊎_elim
          (λ (a : z.set u ≡ true). passes_on p c (z.passed u a))
          (λ (a : eqb u v ≡ true). rw (eqb-true u v a) (passes_end (step p c)))
          (or_cases (z.set u) (eqb u v) s);
    }

-- the latches that a path enters are all different, or it has a loop
turns_or_differ : {n : Network} → Sound n → {v : ℕ} (q : Path n v) → Turns q ⊎ Differ q
turns_or_differ sound (start o) =
    inr (record { set = λ u. false; enough = omega arith; latches = λ u s. let z : ◌≡◌ {A = ℕ} 0 1 = cc in absurd (omega arith); passed = λ u s. let z : ◌≡◌ {A = ℕ} 0 1 = cc in absurd (omega arith) })
turns_or_differ {n} sound (step {k} {v} p c) =
    ⊎_elim
    (λ (r : Turns p). inl (turns_on p c r))
    (λ (r : Differ p).
    ⊎_elim
    (λ (t : n.is_latch v ≡ true).
    ⊎_elim
    (λ (s : r.set v ≡ true). inl (turns_here p c (r.passed v s)))
    (λ (s : r.set v ≡ false). inr (differ_more p c (sound.sources k v c).1 t r s))
    (cases_Bool (r.set v)))
    (λ (t : n.is_latch v ≡ false). inr (differ_on p c t r))
    (cases_Bool (n.is_latch v)))
    (turns_or_differ sound p)

-- where they are all different, they are no more than there are latches
few : {n : Network} {v : ℕ} (q : Path n v) → Differ q → latches_entered q ≤ latch_count n
few {n} q z = omega (arith, z.enough, count-within n.size z.set n.is_latch (λ u lt s. z.latches u s))

-- ---- going round, and cutting out

-- a number that is no less than an integer
above : (z : ℤ) → (t : ℕ) × (z ≤ℤ pos t)
above (pos k) = (k, omega (arith, ints))
above (negsuc k) = (0, omega (arith, ints))

-- a loop that gains is gone round as often as wanted, and gains as much or more
rounds : {n : Network} (first : ℕ → ℤ) (gain : ℕ → ℕ → ℤ) {u : ℕ} (p : Path n u) (w : Walk n u u) → pos 0 <ℤ gained gain w → (t : ℕ) → (r : Path n u) × ((figure (adding first gain) p +ℤ pos t) ≤ℤ figure (adding first gain) r)
rounds first gain p w h zero = (p, omega (arith, ints))
rounds first gain p w h (suc t) =
    let r = rounds first gain p w h t in
    (along r.0 w, omega (arith, ints, h, r.1, along_figure first gain r.0 w))

-- so where a path has such a loop there is no end
gains_no_end : {n : Network} (first : ℕ → ℤ) (gain : ℕ → ℕ → ℤ) {v : ℕ} (q : Path n v) (z : Turns q) → pos 0 <ℤ gained gain z.loop → NoEnd n (adding first gain) v
gains_no_end first gain q z h bound =
    let t = above (bound -ℤ (figure (adding first gain) z.front +ℤ gained gain z.rest)) in
    let r = rounds first gain z.front z.loop h (suc t.0) in
    (along r.0 z.rest, refl, omega (arith, ints, t.1, r.1, along_figure first gain r.0 z.rest))

-- the figure of a path with a loop is that without it, and what the loop gains
parts_figure : {n : Network} (first : ℕ → ℤ) (gain : ℕ → ℕ → ℤ) {v : ℕ} (q : Path n v) (z : Turns q) → figure (adding first gain) q ≡ figure (adding first gain) (along z.front z.rest) +ℤ gained gain z.loop
parts_figure first gain q z =
    let whole : figure (adding first gain) (along (along z.front z.loop) z.rest) ≡ figure (adding first gain) q = ap (figure (adding first gain)) z.whole in
    omega (arith, ints, whole, along_figure first gain (along z.front z.loop) z.rest, along_figure first gain z.front z.loop, along_figure first gain z.front z.rest)

-- and it has more steps
parts_steps : {n : Network} {v : ℕ} (q : Path n v) (z : Turns q) → steps (along z.front z.rest) < steps q
parts_steps q z =
    let whole : steps (along (along z.front z.loop) z.rest) ≡ steps q = ap steps z.whole in
    omega (arith, whole, z.moves, along_steps (along z.front z.loop) z.rest, along_steps z.front z.loop, along_steps z.front z.rest)

module _ (n : Network) (first : ℕ → ℤ) (gain : ℕ → ℕ → ℤ) (sound : Sound n) (v : ℕ) (bound : ℤ) (under : (p : Path n v) → latches_entered p ≤ latch_count n → figure (adding first gain) p ≤ℤ bound) where
  -- loops that gain nothing are cut out, as many as the path has steps; a path that has none left is not above the bound
  cut : (fuel : ℕ) (q : Path n v) → steps q ≤ fuel → bound <ℤ figure (adding first gain) q → Turns q ⊎ Differ q → NoEnd n (adding first gain) v
  cut fuel q l h (inr z) =
      let low = under q (few q z) in
      absurd (omega (arith, ints, low, h))
  cut zero q l h (inl z) = absurd (omega (arith, l, parts_steps q z))
  cut (suc fuel) q l h (inl z) =
      by_lt_z (pos 0) (gained gain z.loop)
      (λ more. gains_no_end first gain q z more)
      (λ less.
      let shorter = along z.front z.rest in
      cut fuel shorter (omega (arith, l, parts_steps q z)) (omega (arith, ints, h, less, parts_figure first gain q z)) (turns_or_differ sound shorter))

-- a path above all those of few latches goes round a loop that gains
pub overtaken : Overtaken
overtaken n first gain sound v bound under q h = cut n first gain sound v bound under (steps q) q (omega arith) h (turns_or_differ sound q)
