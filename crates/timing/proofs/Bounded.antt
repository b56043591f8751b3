-- In a table that stands the greatest late figure at a latch and the least early figure of short paths lie far within 64 bits, and with them by how much a latch is late or early.
use Rattle.std.proofs.Common.{◌≡◌, ℕ, ◌+◌, ◌*◌, ◌<◌, ◌≤◌, Bool, true, false, not, length, ℤ, pos, neg_ℤ, ◌-ℤ◌, ◌≤ℤ◌, ◌<ℤ◌, refl, ⊎_elim, arith}
use Rattle.std.specs.Int.{saturate_signed, w64}
use Rattle.std.proofs.lemmas.Int.{ints, by_lt_z}
use Rattle.std.proofs.lemmas.Bool.{cases_Bool, and_parts, not-true}
use Rattle.closing.proofs.Counts.{count-most}
use Rattle.schedule.specs.Clock.{Clock}
use Rattle.design.specs.declared.nodes.Node.{Node}
use Rattle.design.specs.declared.nodes.Node.TheVariants.{Free, Input, Gate, Latch}
use Rattle.design.specs.Table.{Table}
use Rattle.design.specs.SoFar.{RowStands, Stands}
use Rattle.paths.specs.Networks.{Network, Path, start, step, Connected, Sound, has_step, steps, latches_entered, latch_count, enters_none, is_short}
use Rattle.paths.specs.Figures.{figure, adding, Greatest, Least}
use Rattle.paths.proofs.Steps.{path_small}
use Rattle.paths.proofs.Loops.{overtaken}
use Rattle.kinds.specs.Laws.{within_64}
use Rattle.rings.specs.Found.{Small}
use Rattle.timing.specs.Connections.{row, network, late_bound, early_bound}
use Rattle.timing.specs.Figures.{late_start, late_gain, late, early_start, early_gain, early}
use Rattle.timing.specs.Windows.{setup_of, hold_of}
use Rattle.timing.specs.Breaches.{short_step}
use Rattle.timing.proofs.Sound.{stands_sound, stands_says_latest, stands_says_earliest}

-- ---- how many steps a path has

module _ (n : Network) (sound : Sound n) where
  -- a path leads to a node
  leads_below : {v : ℕ} (p : Path n v) → v < n.size
  leads_below (start {v = v} o) = sound.origins v o
  leads_below (step {k = k} {v = v} p c) = (sound.sources k v c).1

  -- between two latches the nodes of a path are in order, so that it has few steps for each latch that it enters
  steps_between : n.size ≤ 4096 → {v : ℕ} (p : Path n v) → steps p ≤ latches_entered p * 4097 + v
  steps_between few (start o) = omega arith
  steps_between few (step {k = k} {v = v} p c) =
      let before = steps_between few p in
      let lt = (sound.sources k v c).0 in
      ⊎_elim
      (λ (l : n.is_latch v ≡ true). rw l (omega (arith, before, lt, few)))
      (λ (l : n.is_latch v ≡ false). let less = sound.order k v c l in rw l (omega (arith, before, less)))
      (cases_Bool (n.is_latch v))

  -- a path that enters no latch has no more steps than there are nodes before its end
  steps_of_free : {v : ℕ} (p : Path n v) → enters_none p ≡ true → steps p ≤ v
  steps_of_free (start o) e = omega arith
  steps_of_free (step {k = k} {v = v} p c) e =
      let r = and_parts (not (n.is_latch v)) (enters_none p) e in
      let before = steps_of_free p r.1 in
      let less = sound.order k v c (not-true (n.is_latch v) r.0) in
      omega (arith, before, less)

  -- and a short path one more at most than there are nodes
  steps_of_short : {v : ℕ} (p : Path n v) → is_short p ≡ true → steps p ≤ n.size
  steps_of_short (start o) e = omega arith
  steps_of_short (step {k = k} {v = v} p c) e =
      let before = steps_of_free p e in
      let lt = (sound.sources k v c).0 in
      omega (arith, before, lt)

-- ---- how large figures are

module _ (n : Network) (first : ℕ → ℤ) (gain : ℕ → ℕ → ℤ) (sound : Sound n) (few : n.size ≤ 4096) (small_starts : (v : ℕ) → n.is_origin v ≡ true → Small (first v)) (small_gains : (k v : ℕ) → Connected n k v → Small (gain k v)) where
  -- a path that enters no more latches than there are has a figure of no more than 2 ^ 57
  few_below : {v : ℕ} (p : Path n v) → latches_entered p ≤ latch_count n → figure (adding first gain) p ≤ℤ pos 144115188075855872
  few_below {v} p enters =
      let small = path_small n first gain 4294967296 small_starts small_gains p in
      let lt = leads_below n sound p in
      let latches = count-most n.size n.is_latch in
      let taken = steps_between n sound few p in
      let count : steps p ≤ 16785408 = omega (arith, enters, latches, taken, lt, few) in
      omega (arith, ints, small.1, count)

  -- a figure above one that is the greatest of the paths of one step or more is that of a path without a step
  only_starts : (v : ℕ) (f : ℤ) → ((p : Path n v) → has_step p ≡ true → figure (adding first gain) p ≤ℤ f) → (p : Path n v) → f <ℤ figure (adding first gain) p → figure (adding first gain) p ≤ℤ pos 4294967296
  only_starts v f most (start o) above = (small_starts v o).1
  only_starts v f most (step p c) above = let below = most (step p c) refl in absurd (omega (arith, ints, below, above))

  -- so the greatest figure of the paths of one step or more is no more than 2 ^ 57: else a loop would gain
  pub greatest_below : (v : ℕ) (f : ℤ) → Greatest {n = n} {v = v} (adding first gain) has_step f → f ≤ℤ pos 144115188075855872
  greatest_below v f g =
      by_lt_z (pos 144115188075855872) f
      (λ over.
      let r = overtaken n first gain sound v (pos 144115188075855872) (λ p enters. few_below p enters) g.path (omega (arith, ints, g.reached, over)) f in
      let low = only_starts v f g.most r.0 r.2 in
      absurd (omega (arith, ints, low, r.2, over)))
      (λ under. omega (arith, ints, under))

  -- and the least of the short ones no less than its negative
  pub least_above : (v : ℕ) (f : ℤ) → Least {n = n} {v = v} (adding first gain) short_step f → neg_ℤ (pos 144115188075855872) ≤ℤ f
  least_above v f l =
      let small = path_small n first gain 4294967296 small_starts small_gains l.path in
      let short = and_parts (is_short l.path) (has_step l.path) l.picked in
      let count = steps_of_short n sound l.path short.0 in
      omega (arith, ints, small.0, l.reached, count, few)

-- ---- by how much a latch is late or early

-- the setup of a row that stands is within the limit of delays
setup_within : (c : Clock) (count v : ℕ) (x : Node) → RowStands c count v x → setup_of x ≤ 1048575
setup_within c count v Free h = omega arith
setup_within c count v (Input phase earliest latest) h = omega arith
setup_within c count v (Gate phase least greatest sources) h = omega arith
setup_within c count v (Latch phase least greatest setup hold source) h = h.1

-- and so is its hold
hold_within : (c : Clock) (count v : ℕ) (x : Node) → RowStands c count v x → hold_of x ≤ 1048575
hold_within c count v Free h = omega arith
hold_within c count v (Input phase earliest latest) h = omega arith
hold_within c count v (Gate phase least greatest sources) h = omega arith
hold_within c count v (Latch phase least greatest setup hold source) h = h.2

module _ (t : Table) (S : ℕ → Bool) (stands : Stands t) (v : ℕ) (lt : v < length t.nodes) (f : ℤ) where
  -- by how much a latch is late is a number of 64 bits
  pub lateness_fits : Greatest {n = network t.nodes} {v = v} (late t S) has_step f → late_bound t.clock (setup_of (row t.nodes v)) <ℤ f →
      saturate_signed w64 (f -ℤ late_bound t.clock (setup_of (row t.nodes v))) ≡ f -ℤ late_bound t.clock (setup_of (row t.nodes v))
  lateness_fits g after =
      let says = stands_says_latest t S stands in
      let below = greatest_below (network t.nodes) (late_start t) (late_gain t S) (stands_sound t stands) says.few says.small_starts says.small_gains v f g in
      let setup = setup_within t.clock (length t.nodes) v (row t.nodes v) (stands.rows v lt) in
      within_64 (f -ℤ late_bound t.clock (setup_of (row t.nodes v))) (omega (arith, ints, after)) (omega (arith, ints, below, setup))

  -- and so is by how much it is early
  pub earliness_fits : Least {n = network t.nodes} {v = v} (early t S) short_step f → f <ℤ early_bound (hold_of (row t.nodes v)) →
      saturate_signed w64 (early_bound (hold_of (row t.nodes v)) -ℤ f) ≡ early_bound (hold_of (row t.nodes v)) -ℤ f
  earliness_fits l before =
      let says = stands_says_earliest t S stands in
      let above = least_above (network t.nodes) (early_start t) (early_gain t S) (stands_sound t stands) says.few says.small_starts says.small_gains v f l in
      let hold = hold_within t.clock (length t.nodes) v (row t.nodes v) (stands.rows v lt) in
      within_64 (early_bound (hold_of (row t.nodes v)) -ℤ f) (omega (arith, ints, before)) (omega (arith, ints, above, hold))
