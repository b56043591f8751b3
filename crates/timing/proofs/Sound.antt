-- The network of a table that stands is sound, and late and early figures are small, so that the course of each kind says them exactly.
use Rattle.std.proofs.Common.{◌≡◌, ℕ, suc, ◌+◌, ◌-◌, ◌*◌, ◌<◌, ◌≤◌, Bool, true, false, cond, not, ◌&&◌, ◌||◌, ◌==◌, nat_lt, ◌⊎◌, inl, inr, List, [], ◌∷◌, length, take, get_or, ℤ, pos, neg_ℤ, ◌+ℤ◌, ◌-ℤ◌, ◌≤ℤ◌, refl, sym, arith, Some, None}
use Rattle.std.specs.Int.{saturate_signed, w64}
use Rattle.kinds.specs.Laws.{within_64}
use Rattle.std.specs.List.{list_all}
use Rattle.std.proofs.lemmas.Int.{ints}
use Rattle.std.proofs.lemmas.Bool.{true≢false}
use Rattle.std.proofs.lemmas.Bool.Decides.{nat_tests}
use Rattle.std.proofs.lemmas.List.{get_or_past, get_or-take, length-take-le}
use Rattle.std.proofs.lemmas.List.Sums.{AllPass-from_list_all}
use Rattle.schedule.specs.Clock.{Clock, lawful, has_phase, start_fits, width_fits, in_use, start, forward, opening}
use Rattle.schedule.proofs.Lawful.{places_bounds}
use Rattle.design.specs.declared.nodes.Node.{Node}
use Rattle.design.specs.declared.nodes.Node.TheVariants.{Free, Input, Gate, Latch}
use Rattle.design.specs.declared.couplings.Coupling.{Coupling}
use Rattle.design.specs.Rows.{is_latch, no_coupling, least_delay, assisting_of, sources_in, phase_of}
use Rattle.design.specs.Table.{Table}
use Rattle.design.specs.SoFar.{RowStands, Stands}
use Rattle.paths.specs.Networks.{IsIn, Connected, Sound}
use Rattle.kinds.specs.Arrivals.{latest_start, latest_between, earliest_start, earliest_between}
use Rattle.rings.specs.Found.{Small, Says}
use Rattle.timing.specs.Connections.{row, fed_from, starts_paths, network, forward_or_zero, shift_between, late_opening, start_at}
use Rattle.timing.specs.Delays.{chosen_from, opposing_of, own_greatest, delays_under}
use Rattle.timing.specs.Courses.{course_over}
use Rattle.timing.specs.Figures.{late_gain, late_start, early_gain, early_start}

-- a place of a list that is there, or reads as its default
there_or : {X : Type 0} (xs : List X) (v : ℕ) (d : X) → (v < length xs) ⊎ (get_or xs v d ≡ d)
there_or xs v d = grind (arith, get_or_past)

-- a row at which a path may start is there
starting_there : (xs : List Node) (v : ℕ) → starts_paths (row xs v) ≡ true → v < length xs
starting_there xs v h = elim (there_or xs v Free) [ inl lt ↦ lt | inr e ↦ absurd (true≢false (rw e at (sym h))) ]

-- a row that is connected from others is there
fed_there : (xs : List Node) (k v : ℕ) → IsIn k (fed_from (row xs v)) → v < length xs
fed_there xs k v c = elim (there_or xs v Free) [ inl lt ↦ lt | inr e ↦ absurd (rw e at c) ]

-- what is in a list whose numbers are below a bound is below it
below : (k bound : ℕ) (xs : List ℕ) → ((i : ℕ) → i < length xs → get_or xs i 0 < bound) → IsIn k xs → k < bound
below k bound [] lower c = absurd c
below k bound (x ∷ xs) lower (inl e) = omega (arith, e, lower 0 (omega arith))
below k bound (x ∷ xs) lower (inr c) = below k bound xs (λ i lt. lower (suc i) (omega arith)) c

-- a row is connected from nodes that are there
fed_below : (c : Clock) (count k v : ℕ) (x : Node) → RowStands c count v x → v < count → IsIn k (fed_from x) → k < count
fed_below c count k v Free h lt i = absurd i
fed_below c count k v (Input phase earliest latest) h lt i = absurd i
fed_below c count k v (Gate phase least greatest sources) h lt i = let first = below k v (sources_in sources) h.3 i in omega arith
fed_below c count k v (Latch phase least greatest setup hold None) h lt i = absurd i
fed_below c count k v (Latch phase least greatest setup hold (Some source)) h lt (inl e) = omega (arith, e, h.3)
fed_below c count k v (Latch phase least greatest setup hold (Some source)) h lt (inr i) = absurd i

-- and one that holds no latch from nodes that stand before it
fed_before : (c : Clock) (count k v : ℕ) (x : Node) → RowStands c count v x → is_latch x ≡ false → IsIn k (fed_from x) → k < v
fed_before c count k v Free h other i = absurd i
fed_before c count k v (Input phase earliest latest) h other i = absurd i
fed_before c count k v (Gate phase least greatest sources) h other i = below k v (sources_in sources) h.3 i
fed_before c count k v (Latch phase least greatest setup hold source) h other i = absurd (true≢false other)

-- paths may start at a latch
latch_starts : (x : Node) → is_latch x ≡ true → starts_paths x ≡ true
latch_starts Free h = h
latch_starts (Input phase earliest latest) h = refl
latch_starts (Gate phase least greatest sources) h = h
latch_starts (Latch phase least greatest setup hold source) h = refl

-- an input is connected from no node
input_unfed : (x : Node) → starts_paths x ≡ true → is_latch x ≡ false → fed_from x ≡ []
input_unfed Free h other = refl
input_unfed (Input phase earliest latest) h other = refl
input_unfed (Gate phase least greatest sources) h other = absurd (true≢false (sym h))
input_unfed (Latch phase least greatest setup hold source) h other = absurd (true≢false other)

-- the network of a table that stands is sound
pub stands_sound : (t : Table) → Stands t → Sound (network t.nodes)
stands_sound t h =
    record {
      origins = starting_there t.nodes;
      sources = λ k v c. let lt = fed_there t.nodes k v c in (fed_below t.clock (length t.nodes) k v (row t.nodes v) (h.rows v lt) lt c, lt);
      latches = λ v. latch_starts (row t.nodes v);
      inputs = λ v. input_unfed (row t.nodes v);
      order = λ k v c other. fed_before t.clock (length t.nodes) k v (row t.nodes v) (h.rows v (fed_there t.nodes k v c)) other c;
    }

-- an entry in use passes the test that all entries in use pass
used_passes : (p : ℕ → Bool) (n : ℕ) (xs : List ℕ) (k : ℕ) → n ≤ length xs → k < n → list_all p (take n xs) ≡ true → p (get_or xs k 0) ≡ true
used_passes p n xs k long lt all = rw (get_or-take n xs k 0 lt) at (AllPass-from_list_all p (take n xs) all k 0 (omega (arith, length-take-le n xs long)))

-- the period of a lawful clock is no more than the longest period
period_small : (c : Clock) → lawful c ≡ true → c.period ≤ 16777215
period_small c law = grind (arith, nat_tests)

-- nor is the start of a phase that a lawful clock has
start_small : (c : Clock) (i : ℕ) → lawful c ≡ true → has_phase c i ≡ true → get_or c.starts (i - 1) 0 ≤ 16777215
start_small c i law has =
    let long = (places_bounds c law).0 in
    let all : list_all (start_fits c) (in_use c c.starts) ≡ true = grind (arith, nat_tests) in
    let here : i - 1 < c.phases = grind (arith, nat_tests) in
    let fits = used_passes (start_fits c) c.phases c.starts (i - 1) long here all in
    let small = period_small c law in
    grind (arith, nat_tests)

-- nor is the width of one
width_small : (c : Clock) (i : ℕ) → lawful c ≡ true → has_phase c i ≡ true → get_or c.widths (i - 1) 0 ≤ 16777215
width_small c i law has =
    let long = (places_bounds c law).1 in
    let all : list_all (width_fits c) (in_use c c.widths) ≡ true = grind (arith, nat_tests) in
    let here : i - 1 < c.phases = grind (arith, nat_tests) in
    let fits = used_passes (width_fits c) c.phases c.widths (i - 1) long here all in
    let small = period_small c law in
    grind (arith, nat_tests)

-- a number of at most 2 ^ 26, above or below 0
abbrev Slight : ℤ → Type 0
Slight z = (neg_ℤ (pos 67108864) ≤ℤ z) × (z ≤ℤ pos 67108864)

-- the opening edge of a phase that the clock has is slight
opening_slight : (c : Clock) (i : ℕ) → lawful c ≡ true → has_phase c i ≡ true → Slight (opening c i)
opening_slight c i law has =
    let p = period_small c law in
    let w = width_small c i law has in
    (omega (arith, ints, p, w), omega (arith, ints, p, w))

-- one of two slight numbers is slight
either_slight : (b : Bool) (x y : ℤ) → (b ≡ true → Slight x) → Slight y → Slight (cond b x y)
either_slight true x y h i = h refl
either_slight false x y h i = i

-- 0 is slight
nothing_slight : Slight (pos 0)
nothing_slight = (omega (arith, ints), omega (arith, ints))

-- the forward shift between phases that the clock has is slight
forward_slight : (c : Clock) (i j : ℕ) → lawful c ≡ true → (has_phase c i && has_phase c j) ≡ true → Slight (forward c i j)
forward_slight c i j law both =
    let has_i : has_phase c i ≡ true = grind arith in
    let has_j : has_phase c j ≡ true = grind arith in
    let p = period_small c law in
    let a = start_small c i law has_i in
    let b = start_small c j law has_j in
    let from : start c i ≡ pos (get_or c.starts (i - 1) 0) = rw has_i refl in
    let to : start c j ≡ pos (get_or c.starts (j - 1) 0) = rw has_j refl in
    either_slight (nat_lt i j) (start c j -ℤ start c i) (pos c.period +ℤ start c j -ℤ start c i) (λ _. (omega (arith, ints, p, a, b, from, to), omega (arith, ints, p, a, b, from, to))) (omega (arith, ints, p, a, b, from, to), omega (arith, ints, p, a, b, from, to))

-- the shift of every connection is slight
shift_slight : (c : Clock) (x y : Node) → lawful c ≡ true → Slight (shift_between c x y)
shift_slight c x y law =
    let i : ℕ = phase_of x in
    let j : ℕ = phase_of y in
    let forwards : Slight (forward_or_zero c i j) = either_slight (has_phase c i && has_phase c j) (forward c i j) (pos 0) (forward_slight c i j law) nothing_slight in
    either_slight (is_latch y || not (i == j)) (forward_or_zero c i j) (pos 0) (λ _. forwards) nothing_slight

-- the times with which paths may start at a row are slight
start_slight : (c : Clock) (count k : ℕ) (x : Node) → lawful c ≡ true → RowStands c count k x → Slight (start_at c x).earliest × Slight (start_at c x).latest
start_slight c count k Free law h = (nothing_slight, nothing_slight)
start_slight c count k (Input phase earliest latest) law h = ((omega (arith, ints, h), omega (arith, ints, h)), (omega (arith, ints, h), omega (arith, ints, h)))
start_slight c count k (Gate phase least greatest sources) law h = (nothing_slight, nothing_slight)
start_slight c count k (Latch phase least greatest setup hold source) law h =
    let opens : Slight (late_opening c phase) = either_slight (has_phase c phase) (opening c phase) (pos 0) (opening_slight c phase law) nothing_slight in
    (opens, opens)

-- the least delay of a row that stands is within its limit
pub least_within : (c : Clock) (count k : ℕ) (x : Node) → RowStands c count k x → least_delay x ≤ 1048575
least_within c count k Free h = omega arith
least_within c count k (Input phase earliest latest) h = omega arith
least_within c count k (Gate phase least greatest sources) h = omega arith
least_within c count k (Latch phase least greatest setup hold source) h = omega arith

-- and so is the greatest
pub greatest_within : (c : Clock) (count k : ℕ) (x : Node) → RowStands c count k x → own_greatest x ≤ 1048575
greatest_within c count k Free h = omega arith
greatest_within c count k (Input phase earliest latest) h = omega arith
greatest_within c count k (Gate phase least greatest sources) h = omega arith
greatest_within c count k (Latch phase least greatest setup hold source) h = omega arith

-- a coupling whose amounts are within their limit
abbrev pub AmountsFit : Coupling → Type 0
AmountsFit k = (k.assisting ≤ 1048575) × (k.opposing ≤ 1048575)

-- a number or nothing is no more than the number
some_or_none : (b : Bool) (x bound : ℕ) → x ≤ bound → cond b x 0 ≤ bound
some_or_none true x bound le = le
some_or_none false x bound le = omega arith

-- one more coupling, taken into a list or not, adds no more than the limit to what opposes a victim
opposing_adds : (b : Bool) (k : Coupling) (xs : List Coupling) (v : ℕ) → AmountsFit k → opposing_of (cond b (k ∷ xs) xs) v ≤ 1048575 + opposing_of xs v
opposing_adds true k xs v fit = omega (arith, some_or_none (k.victim == v) k.opposing 1048575 fit.1)
opposing_adds false k xs v fit = omega arith

-- and to what assists it
assisting_adds : (b : Bool) (k : Coupling) (xs : List Coupling) (v : ℕ) → AmountsFit k → assisting_of (cond b (k ∷ xs) xs) v ≤ 1048575 + assisting_of xs v
assisting_adds true k xs v fit = omega (arith, some_or_none (k.victim == v) k.assisting 1048575 fit.0)
assisting_adds false k xs v fit = omega arith

-- what opposes a victim under a set of couplings is within the limit times the number of couplings
pub opposing_within : (S : ℕ → Bool) (i : ℕ) (ks : List Coupling) (v : ℕ) → ((j : ℕ) → j < length ks → AmountsFit (get_or ks j no_coupling)) → opposing_of (chosen_from S i ks) v ≤ length ks * 1048575
opposing_within S i [] v fit = omega arith
opposing_within S i (k ∷ ks) v fit =
    let rest = opposing_within S (suc i) ks v (λ j lt. fit (suc j) (omega arith)) in
    let here = opposing_adds (S i) k (chosen_from S (suc i) ks) v (fit 0 (omega arith)) in
    omega (arith, rest, here)

-- and so is what assists it
pub assisting_within : (S : ℕ → Bool) (i : ℕ) (ks : List Coupling) (v : ℕ) → ((j : ℕ) → j < length ks → AmountsFit (get_or ks j no_coupling)) → assisting_of (chosen_from S i ks) v ≤ length ks * 1048575
assisting_within S i [] v fit = omega arith
assisting_within S i (k ∷ ks) v fit =
    let rest = assisting_within S (suc i) ks v (λ j lt. fit (suc j) (omega arith)) in
    let here = assisting_adds (S i) k (chosen_from S (suc i) ks) v (fit 0 (omega arith)) in
    omega (arith, rest, here)

-- a small number is itself within 64 bits
small_exact : (z : ℤ) → Small z → saturate_signed w64 z ≡ z
small_exact z h = within_64 z (omega (arith, ints, h.0)) (omega (arith, ints, h.1))

-- in a table that stands every path starts with a small late and a small early figure
starts_small : (t : Table) → Stands t → (v : ℕ) → starts_paths (row t.nodes v) ≡ true → Small (early_start t v) × Small (late_start t v)
starts_small t h v origin =
    let slight = start_slight t.clock (length t.nodes) v (row t.nodes v) h.held.0 (h.rows v (starting_there t.nodes v origin)) in (
      (omega (arith, ints, slight.0.0), omega (arith, ints, slight.0.1)),
      (omega (arith, ints, slight.1.0), omega (arith, ints, slight.1.1)),
    )

-- and every connection gains little, late and early, under every set of couplings
gains_small : (t : Table) (S : ℕ → Bool) → Stands t → (k v : ℕ) → Connected (network t.nodes) k v → Small (early_gain t S k v) × Small (late_gain t S k v)
gains_small t S h k v c =
    let at = (stands_sound t h).sources k v c in
    let standing = h.rows k at.0 in
    let fits : (i : ℕ) → i < length t.couplings → AmountsFit (get_or t.couplings i no_coupling) = λ i lt. let p = h.pairs i lt in (p.4, p.5) in
    let shift = shift_slight t.clock (row t.nodes k) (row t.nodes v) h.held.0 in
    let least = least_within t.clock (length t.nodes) k (row t.nodes k) standing in
    let greatest = greatest_within t.clock (length t.nodes) k (row t.nodes k) standing in
    let opposing = opposing_within S 0 t.couplings k fits in
    let assisting = assisting_within S 0 t.couplings k fits in
    let few = h.coupling_count in (
      (omega (arith, ints, shift.0, shift.1, least, assisting, few.0, few.1), omega (arith, ints, shift.0, shift.1, least, assisting, few.0, few.1)),
      (omega (arith, ints, shift.0, shift.1, greatest, opposing, few.0, few.1), omega (arith, ints, shift.0, shift.1, greatest, opposing, few.0, few.1)),
    )

-- the course of the latest kind over a table that stands says its late figures
pub stands_says_latest : (t : Table) (S : ℕ → Bool) → Stands t → Says (network t.nodes) (course_over latest_start latest_between t.clock t.nodes (delays_under t.nodes t.couplings S)) (late_start t) (late_gain t S)
stands_says_latest t S h =
    record {
      few = omega (arith, h.node_count.0, h.node_count.1);
      starts = λ v origin other. refl;
      steps = λ k v c. small_exact (late_gain t S k v) (gains_small t S h k v c).1;
      small_starts = λ v origin. (starts_small t h v origin).1;
      small_gains = λ k v c. (gains_small t S h k v c).1;
    }

-- and that of the earliest kind its early figures
pub stands_says_earliest : (t : Table) (S : ℕ → Bool) → Stands t → Says (network t.nodes) (course_over earliest_start earliest_between t.clock t.nodes (delays_under t.nodes t.couplings S)) (early_start t) (early_gain t S)
stands_says_earliest t S h =
    record {
      few = omega (arith, h.node_count.0, h.node_count.1);
      starts = λ v origin other. refl;
      steps = λ k v c. small_exact (early_gain t S k v) (gains_small t S h k v c).0;
      small_starts = λ v origin. (starts_small t h v origin).0;
      small_gains = λ k v c. (gains_small t S h k v c).0;
    }
