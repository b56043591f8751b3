-- What columns say: the windows of nodes, and which latches are late, early or without an end.
use Rattle.std.proofs.Common.{◌≡◌, ℕ, ◌<◌, Bool, true, false, cond, not, ◌&&◌, ◌||◌, length, ℤ, pos, ◌-ℤ◌, ◌<ℤ◌, int_lt, int_eq, nat_lt, refl, sym, ◌∙◌, Decides, arith}
use Rattle.std.proofs.lemmas.Int.{ints}
use Rattle.std.proofs.lemmas.Bool.{and_parts, and_from, not-true, true≢false, true_from_ne_false, ltb-true}
use Rattle.std.proofs.lemmas.Bool.Decides.{Decides-int_eq, Decides-like}
use Rattle.std.proofs.Math.Bool.{or-true, or-false, and-true}
use Rattle.closing.specs.Sets.{Flags}
use Rattle.design.specs.Table.{Table}
use Rattle.design.specs.Rows.{is_latch, phase_of}
use Rattle.paths.specs.Networks.{Network, Path, has_step, is_short}
use Rattle.paths.specs.Figures.{Measure, figure, Greatest, Least, Unbounded, every}
use Rattle.paths.specs.Sweeps.{leaving, arrives_short}
use Rattle.kinds.specs.declared.arrival.Arrival.{Arrival}
use Rattle.kinds.specs.declared.arrival.Arrival.TheVariants.{NoPath, At, NoEnd}
use Rattle.rings.specs.Found.{IsLatest, IsEarliest}
use Rattle.timing.specs.declared.windows.Window.{Window}
use Rattle.timing.specs.Connections.{row, network, early_opening, late_bound, early_bound}
use Rattle.timing.specs.Figures.{late, early}
use Rattle.timing.specs.Windows.{IsWindow, BeginsBy, IsLate, IsEarly, setup_of, hold_of}
use Rattle.timing.specs.Breaches.{Lowest, NoNode, EndlessLatch, LateBy, EarlyBy, short_step}
use Rattle.judging.specs.declared.verdict.Verdict.{Verdict}
use Rattle.judging.specs.declared.verdict.Verdict.TheVariants.{Pass, Gain, Late, Early}
use Rattle.judging.specs.Couplings.{SomeWithoutEnd}
use Rattle.judging.specs.Verdicts.{IsVerdict, IsGain}
use Rattle.worked.specs.Examples.{from_to}
use Rattle.worked.proofs.Lists.{every_below, some_below, none_at}
use Rattle.worked.proofs.Sweeping.{at_node, Columns, Found}

-- an arrival with a figure, and this figure
abbrev pub has_figure : Arrival → Bool
has_figure NoPath = false
has_figure (At f) = true
has_figure NoEnd = false

abbrev pub figure_of : Arrival → ℤ
figure_of NoPath = pos 0
figure_of (At f) = f
figure_of NoEnd = pos 0

-- an arrival without an end
abbrev pub is_endless : Arrival → Bool
is_endless NoPath = false
is_endless (At f) = false
is_endless NoEnd = true

-- an arrival after a bound; one without an end is after every bound
abbrev pub is_after : ℤ → Arrival → Bool
is_after bound NoPath = false
is_after bound (At f) = int_lt bound f
is_after bound NoEnd = true

-- an arrival before a bound
abbrev pub is_before : ℤ → Arrival → Bool
is_before bound NoPath = false
is_before bound (At f) = int_lt f bound
is_before bound NoEnd = false

-- a short path that arrives at a node that is no latch is any short path
short_arrives : {n : Network} {v : ℕ} → n.is_latch v ≡ false → (p : Path n v) → arrives_short p ≡ is_short p
short_arrives {n} {v} l p = rw (l, or-true (has_step p), and-true (is_short p)) refl

-- one that arrives at a latch has a step
short_enters : {n : Network} {v : ℕ} → n.is_latch v ≡ true → (p : Path n v) → arrives_short p ≡ short_step p
short_enters {n} {v} l p = rw (l, or-false (has_step p)) refl

-- a least figure is that of the paths that another test picks alike
least_alike : {n : Network} {v : ℕ} (m : Measure ℤ) (picks picks' : Path n v → Bool) (f : ℤ) → ((p : Path n v) → picks p ≡ picks' p) → Least {n = n} {v = v} m picks f → Least {n = n} {v = v} m picks' f
least_alike m picks picks' f alike h = record { path = h.path; picked = sym (alike h.path) ∙ h.picked; reached = h.reached; least = λ p e. h.least p (alike p ∙ e) }

-- a number less than another, as a test
lt_is : (x y : ℤ) → x <ℤ y → int_lt x y ≡ true
lt_is x y lt = true_from_ne_false (int_lt x y) (λ e. omega (arith, ints, e, lt))

module _ {n : Network} {v : ℕ} (m : Measure ℤ) (picks : Path n v → Bool) where
  -- an arrival with a figure says that this is the greatest
  greatest_of : (a : Arrival) → has_figure a ≡ true → IsLatest {n = n} {v = v} m picks a → Greatest {n = n} {v = v} m picks (figure_of a)
  greatest_of NoPath e h = absurd (true≢false (sym e))
  greatest_of (At f) e h = h
  greatest_of NoEnd e h = absurd (true≢false (sym e))

  -- or the least
  least_of : (a : Arrival) → has_figure a ≡ true → IsEarliest {n = n} {v = v} m picks a → Least {n = n} {v = v} m picks (figure_of a)
  least_of NoPath e h = absurd (true≢false (sym e))
  least_of (At f) e h = h
  least_of NoEnd e h = absurd (true≢false (sym e))

  -- a latest arrival is without an end where the figures are
  endless_decides : (a : Arrival) → IsLatest {n = n} {v = v} m picks a → Decides (is_endless a) (Unbounded {n = n} {v = v} m picks)
  endless_decides NoPath h = (λ e. absurd (true≢false (sym e)), λ none. let r = none (pos 0) in absurd (h r.0 r.1))
  endless_decides (At f) h = (λ e. absurd (true≢false (sym e)), λ none. let r = none f in let most = h.most r.0 r.1 in absurd (omega (arith, ints, most, r.2)))
  endless_decides NoEnd h = (λ e. h, λ none. refl)

  -- it is after a bound where a figure is
  after_decides : (bound : ℤ) (a : Arrival) → IsLatest {n = n} {v = v} m picks a → Decides (is_after bound a) ((p : Path n v) × (picks p ≡ true) × (bound <ℤ figure m p))
  after_decides bound NoPath h = (λ e. absurd (true≢false (sym e)), λ r. absurd (h r.0 r.1))
  after_decides bound (At f) h = (λ e. (h.path, h.picked, omega (arith, ints, e, h.reached)), λ r. let most = h.most r.0 r.1 in lt_is bound f (omega (arith, ints, most, r.2)))
  after_decides bound NoEnd h = (λ e. h bound, λ r. refl)

  -- and an earliest arrival is before a bound where a figure is
  before_decides : (bound : ℤ) (a : Arrival) → IsEarliest {n = n} {v = v} m picks a → Decides (is_before bound a) ((p : Path n v) × (picks p ≡ true) × (figure m p <ℤ bound))
  before_decides bound NoPath h = (λ e. absurd (true≢false (sym e)), λ r. absurd (h r.0 r.1))
  before_decides bound (At f) h = (λ e. (h.path, h.picked, omega (arith, ints, e, h.reached)), λ r. let least = h.least r.0 r.1 in lt_is f bound (omega (arith, ints, least, r.2)))
  before_decides bound NoEnd h = absurd h

-- a test and another decide together what the first has told and the second decides then
Decides-both : {P : Type 0} (b c : Bool) → (b ≡ true → Decides c P) → Decides (b && c) ((b ≡ true) × P)
Decides-both true c d = let r = d refl in (λ e. (refl, r.0 e), λ h. r.1 h.1)
Decides-both false c d = (λ e. absurd (true≢false (sym e)), λ h. absurd (true≢false (sym h.0)))

-- a test of the nodes of a table that decides of each whether something holds of it
abbrev Tells : Table → (ℕ → Bool) → (ℕ → Type 0) → Type 0
Tells t test holds = (v : ℕ) → v < length t.nodes → Decides (test v) (holds v)

module _ (t : Table) (test : ℕ → Bool) (holds : ℕ → Type 0) (tells : Tells t test holds) where
  -- none passes
  no_node : not (some_below test (length t.nodes)) ≡ true → NoNode t holds
  no_node e v lt h = none_at test (length t.nodes) v (not-true (some_below test (length t.nodes)) e) lt ((tells v lt).1 h)

  -- a node that passes, where none below it does
  lowest : (v : ℕ) → (nat_lt v (length t.nodes) && test v && not (some_below test v)) ≡ true → Lowest t holds v
  lowest v e =
      let a = and_parts (nat_lt v (length t.nodes) && test v) (not (some_below test v)) e in
      let b = and_parts (nat_lt v (length t.nodes)) (test v) a.0 in
      let lt : v < length t.nodes = ltb-true v (length t.nodes) b.0 in
      (lt, (tells v lt).0 b.1, λ u below h. none_at test v u (not-true (some_below test v) a.1) below ((tells u (omega (arith, below, lt))).1 h))

-- ---- tests of columns

module _ (t : Table) (x : Columns) where
  -- what a node is left with
  abbrev left_at : ℕ → Arrival
  left_at v = leaving (network t.nodes) (at_node x.starts) (at_node x.latest) v

  -- a node whose window can be told
  abbrev pub has_window : ℕ → Bool
  has_window v = has_figure (left_at v) && (is_latch (row t.nodes v) || has_figure (at_node x.earliest v))

  -- that of every node can
  abbrev pub all_end : Bool
  all_end = every_below has_window (length t.nodes)

  -- the window of a node
  abbrev pub window_of : ℕ → Window
  window_of v = from_to (cond (is_latch (row t.nodes v)) (early_opening t.clock (phase_of (row t.nodes v))) (figure_of (at_node x.earliest v))) (figure_of (left_at v))

  -- a latch without an end
  abbrev endless_at : ℕ → Bool
  endless_at v = is_latch (row t.nodes v) && is_endless (left_at v)

  -- a late latch, and by how much it is late
  abbrev late_at : ℕ → Bool
  late_at v = is_latch (row t.nodes v) && is_after (late_bound t.clock (setup_of (row t.nodes v))) (at_node x.latest v)

  abbrev late_by : ℕ → ℤ
  late_by v = figure_of (at_node x.latest v) -ℤ late_bound t.clock (setup_of (row t.nodes v))

  -- an early latch, and by how much it is early
  abbrev early_at : ℕ → Bool
  early_at v = is_latch (row t.nodes v) && is_before (early_bound (hold_of (row t.nodes v))) (at_node x.earliest v)

  abbrev early_by : ℕ → ℤ
  early_by v = early_bound (hold_of (row t.nodes v)) -ℤ figure_of (at_node x.earliest v)

  -- the lowest node that passes a test
  abbrev is_lowest : (ℕ → Bool) → ℕ → Bool
  is_lowest test v = nat_lt v (length t.nodes) && test v && not (some_below test v)

  -- the verdict where all windows have an end
  abbrev pub is_verdict : Verdict → Bool
  is_verdict Pass = not (some_below late_at (length t.nodes)) && not (some_below early_at (length t.nodes))
  is_verdict (Gain latch) = false
  is_verdict (Late latch excess) = is_lowest late_at latch && (has_figure (at_node x.latest latch) && int_eq excess (late_by latch))
  is_verdict (Early latch excess) = not (some_below late_at (length t.nodes)) && (is_lowest early_at latch && (has_figure (at_node x.earliest latch) && int_eq excess (early_by latch)))

  -- and where one has none
  abbrev pub is_gain : Verdict → Bool
  is_gain Pass = false
  is_gain (Gain latch) = is_lowest endless_at latch
  is_gain (Late latch excess) = false
  is_gain (Early latch excess) = false

-- ---- what the tests tell where the columns are right

module _ (t : Table) (S : Flags) (x : Columns) (found : Found t S x) where
  -- where a window begins
  begins_by : (v : ℕ) → v < length t.nodes → (b : Bool) → is_latch (row t.nodes v) ≡ b → (b || has_figure (at_node x.earliest v)) ≡ true → BeginsBy b t S v (cond b (early_opening t.clock (phase_of (row t.nodes v))) (figure_of (at_node x.earliest v)))
  begins_by v lt true l e = refl
  begins_by v lt false l e =
      least_alike (early t S) arrives_short is_short (figure_of (at_node x.earliest v)) (short_arrives {n = network t.nodes} {v = v} l)
      (least_of {n = network t.nodes} {v = v} (early t S) arrives_short (at_node x.earliest v) e (found.earliest v lt))

  -- the window that columns tell is that of the node
  pub window_right : (v : ℕ) → v < length t.nodes → has_window t x v ≡ true → IsWindow t S v (window_of t x v)
  window_right v lt e =
      let parts = and_parts (has_figure (left_at t x v)) (is_latch (row t.nodes v) || has_figure (at_node x.earliest v)) e in
      record {
        begins = begins_by v lt (is_latch (row t.nodes v)) refl parts.1;
        ends = greatest_of {n = network t.nodes} {v = v} (late t S) every (left_at t x v) parts.0 (found.latest.nodes v lt);
      }

  -- latches without an end
  endless_told : Tells t (endless_at t x) (EndlessLatch t S)
  endless_told v lt =
      Decides-both (is_latch (row t.nodes v)) (is_endless (left_at t x v)) (λ l. endless_decides {n = network t.nodes} {v = v} (late t S) every (left_at t x v) (found.latest.nodes v lt))

  -- late latches
  late_told : Tells t (late_at t x) (IsLate t S)
  late_told v lt =
      Decides-both (is_latch (row t.nodes v)) (is_after (late_bound t.clock (setup_of (row t.nodes v))) (at_node x.latest v))
      (λ l. after_decides {n = network t.nodes} {v = v} (late t S) has_step (late_bound t.clock (setup_of (row t.nodes v))) (at_node x.latest v) (found.latest.arrivals v lt l))

  -- early latches
  early_told : Tells t (early_at t x) (IsEarly t S)
  early_told v lt =
      Decides-both (is_latch (row t.nodes v)) (is_before (early_bound (hold_of (row t.nodes v))) (at_node x.earliest v))
      (λ l.
      let alike = short_enters {n = network t.nodes} {v = v} l in
      Decides-like (is_before (early_bound (hold_of (row t.nodes v))) (at_node x.earliest v))
      (λ r. let parts = and_parts (is_short r.0) (has_step r.0) (sym (alike r.0) ∙ r.1) in (r.0, parts.0, parts.1, r.2))
      (λ r. (r.0, alike r.0 ∙ and_from (is_short r.0) (has_step r.0) r.1 r.2, r.3))
      (before_decides {n = network t.nodes} {v = v} (early t S) arrives_short (early_bound (hold_of (row t.nodes v))) (at_node x.earliest v) (found.earliest v lt)))

  -- by how much a latch is late
  lateness : (v : ℕ) (excess : ℤ) → v < length t.nodes → is_latch (row t.nodes v) ≡ true → (has_figure (at_node x.latest v) && int_eq excess (late_by t x v)) ≡ true → LateBy t S v excess
  lateness v excess lt l e =
      let parts = and_parts (has_figure (at_node x.latest v)) (int_eq excess (late_by t x v)) e in
      (figure_of (at_node x.latest v), greatest_of {n = network t.nodes} {v = v} (late t S) has_step (at_node x.latest v) parts.0 (found.latest.arrivals v lt l), (Decides-int_eq excess (late_by t x v)).0 parts.1)

  -- by how much one is early
  earliness : (v : ℕ) (excess : ℤ) → v < length t.nodes → is_latch (row t.nodes v) ≡ true → (has_figure (at_node x.earliest v) && int_eq excess (early_by t x v)) ≡ true → EarlyBy t S v excess
  earliness v excess lt l e =
      let parts = and_parts (has_figure (at_node x.earliest v)) (int_eq excess (early_by t x v)) e in (
        figure_of (at_node x.earliest v),
        least_alike (early t S) arrives_short short_step (figure_of (at_node x.earliest v)) (short_enters {n = network t.nodes} {v = v} l)
            (least_of {n = network t.nodes} {v = v} (early t S) arrives_short (at_node x.earliest v) parts.0 (found.earliest v lt)),
        (Decides-int_eq excess (early_by t x v)).0 parts.1,
      )

  -- the verdict that columns tell
  pub verdict_right : (verdict : Verdict) → is_verdict t x verdict ≡ true → IsVerdict t S verdict
  verdict_right Pass e =
      let parts = and_parts (not (some_below (late_at t x) (length t.nodes))) (not (some_below (early_at t x) (length t.nodes))) e in
      (no_node t (late_at t x) (IsLate t S) late_told parts.0, no_node t (early_at t x) (IsEarly t S) early_told parts.1)
  verdict_right (Gain latch) e = absurd (true≢false (sym e))
  verdict_right (Late latch excess) e =
      let parts = and_parts (is_lowest t x (late_at t x) latch) (has_figure (at_node x.latest latch) && int_eq excess (late_by t x latch)) e in
      let low = lowest t (late_at t x) (IsLate t S) late_told latch parts.0 in
      (low, lateness latch excess low.0 low.1.0 parts.1)
  verdict_right (Early latch excess) e =
      let parts = and_parts (not (some_below (late_at t x) (length t.nodes))) (is_lowest t x (early_at t x) latch && (has_figure (at_node x.earliest latch) && int_eq excess (early_by t x latch))) e in
      let rest = and_parts (is_lowest t x (early_at t x) latch) (has_figure (at_node x.earliest latch) && int_eq excess (early_by t x latch)) parts.1 in
      let low = lowest t (early_at t x) (IsEarly t S) early_told latch rest.0 in
      (no_node t (late_at t x) (IsLate t S) late_told parts.0, low, earliness latch excess low.0 low.1.0 rest.1)

  -- and that where a window has no end
  pub gain_right : (verdict : Verdict) → is_gain t x verdict ≡ true → IsGain t S verdict × SomeWithoutEnd t S
  gain_right Pass e = absurd (true≢false (sym e))
  gain_right (Gain latch) e = let low = lowest t (endless_at t x) (EndlessLatch t S) endless_told latch e in (low, (latch, low.0, low.1.1))
  gain_right (Late latch excess) e = absurd (true≢false (sym e))
  gain_right (Early latch excess) e = absurd (true≢false (sym e))
