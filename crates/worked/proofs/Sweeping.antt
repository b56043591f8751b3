-- Sweeps over a table worked out as lists, and that they have found what they are to find.
use Rattle.std.proofs.Common.{◌≡◌, ℕ, zero, suc, ◌<◌, ◌+◌, Bool, true, false, ◌&&◌, List, [], ◌∷◌, ◌++◌, length, get_or, ℤ, int_eq, refl, sym, ap}
use Rattle.std.proofs.lemmas.Bool.{and_parts, and_from, true≢false, false_from_ne_true}
use Rattle.std.proofs.lemmas.Bool.Decides.{Decides-int_eq}
use Rattle.closing.specs.Sets.{Flags}
use Rattle.design.specs.Table.{Table}
use Rattle.design.specs.Rows.{is_latch}
use Rattle.design.specs.SoFar.{Stands}
use Rattle.paths.specs.Networks.{Network, Sound, latch_count}
use Rattle.paths.specs.Kinds.{Kind}
use Rattle.paths.specs.Sweeps.{Course, arrival, Swept, arrives_short}
use Rattle.kinds.specs.declared.arrival.Arrival.{Arrival}
use Rattle.kinds.specs.declared.arrival.Arrival.TheVariants.{NoPath, At, NoEnd}
use Rattle.kinds.specs.Arrivals.{latest_kind, latest_start, latest_between, latest_restarts, earliest_kind, earliest_start, earliest_between, is_later}
use Rattle.rings.specs.Settling.{next_start, Restarted, unswept, after_sweep, Settled}
use Rattle.rings.specs.Found.{LatestFound, IsEarliest}
use Rattle.rings.proofs.Latest.{latest_settles}
use Rattle.rings.proofs.Beginning.{opening_begins}
use Rattle.rings.proofs.Earliest.{earliest_settles}
use Rattle.timing.specs.Connections.{row, network}
use Rattle.timing.specs.Courses.{course_over}
use Rattle.timing.specs.Delays.{delays_under}
use Rattle.timing.specs.Figures.{late_start, late_gain, early_start, early_gain, early}
use Rattle.timing.proofs.Sound.{stands_sound, stands_says_latest, stands_says_earliest}
use Rattle.worked.proofs.Lists.{every_below, every_at, some_below, some_at, none_at, values, values_at}

-- two arrivals that are the same
abbrev same_arrival : Arrival → Arrival → Bool
same_arrival NoPath NoPath = true
same_arrival NoPath (At y) = false
same_arrival NoPath NoEnd = false
same_arrival (At x) NoPath = false
same_arrival (At x) (At y) = int_eq x y
same_arrival (At x) NoEnd = false
same_arrival NoEnd NoPath = false
same_arrival NoEnd (At y) = false
same_arrival NoEnd NoEnd = true

-- are equal
arrivals_equal : (a b : Arrival) → same_arrival a b ≡ true → a ≡ b
arrivals_equal NoPath NoPath e = refl
arrivals_equal NoPath (At y) e = absurd (true≢false (sym e))
arrivals_equal NoPath NoEnd e = absurd (true≢false (sym e))
arrivals_equal (At x) NoPath e = absurd (true≢false (sym e))
arrivals_equal (At x) (At y) e = ap At ((Decides-int_eq x y).0 e)
arrivals_equal (At x) NoEnd e = absurd (true≢false (sym e))
arrivals_equal NoEnd NoPath e = absurd (true≢false (sym e))
arrivals_equal NoEnd (At y) e = absurd (true≢false (sym e))
arrivals_equal NoEnd NoEnd e = refl

-- the arrival at a node in a column
abbrev pub at_node : List Arrival → ℕ → Arrival
at_node column v = get_or column v NoPath

module _ (kind : Kind Arrival ℤ) (n : Network) (course : Course Arrival ℤ) (starts : ℕ → Arrival) where
  -- what comes to the first nodes, in their order; right for every node but latches, whose sources may stand behind them
  abbrev filled_first : ℕ → List Arrival
  filled_first zero = []
  filled_first (suc v) = let before = filled_first v in before ++ arrival kind n course starts (at_node before) v ∷ []

  -- the column that a sweep fills
  abbrev filled : List Arrival
  filled = let first = filled_first n.size in values (arrival kind n course starts (at_node first)) n.size

  -- a column in which each arrival is what comes to its node
  abbrev is_swept : List Arrival → Bool
  is_swept column = every_below (λ v. same_arrival (at_node column v) (arrival kind n course starts (at_node column) v)) n.size

  -- is swept
  swept : (column : List Arrival) → is_swept column ≡ true → Swept kind n course starts (at_node column)
  swept column e v lt = arrivals_equal (at_node column v) (arrival kind n course starts (at_node column) v) (every_at (λ u. same_arrival (at_node column u) (arrival kind n course starts (at_node column) u)) n.size v e lt)

module _ (t : Table) (S : Flags) where
  -- how the latest kind sees a table under a set of couplings
  abbrev latest_course : Course Arrival ℤ
  latest_course = course_over latest_start latest_between t.clock t.nodes (delays_under t.nodes t.couplings S)

  -- and the earliest
  abbrev earliest_course : Course Arrival ℤ
  earliest_course = course_over earliest_start earliest_between t.clock t.nodes (delays_under t.nodes t.couplings S)

  -- a latch that climbs
  abbrev climbs_at : List Arrival → List Arrival → ℕ → Bool
  climbs_at starts column v = is_latch (row t.nodes v) && is_later (at_node starts v) (at_node column v)

  -- what the nodes start from after one more sweep
  abbrev next_starts : ℕ → List Arrival → List Arrival → List Arrival
  next_starts made starts column = values (λ v. next_start latest_restarts (latch_count (network t.nodes)) made (at_node starts v) (at_node column v)) (length t.nodes)

  -- Sweeps of the latest kind, made until no latch climbs, and what is tested of their starts and their column. No if a sweep went wrong, or they are too many.
  abbrev settles : (fuel made : ℕ) → List Arrival → (List Arrival → List Arrival → Bool) → Bool
  settles zero made starts test = false
  settles (suc fuel) made starts test =
      let column = filled latest_kind (network t.nodes) latest_course (at_node starts) in
      is_swept latest_kind (network t.nodes) latest_course (at_node starts) column
      && elim (some_below (climbs_at starts column) (length t.nodes)) [ true ↦ settles fuel (suc made) (next_starts made starts column) test | false ↦ test starts column ]

  -- sweeps of the latest kind that settled, of whose starts and column a test holds
  abbrev pub Settling : (List Arrival → List Arrival → Bool) → Type 0
  Settling test =
      (made : ℕ) × (starts : List Arrival) × (column : List Arrival)
      × Settled latest_kind (network t.nodes) latest_course latest_restarts (latch_count (network t.nodes)) (λ v. At (late_start t v)) made (at_node starts) (at_node column)
      × (test starts column ≡ true)

  module _ (sound : Sound (network t.nodes)) where
    -- a latch is a node
    latch_below : (v : ℕ) → is_latch (row t.nodes v) ≡ true → v < length t.nodes
    latch_below v l = sound.origins v (sound.latches v l)

    -- a column is the last where no latch climbs, and else sweeps go on
    goes_on : (made : ℕ) (starts column : List Arrival) (test : List Arrival → List Arrival → Bool) (b more : Bool) →
        Restarted latest_kind (network t.nodes) latest_course latest_restarts (latch_count (network t.nodes)) (λ v. At (late_start t v)) made (at_node starts) →
        Swept latest_kind (network t.nodes) latest_course (at_node starts) (at_node column) →
        some_below (climbs_at starts column) (length t.nodes) ≡ b →
        (more ≡ true → Restarted latest_kind (network t.nodes) latest_course latest_restarts (latch_count (network t.nodes)) (λ v. At (late_start t v)) (suc made) (at_node (next_starts made starts column)) → Settling test) →
        elim b [ true ↦ more | false ↦ test starts column ] ≡ true → Settling test
    goes_on made starts column test true more restarted swept climbs further e =
        let w = some_at (climbs_at starts column) (length t.nodes) climbs in
        let both = and_parts (is_latch (row t.nodes w.0)) (is_later (at_node starts w.0) (at_node column w.0)) w.2 in
        further e
        (after_sweep (at_node column) (at_node (next_starts made starts column)) restarted swept w.0 both.0 both.1
        (λ v l. values_at (λ u. next_start latest_restarts (latch_count (network t.nodes)) made (at_node starts u) (at_node column u)) (length t.nodes) v NoPath (latch_below v l)))
    goes_on made starts column test false more restarted swept rests further e = (
      made,
      starts,
      column,
      record {
        restarted = restarted;
        swept = swept;
        still = λ v l. false_from_ne_true (is_later (at_node starts v) (at_node column v)) (λ c. none_at (climbs_at starts column) (length t.nodes) v rests (latch_below v l) (and_from (is_latch (row t.nodes v)) (is_later (at_node starts v) (at_node column v)) l c));
      },
      e,
    )

    -- sweeps that pass have settled
    settled : (fuel made : ℕ) (starts : List Arrival) (test : List Arrival → List Arrival → Bool) →
        Restarted latest_kind (network t.nodes) latest_course latest_restarts (latch_count (network t.nodes)) (λ v. At (late_start t v)) made (at_node starts) →
        settles fuel made starts test ≡ true → Settling test
    settled zero made starts test restarted e = absurd (true≢false (sym e))
    settled (suc fuel) made starts test restarted e =
        let column : List Arrival = filled latest_kind (network t.nodes) latest_course (at_node starts) in
        let climbs : Bool = some_below (climbs_at starts column) (length t.nodes) in
        let more : Bool = settles fuel (suc made) (next_starts made starts column) test in
        let parts = and_parts (is_swept latest_kind (network t.nodes) latest_course (at_node starts) column) (elim climbs [ true ↦ more | false ↦ test starts column ]) e in
        goes_on made starts column test climbs more restarted
        (swept latest_kind (network t.nodes) latest_course (at_node starts) column parts.0)
        refl (λ m r. settled fuel (suc made) (next_starts made starts column) test r m) parts.1

-- what sweeps over a table find: what the nodes start from at last, the latest arrivals, and the earliest
pub record Columns : Type 0 where
  pub starts : List Arrival
  pub latest : List Arrival
  pub earliest : List Arrival

-- columns that say what is so of the paths in a table under a set of couplings
pub record Found (t : Table) (S : Flags) (x : Columns) : Type 0 where
  pub latest : LatestFound (network t.nodes) (late_start t) (late_gain t S) (at_node x.starts) (at_node x.latest)
  pub earliest : (v : ℕ) → v < length t.nodes → IsEarliest {n = network t.nodes} {v = v} (early t S) arrives_short (at_node x.earliest v)

module _ (t : Table) (S : Flags) where
  -- the nodes start as paths do
  abbrev first_starts : List Arrival
  first_starts = values (λ v. At (late_start t v)) (length t.nodes)

  -- the earliest arrivals, tested with what the sweeps of the latest kind found
  abbrev with_earliest : (Columns → Bool) → List Arrival → List Arrival → Bool
  with_earliest test starts latest =
      let earliest = filled earliest_kind (network t.nodes) (earliest_course t S) (λ v. At (early_start t v)) in
      is_swept earliest_kind (network t.nodes) (earliest_course t S) (λ v. At (early_start t v)) earliest
      && test (record { starts = starts; latest = latest; earliest = earliest })

  -- A test of the columns of a table under a set of couplings. Two sweeps for each node and one more are enough.
  abbrev pub of_columns : (Columns → Bool) → Bool
  of_columns test = settles t S (length t.nodes + length t.nodes + 1) 0 first_starts (with_earliest test)

  -- a test that holds of them holds of columns that say what is so
  pub columns_found : (test : Columns → Bool) → Stands t → of_columns test ≡ true → (x : Columns) × Found t S x × (test x ≡ true)
  columns_found test stands e =
      let sound = stands_sound t stands in
      let says = stands_says_latest t S stands in
      let s = settled t S sound (length t.nodes + length t.nodes + 1) 0 first_starts (with_earliest test) (unswept (λ v l. values_at (λ u. At (late_start t u)) (length t.nodes) v NoPath (latch_below t S sound v l))) e in
      let earliest : List Arrival = filled earliest_kind (network t.nodes) (earliest_course t S) (λ v. At (early_start t v)) in
      let x : Columns = record { starts = s.1; latest = s.2; earliest = earliest } in
      let parts = and_parts (is_swept earliest_kind (network t.nodes) (earliest_course t S) (λ v. At (early_start t v)) earliest) (test x) s.4 in (
        x,
        record {
          latest = latest_settles (network t.nodes) (latest_course t S) (late_start t) (late_gain t S) (λ v. At (late_start t v)) s.0 (at_node s.1) (at_node s.2) sound says
              (opening_begins (network t.nodes) (latest_course t S) (late_start t) (late_gain t S) sound says) s.3;
          earliest = earliest_settles (network t.nodes) (earliest_course t S) (early_start t) (early_gain t S) 0 0 (λ v. At (early_start t v)) (at_node earliest) sound (stands_says_earliest t S stands)
              (record { restarted = unswept (λ v l. refl); swept = swept earliest_kind (network t.nodes) (earliest_course t S) (λ v. At (early_start t v)) earliest parts.0; still = λ v l. refl });
        },
        parts.1,
      )
