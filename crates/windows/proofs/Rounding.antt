-- What a round finds, from what is carried to it, and what is written from that.
use Rattle.std.proofs.Common.{◌≡◌, ℕ, ◌<◌, ◌≤◌, Bool, true, false, cond, List, length, ℤ, ◌+◌, Option, refl, sym, ap, ◌∙◌, ⊎_elim, arith}
use Rattle.std.proofs.lemmas.Bool.{cases_Bool}
use Rattle.design.specs.Rows.{is_latch}
use Rattle.design.specs.Table.{Table}
use Rattle.design.specs.SoFar.{Stands}
use Rattle.kinds.specs.declared.arrival.Arrival.{Arrival}
use Rattle.kinds.specs.declared.arrival.Arrival.TheVariants.{NoPath, At}
use Rattle.kinds.specs.declared.both.Arrivals.{Arrivals}
use Rattle.kinds.specs.Arrivals.{is_later, latest_kind, latest_start, latest_between, latest_restarts, earliest_kind, earliest_start, earliest_between, earliest_restarts}
use Rattle.kinds.specs.Both.{both_kind, both_start, both_between, both_restarts}
use Rattle.paths.specs.Kinds.{Kind, Restarts}
use Rattle.paths.specs.Networks.{Network, Sound}
use Rattle.paths.specs.Sweeps.{Course, Swept, leaving, arrives_short}
use Rattle.rings.specs.Found.{Says, LatestFound, IsEarliest}
use Rattle.rings.specs.InPlace.{comes, Visits, Rests, Near}
use Rattle.rings.proofs.Nearing.{near_visits, near_settled, near_found, rests_earliest}
use Rattle.rings.proofs.Together.{comes_both, visits_latest, rests_latest, rests_earliest_part, rests_both, latches_stay_both}
use Rattle.timing.specs.Breaches.{Lowest, EndlessLatch, NoNode}
use Rattle.timing.specs.Connections.{row, network}
use Rattle.timing.specs.Courses.{course_over}
use Rattle.timing.specs.Figures.{late_start, late_gain, early_start, early_gain, early}
use Rattle.timing.specs.declared.windows.Window.{Window}
use Rattle.timing.specs.Windows.{HasNoEnd, IsWindow}
use Rattle.timing.proofs.Sound.{stands_sound, stands_says_latest, stands_says_earliest}
use Rattle.windows.specs.declared.blocks.Blocks.{Blocks}
use Rattle.windows.specs.declared.carried.Carried.{Carried}
use Rattle.windows.specs.declared.checked.Breach.{Breach}
use Rattle.windows.specs.declared.checked.Checked.TheVariants.{Ended}
use Rattle.windows.specs.declared.circuit.Circuit.{Circuit}
use Rattle.windows.specs.declared.found.Ends.TheVariants.{All, NoneAt}
use Rattle.windows.specs.Answers.{WindowsFound}
use Rattle.windows.specs.Blocks.{block_of}
use Rattle.windows.specs.Breaches.{late_at, late_excess_at, early_at, early_excess_at, LowestBreach}
use Rattle.windows.specs.Carried.{Carries, CarriedEnds, carried_at}
use Rattle.windows.specs.Delays.{delays_at}
use Rattle.windows.specs.Found.{EndsBy, Shows, EarlyFound}
use Rattle.windows.specs.InPlace.{RestBut, NoneStale}
use Rattle.windows.specs.Lending.{IsCircuit}
use Rattle.windows.specs.Rings.{first_of}
use Rattle.windows.specs.Rounds.{FilledBy, WindowsSaid, LeftWith, AtRest, late_in, early_in, arriving}
use Rattle.windows.specs.Seen.{figure_at, network_of, course_of}
use Rattle.windows.specs.Written.{tick_of}
use Rattle.windows.proofs.Breaching.{late_said, early_said}
use Rattle.windows.proofs.Reading.{has_end, arrivals_found, ends_found, window_found}
use Rattle.windows.proofs.Sweeping.{same_arrival}

-- what stands where a test is met
pub cond_true : {F : Type 0} (b : Bool) (x y : F) → b ≡ true → cond b x y ≡ x
cond_true b x y e = rw e refl

-- and where it is not
pub cond_false : {F : Type 0} (b : Bool) (x y : F) → b ≡ false → cond b x y ≡ y
cond_false b x y e = rw e refl

module _ {F S : Type 0} (kind : Kind F S) (n : Network) (course : Course F S) (r : Restarts F) (leaves : ℕ → F) where
  -- where no block is stale, every node is at rest
  all_rest : (stale : Blocks) → RestBut kind n course r leaves stale → NoneStale stale → (v : ℕ) → v < n.size → Rests kind n course r leaves v
  all_rest stale rest none v lt = rest.rests v lt (none (block_of v))

  -- and is left with what it starts from, or with what comes to it
  left_at_rest : ((v : ℕ) → v < n.size → Rests kind n course r leaves v) → (v : ℕ) → v < n.size → leaves v ≡ leaving n leaves (comes kind n course leaves) v
  left_at_rest rests v lt =
      ⊎_elim
      (λ (l : n.is_latch v ≡ true). sym (cond_true (n.is_latch v) (leaves v) (comes kind n course leaves v) l))
      (λ (l : n.is_latch v ≡ false). (rests v lt).other l ∙ sym (cond_false (n.is_latch v) (leaves v) (comes kind n course leaves v) l))
      (cases_Bool (n.is_latch v))

  module _ (starts column : ℕ → F) (left : (v : ℕ) → v < n.size → leaves v ≡ leaving n starts column v) (sound : Sound n) (swept : Swept kind n course starts column) where
    -- what comes to a node where each is left as after a sweep is what the sweep found there
    comes_swept : (v : ℕ) → v < n.size → comes kind n course leaves v ≡ column v
    comes_swept v lt =
        same_arrival kind n course leaves starts leaves column v
        (λ k d.
        let same : leaves k ≡ leaving n starts column k = left k (sound.sources k v d).0 in
        ⊎_elim
        (λ (l : n.is_latch k ≡ true). rw l (rw l at same))
        (λ (l : n.is_latch k ≡ false). rw l (rw l at same))
        (cases_Bool (n.is_latch k)))
        ∙ sym (swept v lt)

    -- so after sweeps that hold still all nodes are at rest
    rests_left : ((v : ℕ) → n.is_latch v ≡ true → r.climbs (starts v) (column v) ≡ false) → (v : ℕ) → v < n.size → Rests kind n course r leaves v
    rests_left still v lt =
        let came = comes_swept v lt in
        record {
          latch = λ l.
              let here : leaves v ≡ starts v = rw l at (left v lt) in
              rw (here, came) (still v l);
          other = λ l.
              let here : leaves v ≡ column v = rw l at (left v lt) in
              here ∙ sym came;
        }

-- what sweeps have found holds of a column that is the same at the nodes
latest_same : (n : Network) (first : ℕ → ℤ) (gain : ℕ → ℕ → ℤ) (starts column column' : ℕ → Arrival) → Sound n → ((v : ℕ) → v < n.size → column' v ≡ column v) → LatestFound n first gain starts column → LatestFound n first gain starts column'
latest_same n first gain starts column column' sound same found =
    let left : (v : ℕ) → v < n.size → leaving n starts column' v ≡ leaving n starts column v = λ v lt. rw (same v lt) refl in
    record {
      nodes = λ v lt. rw (left v lt) (found.nodes v lt);
      arrivals = λ v lt l. rw (same v lt) (found.arrivals v lt l);
      led = λ v lt e. found.led v lt (sym (left v lt) ∙ e);
      near = found.near;
    }

module _ (t : Table) (S : ℕ → Bool) (c : Circuit) (stands : Stands t) (shows : Shows t S c) where
  -- late figures over a circuit that shows a table
  late_says : Says (network t.nodes) (course_over latest_start latest_between t.clock t.nodes (delays_at c.delays.now)) (late_start t) (late_gain t S)
  late_says =
      let says = stands_says_latest t S stands in
      let sound = stands_sound t stands in
      record {
        few = says.few;
        starts = says.starts;
        steps = λ k v d. let at = sound.sources k v d in rw (shows.delays k at.0) (says.steps k v d);
        small_starts = says.small_starts;
        small_gains = says.small_gains;
      }

  -- and early ones
  early_says : Says (network t.nodes) (course_over earliest_start earliest_between t.clock t.nodes (delays_at c.delays.now)) (early_start t) (early_gain t S)
  early_says =
      let says = stands_says_earliest t S stands in
      let sound = stands_sound t stands in
      record {
        few = says.few;
        starts = says.starts;
        steps = λ k v d. let at = sound.sources k v d in rw (shows.delays k at.0) (says.steps k v d);
        small_starts = says.small_starts;
        small_gains = says.small_gains;
      }

  -- figures that are visited come to rest near those of paths
  approached : (leaves leaves' : List Arrivals) (stale stale' : Blocks) → Near (network t.nodes) (late_start t) (late_gain t S) 0 (late_in leaves) → ((v : ℕ) → is_latch (row t.nodes v) ≡ true → early_in leaves v ≡ At (early_start t v)) →
      RestBut both_kind (network t.nodes) (course_over both_start both_between t.clock t.nodes (delays_at c.delays.now)) both_restarts (figure_at both_kind.no_path leaves) stale →
      (Sound (network_of c) → RestBut both_kind (network_of c) (course_of both_start both_between c) both_restarts (figure_at both_kind.no_path leaves) stale → RestBut both_kind (network_of c) (course_of both_start both_between c) both_restarts (figure_at both_kind.no_path leaves') stale') →
      (count : ℕ) × (count ≤ 65536) × Visits both_kind (network_of c) (course_of both_start both_between c) both_restarts count (figure_at both_kind.no_path leaves) (figure_at both_kind.no_path leaves') →
      NoneStale stale' → AtRest t S c leaves'
  approached leaves leaves' stale stale' near opened rest on visits none =
      let sound = stands_sound t stands in
      let n = network t.nodes in
      let course = course_over both_start both_between t.clock t.nodes (delays_at c.delays.now) in
      let late = course_over latest_start latest_between t.clock t.nodes (delays_at c.delays.now) in
      let rested : RestBut both_kind n course both_restarts (figure_at both_kind.no_path leaves') stale' = (rw (shows.clock, shows.nodes) at on) sound rest in
      let made : Visits both_kind n course both_restarts visits.0 (figure_at both_kind.no_path leaves) (figure_at both_kind.no_path leaves') = rw (shows.clock, shows.nodes) at visits.2 in
      let rests = all_rest both_kind n course both_restarts (figure_at both_kind.no_path leaves') stale' rested none in
      let late_rests : (v : ℕ) → v < n.size → Rests latest_kind n late latest_restarts (late_in leaves') v = λ v lt. rests_latest n course (figure_at both_kind.no_path leaves') v (rests v lt) in
      let visited : Near n (late_start t) (late_gain t S) (0 + visits.0) (late_in leaves') = near_visits n late (late_start t) (late_gain t S) sound late_says (visits_latest n course made) 0 near (omega (arith, visits.1)) in
      let settled = near_settled n late (late_start t) (late_gain t S) sound late_says (0 + visits.0) (omega (arith, visits.1)) (late_in leaves') visited late_rests in
      record {
        near = near_found n late (late_start t) (late_gain t S) (late_in leaves') (comes latest_kind n late (late_in leaves')) sound late_says settled.0.swept settled.1
            (λ v l. visited.ends v (sound.origins v (sound.latches v l))) (late_in leaves') (left_at_rest latest_kind n late latest_restarts (late_in leaves') late_rests);
        opened = λ v l. latches_stay_both n course made v (sound.origins v (sound.latches v l)) l ∙ opened v l;
        rests = rests;
      }

  module _ (starts column : List Arrival) (found : LatestFound (network t.nodes) (late_start t) (late_gain t S) (figure_at NoPath starts) (figure_at NoPath column)) where
    -- where every window has an end, all nodes are at rest with the figures with which sweeps of each kind leave them
    pub swept_left : (openings early : List Arrival) (leaves mid leaves' : List Arrivals) → EndsBy c.nodes.now starts All →
        (Sound (network_of c) → Swept latest_kind (network_of c) (course_of latest_start latest_between c) (figure_at NoPath starts) (figure_at NoPath column)) →
        (Sound (network_of c) → (v : ℕ) → (network_of c).is_latch v ≡ true → is_later (figure_at NoPath starts v) (figure_at NoPath column v) ≡ false) →
        LeftWith (length c.nodes.now) (leaving (network_of c) (figure_at NoPath starts) (figure_at NoPath column)) (early_in leaves) leaves mid →
        (Sound (network_of c) → Swept earliest_kind (network_of c) (course_of earliest_start earliest_between c) (figure_at NoPath openings) (figure_at NoPath early)) →
        (Sound (network_of c) → (v : ℕ) → (network_of c).is_latch v ≡ true → figure_at NoPath openings v ≡ first_of earliest_start c v) →
        LeftWith (length c.nodes.now) (late_in mid) (leaving (network_of c) (figure_at NoPath openings) (figure_at NoPath early)) mid leaves' →
        AtRest t S c leaves'
    swept_left openings early leaves mid leaves' by sweep holds left early_sweep opens early_left =
        let sound = stands_sound t stands in
        let n = network t.nodes in
        let course = course_over both_start both_between t.clock t.nodes (delays_at c.delays.now) in
        let late_course = course_over latest_start latest_between t.clock t.nodes (delays_at c.delays.now) in
        let early_course = course_over earliest_start earliest_between t.clock t.nodes (delays_at c.delays.now) in
        let swept : Swept latest_kind n late_course (figure_at NoPath starts) (figure_at NoPath column) = (rw (shows.clock, shows.nodes) at sweep) sound in
        let still : (v : ℕ) → n.is_latch v ≡ true → is_later (figure_at NoPath starts v) (figure_at NoPath column v) ≡ false = (rw shows.nodes at holds) sound in
        let early_swept : Swept earliest_kind n early_course (figure_at NoPath openings) (figure_at NoPath early) = (rw (shows.clock, shows.nodes) at early_sweep) sound in
        let opened : (v : ℕ) → n.is_latch v ≡ true → figure_at NoPath openings v ≡ At (early_start t v) = (rw (shows.clock, shows.nodes) at opens) sound in
        let was : (v : ℕ) → v < n.size → late_in mid v ≡ leaving n (figure_at NoPath starts) (figure_at NoPath column) v = rw shows.nodes at left.late in
        let same : (v : ℕ) → v < n.size → late_in leaves' v ≡ late_in mid v = rw shows.nodes at early_left.late in
        let late_at : (v : ℕ) → v < n.size → late_in leaves' v ≡ leaving n (figure_at NoPath starts) (figure_at NoPath column) v = λ v lt. same v lt ∙ was v lt in
        let early_at : (v : ℕ) → v < n.size → early_in leaves' v ≡ leaving n (figure_at NoPath openings) (figure_at NoPath early) v = rw shows.nodes at early_left.early in
        let ends : EndsBy t.nodes starts All = rw shows.nodes at by in
        record {
          near = near_found n late_course (late_start t) (late_gain t S) (figure_at NoPath starts) (figure_at NoPath column) sound late_says swept found
              (λ v l e. ends v (sound.origins v (sound.latches v l), l, e)) (late_in leaves') late_at;
          opened = λ v l. early_at v (sound.origins v (sound.latches v l)) ∙ (cond_true (n.is_latch v) (figure_at NoPath openings v) (figure_at NoPath early v) l ∙ opened v l);
          rests = λ v lt.
              rests_both n course (figure_at both_kind.no_path leaves') v
              (rests_left latest_kind n late_course latest_restarts (late_in leaves') (figure_at NoPath starts) (figure_at NoPath column) late_at sound swept still v lt)
              (rests_left earliest_kind n early_course earliest_restarts (early_in leaves') (figure_at NoPath openings) (figure_at NoPath early) early_at sound early_swept (λ u l. refl) v lt);
        }

    -- a latch without an end is the lowest one
    pub swept_without : (latch : ℕ) → EndsBy c.nodes.now starts (NoneAt latch) → Lowest t (EndlessLatch t S) latch
    swept_without latch by = ends_found t S (figure_at NoPath starts) (figure_at NoPath column) found starts (λ v lt. refl) (NoneAt latch) (rw shows.nodes at by)

  module _ (leaves : List Arrivals) (rest : AtRest t S c leaves) where
    -- what late figures at rest and what comes to them say of paths
    late_found : LatestFound (network t.nodes) (late_start t) (late_gain t S) (late_in leaves) (comes latest_kind (network t.nodes) (course_over latest_start latest_between t.clock t.nodes (delays_at c.delays.now)) (late_in leaves))
    late_found =
        let n = network t.nodes in
        let course = course_over both_start both_between t.clock t.nodes (delays_at c.delays.now) in
        (near_settled n (course_over latest_start latest_between t.clock t.nodes (delays_at c.delays.now)) (late_start t) (late_gain t S) (stands_sound t stands) late_says 0 (omega arith) (late_in leaves) rest.near
        (λ v lt. rests_latest n course (figure_at both_kind.no_path leaves) v (rest.rests v lt))).1

    -- and what comes to early ones
    early_found : (v : ℕ) → v < length t.nodes → IsEarliest {n = network t.nodes} {v = v} (early t S) arrives_short (comes earliest_kind (network t.nodes) (course_over earliest_start earliest_between t.clock t.nodes (delays_at c.delays.now)) (early_in leaves) v)
    early_found =
        let n = network t.nodes in
        let course = course_over both_start both_between t.clock t.nodes (delays_at c.delays.now) in
        rests_earliest n (course_over earliest_start earliest_between t.clock t.nodes (delays_at c.delays.now)) (early_start t) (early_gain t S) (stands_sound t stands) early_says (early_in leaves) rest.opened
        (λ v lt. rests_earliest_part n course (figure_at both_kind.no_path leaves) v (rest.rests v lt))

    -- what arrives at a node at rest is what comes to it
    arrives_at_rest : (v : ℕ) → v < length t.nodes → arriving c leaves v ≡ comes both_kind (network t.nodes) (course_over both_start both_between t.clock t.nodes (delays_at c.delays.now)) (figure_at both_kind.no_path leaves) v
    arrives_at_rest v lt =
        let n = network t.nodes in
        let came = comes both_kind n (course_over both_start both_between t.clock t.nodes (delays_at c.delays.now)) (figure_at both_kind.no_path leaves) v in
        rw (shows.clock, shows.nodes)
        (⊎_elim
        (λ (l : n.is_latch v ≡ true). cond_true (n.is_latch v) came (figure_at both_kind.no_path leaves v) l)
        (λ (l : n.is_latch v ≡ false). cond_false (n.is_latch v) came (figure_at both_kind.no_path leaves v) l ∙ (rest.rests v lt).other l)
        (cases_Bool (n.is_latch v)))

    -- the latest arrivals at nodes at rest stand in a column
    late_column : (old column : List Arrival) → FilledBy (length c.nodes.now) (λ v. (arriving c leaves v).latest) old column →
        LatestFound (network t.nodes) (late_start t) (late_gain t S) (late_in leaves) (figure_at NoPath column)
    late_column old column filled =
        let n = network t.nodes in
        let late_course = course_over latest_start latest_between t.clock t.nodes (delays_at c.delays.now) in
        latest_same n (late_start t) (late_gain t S) (late_in leaves) (comes latest_kind n late_course (late_in leaves)) (figure_at NoPath column) (stands_sound t stands)
        (λ v lt.
        let within : v < length c.nodes.now = rw shows.nodes lt in
        filled.at v within ∙ (ap (λ a. a.latest) (arrives_at_rest v lt) ∙ (comes_both n (course_over both_start both_between t.clock t.nodes (delays_at c.delays.now)) (figure_at both_kind.no_path leaves) v).0))
        late_found

    -- and the earliest
    early_column : (old column : List Arrival) → FilledBy (length c.nodes.now) (λ v. (arriving c leaves v).earliest) old column → EarlyFound t S column
    early_column old column filled v lt =
        let n = network t.nodes in
        let within : v < length c.nodes.now = rw shows.nodes lt in
        let came : figure_at NoPath column v ≡ comes earliest_kind n (course_over earliest_start earliest_between t.clock t.nodes (delays_at c.delays.now)) (early_in leaves) v =
        filled.at v within ∙ (ap (λ a. a.earliest) (arrives_at_rest v lt) ∙ (comes_both n (course_over both_start both_between t.clock t.nodes (delays_at c.delays.now)) (figure_at both_kind.no_path leaves) v).1)
        in
        rw came (early_found v lt)

    -- the window of each node is what it is left with
    pub windows_at_rest : (v : ℕ) → v < length t.nodes → IsWindow t S v (record { begins = tick_of (early_in leaves v); ends = tick_of (late_in leaves v) })
    windows_at_rest v lt =
        let n = network t.nodes in
        let course = course_over both_start both_between t.clock t.nodes (delays_at c.delays.now) in
        let late_course = course_over latest_start latest_between t.clock t.nodes (delays_at c.delays.now) in
        let early_course = course_over earliest_start earliest_between t.clock t.nodes (delays_at c.delays.now) in
        let left = left_at_rest latest_kind n late_course latest_restarts (late_in leaves) (λ u less. rests_latest n course (figure_at both_kind.no_path leaves) u (rest.rests u less)) v lt in
        window_found t S stands v lt (late_in leaves) (comes latest_kind n late_course (late_in leaves)) (comes earliest_kind n early_course (early_in leaves)) _ late_found
        (λ e. rest.near.ends v lt (left ∙ e))
        (early_found v lt)
        (ap tick_of left)
        (⊎_elim
        (λ (l : n.is_latch v ≡ true). ap tick_of (rest.opened v l) ∙ sym (cond_true (n.is_latch v) (early_start t v) (tick_of (comes earliest_kind n early_course (early_in leaves) v)) l))
        (λ (l : n.is_latch v ≡ false).
        ap tick_of ((rests_earliest_part n course (figure_at both_kind.no_path leaves) v (rest.rests v lt)).other l) ∙ sym (cond_false (n.is_latch v) (early_start t v) (tick_of (comes earliest_kind n early_course (early_in leaves) v)) l))
        (cases_Bool (n.is_latch v)))

    -- every window has an end
    all_end : NoNode t (HasNoEnd t S)
    all_end v lt =
        let n = network t.nodes in
        let course = course_over both_start both_between t.clock t.nodes (delays_at c.delays.now) in
        let late_course = course_over latest_start latest_between t.clock t.nodes (delays_at c.delays.now) in
        let left = left_at_rest latest_kind n late_course latest_restarts (late_in leaves) (λ u less. rests_latest n course (figure_at both_kind.no_path leaves) u (rest.rests u less)) v lt in
        has_end t S (late_in leaves) (comes latest_kind n late_course (late_in leaves)) late_found v (leaving n (late_in leaves) (comes latest_kind n late_course (late_in leaves)) v) (late_found.nodes v lt) (λ e. rest.near.ends v lt (left ∙ e))

    -- the lowest latches that are late and early by the arrivals at nodes at rest, with the windows that are written
    pub round_written : (old late mid early' : List Arrival) → FilledBy (length c.nodes.now) (λ v. (arriving c leaves v).latest) old late → FilledBy (length c.nodes.now) (λ v. (arriving c leaves v).earliest) mid early' →
        (windows windows' : List Window) (lates earlies : Option Breach) →
        LowestBreach (length c.nodes.now) (late_at c (figure_at NoPath late)) (late_excess_at c (figure_at NoPath late)) lates → LowestBreach (length c.nodes.now) (early_at c (figure_at NoPath early')) (early_excess_at c (figure_at NoPath early')) earlies →
        WindowsSaid (length c.nodes.now) (λ v. record { begins = tick_of (early_in leaves v); ends = tick_of (late_in leaves v) }) windows windows' → WindowsFound t S windows' (Ended lates earlies)
    round_written old late mid early' filled early_filled windows windows' lates earlies late_is early_is said = (
      λ v lt. let within : v < length c.nodes.now = rw shows.nodes lt in rw (said.at v within) (windows_at_rest v lt),
      late_said t S c stands shows (figure_at NoPath late) lates (arrivals_found t S (late_in leaves) (figure_at NoPath late) (late_column old late filled)) all_end late_is,
      early_said t S c stands shows (figure_at NoPath early') earlies (early_column mid early' early_filled) early_is,
    )

module _ {N : ℕ} (t : Table) (S : ℕ → Bool) (s : Carried N) (c : Circuit) (carries : Carries t S s) (is : IsCircuit s.rows s.delays.places s.leads c) where
  -- the circuit of what is carried shows the table
  pub shows_carried : Shows t S c
  shows_carried = record { clock = is.0 ∙ carries.rows.0; nodes = is.1 ∙ carries.rows.1; delays = λ v lt. ap (λ d. delays_at d v) is.2 ∙ carries.delays v lt }

  -- all nodes but those of stale blocks are at rest over it
  rest_carried : RestBut both_kind (network t.nodes) (course_over both_start both_between t.clock t.nodes (delays_at c.delays.now)) both_restarts (carried_at s) s.stale
  rest_carried = rw is.2 carries.rest

  module _ (stands : Stands t) where
    -- where visits leave nothing stale, all nodes are at rest
    pub approached_carried : (leaves : List Arrivals) (stale : Blocks) →
        (Sound (network_of c) → RestBut both_kind (network_of c) (course_of both_start both_between c) both_restarts (carried_at s) s.stale → RestBut both_kind (network_of c) (course_of both_start both_between c) both_restarts (figure_at both_kind.no_path leaves) stale) →
        (count : ℕ) × (count ≤ 65536) × Visits both_kind (network_of c) (course_of both_start both_between c) both_restarts count (carried_at s) (figure_at both_kind.no_path leaves) →
        NoneStale stale → AtRest t S c leaves
    approached_carried leaves stale on visits none = approached t S c stands shows_carried s.leaves leaves s.stale stale carries.near carries.opened rest_carried on visits none

    -- so they are where nothing that is carried is stale
    pub at_rest_carried : NoneStale s.stale → AtRest t S c s.leaves
    at_rest_carried none =
        record {
          near = carries.near;
          opened = carries.opened;
          rests = all_rest both_kind (network t.nodes) (course_over both_start both_between t.clock t.nodes (delays_at c.delays.now)) both_restarts (carried_at s) s.stale rest_carried none;
        }

    -- all nodes at rest are carried on, with nothing stale, and what they are left with is their windows
    pub carried_on : (s' : Carried N) → s'.rows ≡ s.rows → s'.leads ≡ s.leads → s'.delays.places ≡ s.delays.places → AtRest t S c s'.leaves → NoneStale s'.stale → CarriedEnds t S s' All
    carried_on s' rows leads delays rest none = (
      record {
        rows = rw rows carries.rows;
        leads = rw leads carries.leads;
        delays = rw delays carries.delays;
        near = rest.near;
        opened = rest.opened;
        rest = record { rests = λ v lt h. (rw (is.2, sym delays) at rest.rests) v lt };
      },
      none,
      windows_at_rest t S c stands shows_carried s'.leaves rest,
    )
