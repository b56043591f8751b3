-- Sweeps over a circuit are sweeps over the table that it shows.
use Rattle.std.proofs.Common.{◌≡◌, ℕ, ◌*◌, ◌<◌, Bool, true, List, [], ◌∷◌, length, map, ℤ, refl, sym, ap, ◌∙◌, inl, inr, arith}
use Rattle.std.proofs.lemmas.Bool.{true≢false}
use Rattle.design.specs.Table.{Table}
use Rattle.design.specs.SoFar.{Stands}
use Rattle.schedule.specs.Clock.{Clock}
use Rattle.design.specs.declared.nodes.Node.{Node}
use Rattle.kinds.specs.declared.timings.Start.{Start}
use Rattle.kinds.specs.declared.timings.Delays.{Delays}
use Rattle.paths.specs.Networks.{Network, IsIn, Connected, Sound}
use Rattle.paths.specs.Kinds.{Kind, joined}
use Rattle.paths.specs.Sweeps.{Course, leaving, own, along, arrival, Swept}
use Rattle.paths.specs.Kinds.{Restarts}
use Rattle.rings.specs.Settling.{Restarted, unswept, after_sweep, Settled}
use Rattle.timing.specs.Connections.{row, network, start_at}
use Rattle.timing.specs.Courses.{course_over}
use Rattle.timing.specs.Delays.{delays_under}
use Rattle.timing.specs.Figures.{late_start, late_gain, early_start, early_gain, early}
use Rattle.timing.proofs.Sound.{stands_sound, stands_says_latest, stands_says_earliest}
use Rattle.kinds.specs.declared.arrival.Arrival.{Arrival}
use Rattle.kinds.specs.declared.arrival.Arrival.TheVariants.{At}
use Rattle.kinds.specs.Arrivals.{latest_kind, latest_start, latest_between, earliest_kind, earliest_start, earliest_between}
use Rattle.paths.specs.Networks.{latch_count}
use Rattle.paths.specs.Sweeps.{arrives_short}
use Rattle.kinds.specs.Arrivals.{latest_restarts, earliest_restarts}
use Rattle.rings.specs.Found.{LatestFound, IsEarliest}
use Rattle.rings.proofs.Latest.{latest_settles}
use Rattle.rings.proofs.Beginning.{opening_begins}
use Rattle.rings.proofs.Earliest.{earliest_settles}
use Rattle.windows.specs.declared.circuit.Circuit.{Circuit}
use Rattle.windows.specs.Delays.{delays_at}
use Rattle.windows.specs.Seen.{network_of, course_of}
use Rattle.windows.specs.Rings.{first_of}
use Rattle.windows.specs.Found.{Shows}

module _ {F S : Type 0} (kind : Kind F S) (n : Network) (course course' : Course F S) where
  -- what comes along connections to a node is the same over courses that agree on them
  along_agrees : (starts column : ℕ → F) (v : ℕ) → ((k : ℕ) → Connected n k v → course.step k v ≡ course'.step k v) → (ks : List ℕ) → ((k : ℕ) → IsIn k ks → Connected n k v) →
      joined kind (map (along kind n course starts column v) ks) ≡ joined kind (map (along kind n course' starts column v) ks)
  along_agrees starts column v same_step [] h = refl
  along_agrees starts column v same_step (k ∷ ks) h =
      ap (λ s. kind.join (kind.step (leaving n starts column k) s) (joined kind (map (along kind n course starts column v) ks))) (same_step k (h k (inl refl)))
      ∙ ap (kind.join (along kind n course' starts column v k)) (along_agrees starts column v same_step ks (λ u i. h u (inr i)))

  -- so is all that comes to it, where they agree on what it starts with
  pub arrival_agrees : (starts column : ℕ → F) (v : ℕ) → course.start v ≡ course'.start v → ((k : ℕ) → Connected n k v → course.step k v ≡ course'.step k v) →
      arrival kind n course starts column v ≡ arrival kind n course' starts column v
  arrival_agrees starts column v same_start same_step =
      let start : own kind n course v ≡ own kind n course' v = rw same_start refl in
      ap (λ f. kind.join f (joined kind (map (along kind n course starts column v) (n.sources v)))) start
      ∙ ap (kind.join (own kind n course' v)) (along_agrees starts column v same_step (n.sources v) (λ k i. i))

module _ {F S : Type 0} (kind : Kind F S) (n : Network) (course course' : Course F S) (same_start : (v : ℕ) → course.start v ≡ course'.start v)
    (same_step : (k v : ℕ) → Connected n k v → course.step k v ≡ course'.step k v) where
  -- and so is a sweep
  swept_agrees : (starts column : ℕ → F) → Swept kind n course starts column → Swept kind n course' starts column
  swept_agrees starts column swept v lt = swept v lt ∙ arrival_agrees kind n course course' starts column v (same_start v) (λ k c. same_step k v c)

  -- and so are the starts after any number of sweeps
  restarted_agrees : {r : Restarts F} {limit : ℕ} {first : ℕ → F} {made : ℕ} {starts : ℕ → F} → Restarted kind n course r limit first made starts → Restarted kind n course' r limit first made starts
  restarted_agrees (unswept e) = unswept e
  restarted_agrees (after_sweep {made} {starts} column starts' before swept w latch climbs next) = after_sweep column starts' (restarted_agrees before) (swept_agrees starts column swept) w latch climbs next

  -- and so are sweeps that settle
  pub settled_agrees : (r : Restarts F) (limit : ℕ) (first : ℕ → F) (made : ℕ) (starts column : ℕ → F) → Settled kind n course r limit first made starts column → Settled kind n course' r limit first made starts column
  settled_agrees r limit first made starts column s = record { restarted = restarted_agrees s.restarted; swept = swept_agrees starts column s.swept; still = s.still }

-- sweeps over the rows of a table with delays that are those under a set of couplings
over_delays : {F S : Type 0} (kind : Kind F S) (starts_with : Start → F) (between : Delays → Delays → ℤ → S) (clock : Clock) (nodes : List Node) (delays delays' : ℕ → Delays) → Sound (network nodes) →
    ((v : ℕ) → v < length nodes → delays v ≡ delays' v) → (r : Restarts F) (limit : ℕ) (first : ℕ → F) (made : ℕ) (starts column : ℕ → F) →
    Settled kind (network nodes) (course_over starts_with between clock nodes delays) r limit first made starts column →
    Settled kind (network nodes) (course_over starts_with between clock nodes delays') r limit first made starts column
over_delays kind starts_with between clock nodes delays delays' sound same r limit first made starts column s =
    settled_agrees kind (network nodes) (course_over starts_with between clock nodes delays) (course_over starts_with between clock nodes delays') (λ v. refl)
    (λ k v c. let at = sound.sources k v c in rw (same k at.0, same v at.1) refl)
    r limit first made starts column s

-- sweeps over a circuit that shows a table
pub settled_shown : {F S : Type 0} (kind : Kind F S) (starts_with : Start → F) (between : Delays → Delays → ℤ → S) (t : Table) (couplings : ℕ → Bool) (c : Circuit) → Sound (network t.nodes) → Shows t couplings c →
    (r : Restarts F) (limit : Network → ℕ) (made : ℕ) (starts column : ℕ → F) →
    Settled kind (network_of c) (course_of starts_with between c) r (limit (network_of c)) (first_of starts_with c) made starts column →
    Settled kind (network t.nodes) (course_over starts_with between t.clock t.nodes (delays_under t.nodes t.couplings couplings)) r (limit (network t.nodes)) (λ v. starts_with (start_at t.clock (row t.nodes v))) made starts column
settled_shown kind starts_with between t couplings c sound shows r limit made starts column s =
    over_delays kind starts_with between t.clock t.nodes (delays_at c.delays.now) (delays_under t.nodes t.couplings couplings) sound shows.delays r (limit (network t.nodes)) (λ v. starts_with (start_at t.clock (row t.nodes v))) made starts column
    (rw (shows.clock, shows.nodes) at s)

-- a circuit that shows a table that stands is sound
pub shown_sound : (t : Table) (couplings : ℕ → Bool) (c : Circuit) → Stands t → Shows t couplings c → Sound (network_of c)
shown_sound t couplings c stands shows = rw shows.nodes (stands_sound t stands)

-- sweeps of the latest kind over a circuit that shows a table
pub latest_shown : (t : Table) (couplings : ℕ → Bool) (c : Circuit) → Stands t → Shows t couplings c → (made : ℕ) (starts column : ℕ → Arrival) →
    Settled latest_kind (network_of c) (course_of latest_start latest_between c) latest_restarts (latch_count (network_of c) * 1) (first_of latest_start c) made starts column →
    Settled latest_kind (network t.nodes) (course_over latest_start latest_between t.clock t.nodes (delays_under t.nodes t.couplings couplings)) latest_restarts (latch_count (network t.nodes)) (λ v. At (late_start t v)) made starts column
latest_shown t couplings c stands shows made starts column s =
    let e : latch_count (network t.nodes) * 1 ≡ latch_count (network t.nodes) = omega arith in
    rw e at (settled_shown latest_kind latest_start latest_between t couplings c (stands_sound t stands) shows latest_restarts (λ n. latch_count n * 1) made starts column s)

-- what they have found
pub latest_of : (t : Table) (couplings : ℕ → Bool) (c : Circuit) → Stands t → Shows t couplings c → (made : ℕ) (starts column : ℕ → Arrival) →
    Settled latest_kind (network_of c) (course_of latest_start latest_between c) latest_restarts (latch_count (network_of c) * 1) (first_of latest_start c) made starts column →
    LatestFound (network t.nodes) (late_start t) (late_gain t couplings) starts column
latest_of t couplings c stands shows made starts column s =
    let sound = stands_sound t stands in
    let says = stands_says_latest t couplings stands in
    latest_settles (network t.nodes) _ (late_start t) (late_gain t couplings) (λ v. At (late_start t v)) made starts column sound says
    (opening_begins (network t.nodes) _ (late_start t) (late_gain t couplings) sound says) (latest_shown t couplings c stands shows made starts column s)

-- what sweeps of the earliest kind have found over a circuit that shows a table
pub earliest_of : (t : Table) (couplings : ℕ → Bool) (c : Circuit) → Stands t → Shows t couplings c → (limit : ℕ) (made : ℕ) (starts column : ℕ → Arrival) →
    Settled earliest_kind (network_of c) (course_of earliest_start earliest_between c) earliest_restarts limit (first_of earliest_start c) made starts column →
    (v : ℕ) → v < length t.nodes → IsEarliest {n = network t.nodes} {v = v} (early t couplings) arrives_short (column v)
earliest_of t couplings c stands shows limit made starts column s =
    earliest_settles (network t.nodes) _ (early_start t) (early_gain t couplings) limit made starts column (stands_sound t stands) (stands_says_earliest t couplings stands)
    (settled_shown earliest_kind earliest_start earliest_between t couplings c (stands_sound t stands) shows earliest_restarts (λ n. limit) made starts column s)

-- sweeps of the earliest kind leave the starts of latches as they began
pub opened_still : {n : Network} {course : Course Arrival ℤ} {limit : ℕ} {first : ℕ → Arrival} {made : ℕ} {starts : ℕ → Arrival} → Restarted earliest_kind n course earliest_restarts limit first made starts → (v : ℕ) → n.is_latch v ≡ true → starts v ≡ first v
opened_still (unswept e) v l = e v l
opened_still (after_sweep column starts' before swept w latch climbs next) v l = absurd (true≢false (sym climbs))
