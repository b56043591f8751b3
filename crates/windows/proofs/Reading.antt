-- From what is lent and what sweeps found to what the calls answer.
use Rattle.std.proofs.Common.{◌≡◌, ℕ, ◌<◌, Bool, true, false, cond, not, List, length, ℤ, pos, sym, refl, ap, ◌∙◌, ⊎_elim, arith}
use Rattle.std.proofs.lemmas.Bool.{and_parts, cases_Bool, true≢false, or_right}
use Rattle.std.proofs.Math.Bool.{or-false}
use Rattle.std.proofs.lemmas.Int.{ints}
use Rattle.design.specs.declared.nodes.Node.{Node}
use Rattle.schedule.specs.Clock.{Clock}
use Rattle.design.specs.declared.nodes.Node.TheVariants.{Free, Input, Gate, Latch}
use Rattle.design.specs.Rows.{is_latch, phase_of}
use Rattle.design.specs.Table.{Table}
use Rattle.design.specs.SoFar.{Stands}
use Rattle.paths.specs.Networks.{Network, Path, has_step, is_short}
use Rattle.paths.specs.Figures.{Measure, Least, every}
use Rattle.paths.specs.Sweeps.{leaving, arrives, arrives_short}
use Rattle.kinds.specs.declared.arrival.Arrival.{Arrival}
use Rattle.kinds.specs.declared.arrival.Arrival.TheVariants.{NoPath, At, NoEnd}
use Rattle.rings.specs.Found.{IsLatest, IsEarliest, LatestFound}
use Rattle.timing.specs.Connections.{row, network, early_opening, start_at}
use Rattle.timing.specs.Figures.{late_start, late_gain, late, early}
use Rattle.timing.specs.Windows.{HasNoEnd, IsWindow, Ends, BeginsBy}
use Rattle.windows.specs.declared.circuit.Circuit.{Circuit}
use Rattle.windows.specs.declared.found.Ends.{Ends as Ended}
use Rattle.windows.specs.declared.found.Ends.TheVariants.{All, NoneAt}
use Rattle.timing.specs.declared.windows.Window.{Window}
use Rattle.timing.proofs.Reached.{has_path, has_short_path}
use Rattle.windows.specs.Seen.{figure_at, network_of}
use Rattle.windows.specs.Written.{tick_of, window_at, EndsWritten, BeginsWritten}
use Rattle.windows.specs.Answers.{EndsFound}
use Rattle.windows.specs.Found.{Shows, StartsWithoutEnd, EndsBy, EarlyFound}

-- a path without a latch at its end arrives, however it comes
arrives_anyway : {n : Network} {v : ℕ} → n.is_latch v ≡ false → (p : Path n v) → arrives p ≡ true
arrives_anyway {n} {v} l p = or_right (has_step p) (not (n.is_latch v)) (rw l refl)

-- a path to a latch arrives by one step or more
pub arrives_by_step : {n : Network} {v : ℕ} → n.is_latch v ≡ true → (p : Path n v) → arrives p ≡ has_step p
arrives_by_step {n} {v} l p = rw l (or-false (has_step p))

-- an arrival says the same of the paths that two tests pick alike
same_latest : {n : Network} {v : ℕ} (m : Measure ℤ) (picks picks' : Path n v → Bool) → ((p : Path n v) → picks p ≡ picks' p) → (a : Arrival) → IsLatest {n = n} {v = v} m picks a → IsLatest {n = n} {v = v} m picks' a
same_latest m picks picks' same NoPath h = λ p e. h p (same p ∙ e)
same_latest m picks picks' same (At f) h = record { path = h.path; picked = sym (same h.path) ∙ h.picked; reached = h.reached; most = λ p e. h.most p (same p ∙ e) }
same_latest m picks picks' same NoEnd h = λ bound. let r = h bound in (r.0, sym (same r.0) ∙ r.1, r.2)

module _ (t : Table) (S : ℕ → Bool) (starts column : ℕ → Arrival) (found : LatestFound (network t.nodes) (late_start t) (late_gain t S) starts column) where
  -- the latest arrivals of all nodes
  pub arrivals_found : (v : ℕ) → v < length t.nodes → IsLatest {n = network t.nodes} {v = v} (late t S) arrives (column v)
  arrivals_found v lt =
      ⊎_elim
      (λ (l : is_latch (row t.nodes v) ≡ true). same_latest (late t S) has_step arrives (λ p. sym (arrives_by_step {n = network t.nodes} {v = v} l p)) (column v) (found.arrivals v lt l))
      (λ (l : is_latch (row t.nodes v) ≡ false).
      let every_found : IsLatest {n = network t.nodes} {v = v} (late t S) every (column v) = rw l at (found.nodes v lt) in
      same_latest (late t S) every arrives (λ p. sym (arrives_anyway {n = network t.nodes} {v = v} l p)) (column v) every_found)
      (cases_Bool (is_latch (row t.nodes v)))

  -- a node that is left without an end has none
  left_without : (v : ℕ) (a : Arrival) → IsLatest {n = network t.nodes} {v = v} (late t S) every a → a ≡ NoEnd → HasNoEnd t S v
  left_without v NoPath h e = let z : NoPath ≡ NoEnd = e in cc
  left_without v (At f) h e = let z : At f ≡ NoEnd = e in cc
  left_without v NoEnd h e = h

  -- a node whose paths have a greatest figure, or that has none, is not without an end
  pub has_end : (v : ℕ) (a : Arrival) → IsLatest {n = network t.nodes} {v = v} (late t S) every a → (a ≡ NoEnd → ⊥) → HasNoEnd t S v → ⊥
  has_end v NoPath h e none = let r = none (pos 0) in h r.0 refl
  has_end v (At f) h e none = let r = none f in let most = h.most r.0 refl in omega (arith, ints, most, r.2)
  has_end v NoEnd h e none = e refl

  module _ (list : List Arrival) (same : (v : ℕ) → v < length t.nodes → figure_at NoPath list v ≡ starts v) where
    -- a latch starts without an end where its window has none, and only there
    starts_without : (v : ℕ) → StartsWithoutEnd t.nodes list v → HasNoEnd t S v
    starts_without v h =
        let at_latch : IsLatest {n = network t.nodes} {v = v} (late t S) every (starts v) = rw h.1 at (found.nodes v h.0) in
        left_without v (starts v) at_latch (sym (same v h.0) ∙ h.2)

    without_starts : (v : ℕ) → v < length t.nodes → is_latch (row t.nodes v) ≡ true → (StartsWithoutEnd t.nodes list v → ⊥) → HasNoEnd t S v → ⊥
    without_starts v lt l none =
        let at_latch : IsLatest {n = network t.nodes} {v = v} (late t S) every (starts v) = rw l at (found.nodes v lt) in
        has_end v (starts v) at_latch (λ e. none (lt, l, same v lt ∙ e))

    -- where no latch starts without an end no node is left without one
    pub none_left : ((v : ℕ) → StartsWithoutEnd t.nodes list v → ⊥) → (v : ℕ) → v < length t.nodes → leaving (network t.nodes) starts column v ≡ NoEnd → ⊥
    none_left none v lt e = let u = found.led v lt e in none u.0 (u.1, u.2, same u.0 u.1 ∙ u.3)

    -- what latches start from tells where windows have an end
    pub ends_found : (ends : Ended) → EndsBy t.nodes list ends → EndsFound t S ends
    ends_found All by = λ v lt. has_end v (leaving (network t.nodes) starts column v) (found.nodes v lt) (none_left by v lt)
    ends_found (NoneAt latch) by =
        (by.0.0, (by.0.1, starts_without latch by.0), λ v lt h. without_starts v (omega (arith, lt, by.0.0)) h.0 (by.1 v lt) h.1)

-- a latch starts paths, early, with its opening edge
early_start_latch : (clock : Clock) (x : Node) → is_latch x ≡ true → (start_at clock x).earliest ≡ early_opening clock (phase_of x)
early_start_latch clock Free l = absurd (true≢false (sym l))
early_start_latch clock (Input phase earliest latest) l = absurd (true≢false (sym l))
early_start_latch clock (Gate phase least greatest sources) l = absurd (true≢false (sym l))
early_start_latch clock (Latch phase least greatest setup hold source) l = refl

-- a short path to a node that is no latch comes to it
short_comes : {n : Network} {v : ℕ} → n.is_latch v ≡ false → (p : Path n v) → is_short p ≡ true → arrives_short p ≡ true
short_comes {n} {v} l p e = rw (e, arrives_anyway {n = n} {v = v} l p) refl

module _ (t : Table) (S : ℕ → Bool) (stands : Stands t) (v : ℕ) (lt : v < length t.nodes) where
  -- where a node is left with a figure, its window ends there
  ends_at : (a : Arrival) → IsLatest {n = network t.nodes} {v = v} (late t S) every a → (a ≡ NoEnd → ⊥) → Ends t S v (tick_of a)
  ends_at NoPath h e = absurd (h (has_path t stands v lt) refl)
  ends_at (At f) h e = h
  ends_at NoEnd h e = absurd (e refl)

  -- the earliest arrival at a node that is no latch is where its window begins
  least_at : (a : Arrival) → is_latch (row t.nodes v) ≡ false → IsEarliest {n = network t.nodes} {v = v} (early t S) arrives_short a → Least {n = network t.nodes} {v = v} (early t S) is_short (tick_of a)
  least_at NoPath l h = let p = has_short_path t stands v lt in absurd (h p.0 (short_comes {n = network t.nodes} {v = v} l p.0 p.1))
  least_at (At f) l h =
      record {
        path = h.path;
        picked = (and_parts (is_short h.path) (arrives h.path) h.picked).0;
        reached = h.reached;
        least = λ p e. h.least p (short_comes {n = network t.nodes} {v = v} l p e);
      }
  least_at NoEnd l h = absurd h

  -- a window begins as it is written
  begins_at : (b : Bool) (a : Arrival) (f : ℤ) → is_latch (row t.nodes v) ≡ b → f ≡ cond b (start_at t.clock (row t.nodes v)).earliest (tick_of a) → IsEarliest {n = network t.nodes} {v = v} (early t S) arrives_short a → BeginsBy b t S v f
  begins_at true a f l e h = e ∙ early_start_latch t.clock (row t.nodes v) l
  begins_at false a f l e h = rw e (least_at a l h)

  -- the window of a node is written
  pub window_found : (starts column column' : ℕ → Arrival) (w : Window) → LatestFound (network t.nodes) (late_start t) (late_gain t S) starts column →
      (leaving (network t.nodes) starts column v ≡ NoEnd → ⊥) → IsEarliest {n = network t.nodes} {v = v} (early t S) arrives_short (column' v) →
      w.ends ≡ tick_of (leaving (network t.nodes) starts column v) →
      w.begins ≡ cond (is_latch (row t.nodes v)) (start_at t.clock (row t.nodes v)).earliest (tick_of (column' v)) → IsWindow t S v w
  window_found starts column column' w found end early_found ends begins =
      record {
        begins = begins_at (is_latch (row t.nodes v)) (column' v) w.begins refl begins early_found;
        ends = rw ends (ends_at (leaving (network t.nodes) starts column v) (found.nodes v lt) end);
      }

-- the windows of all nodes are written
pub windows_found : (t : Table) (S : ℕ → Bool) (c : Circuit) (starts column column' : List Arrival) (old mid new : List Window) → Stands t → Shows t S c →
    LatestFound (network t.nodes) (late_start t) (late_gain t S) (figure_at NoPath starts) (figure_at NoPath column) → EndsBy c.nodes.now starts All →
    EarlyFound t S column' → EndsWritten (network_of c) (figure_at NoPath starts) (figure_at NoPath column) old mid → BeginsWritten c (figure_at NoPath column') mid new →
    (v : ℕ) → v < length t.nodes → IsWindow t S v (window_at new v)
windows_found t S c starts column column' old mid new stands shows found by early_found ends begins = λ v lt.
    let lt' : v < length c.nodes.now = omega (arith, lt, ap length shows.nodes) in
    window_found t S stands v lt (figure_at NoPath starts) (figure_at NoPath column) (figure_at NoPath column') (window_at new v) found
    (none_left t S (figure_at NoPath starts) (figure_at NoPath column) found starts (λ u l. refl) (rw shows.nodes at by) v lt)
    (early_found v lt)
    (begins.ends v lt' ∙ (rw shows.nodes at (ends.ends v lt')))
    (rw (shows.nodes, shows.clock) at (begins.begins v lt'))
