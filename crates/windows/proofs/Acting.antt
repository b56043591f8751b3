-- What is carried from one round to the next, before any coupling acts and when one more does.
use Rattle.std.proofs.Common.{◌≡◌, ℕ, zero, suc, ◌+◌, ◌<◌, ◌≤◌, Bool, true, false, cond, ◌||◌, ◌==◌, inl, inr, ⊎_elim, List, [], ◌∷◌, length, get_or, ℤ, pos, ◌+ℤ◌, ◌-ℤ◌, ◌≤ℤ◌, refl, sym, ap, ◌∙◌, arith}
use Rattle.std.specs.Int.{saturate_signed, w64}
use Rattle.std.proofs.lemmas.Int.{ints}
use Rattle.std.proofs.lemmas.Bool.{cases_Bool, cases_eq, cases_lt, true≢false}
use Rattle.std.proofs.lemmas.Bool.Decides.{nat_tests}
use Rattle.design.specs.declared.nodes.Node.{Node}
use Rattle.design.specs.declared.couplings.Coupling.{Coupling}
use Rattle.design.specs.Rows.{is_latch, no_coupling, least_delay, assisting_of}
use Rattle.design.specs.Table.{Table}
use Rattle.design.specs.SoFar.{Stands}
use Rattle.schedule.specs.Clock.{Clock}
use Rattle.kinds.specs.declared.timings.Start.{Start}
use Rattle.kinds.specs.declared.timings.Delays.{Delays}
use Rattle.kinds.specs.Arrivals.{latest_start, latest_between}
use Rattle.kinds.specs.Both.{both_kind, both_start, both_between, both_restarts}
use Rattle.paths.specs.Networks.{Network, Connected, Sound}
use Rattle.paths.specs.Kinds.{Kind, Restarts}
use Rattle.paths.specs.Sweeps.{arrival}
use Rattle.rings.proofs.Nearing.{near_grows, near_opening}
use Rattle.timing.specs.Connections.{row, network, start_at}
use Rattle.timing.specs.Courses.{course_over}
use Rattle.timing.specs.Delays.{chosen_from, chosen, opposing_of, own_greatest, delays_under}
use Rattle.timing.specs.Figures.{late_start, late_gain}
use Rattle.timing.proofs.Sound.{stands_sound, stands_says_latest, AmountsFit, opposing_within, assisting_within, least_within, greatest_within}
use Rattle.windows.specs.declared.blocks.Blocks.{Blocks}
use Rattle.windows.specs.declared.blocks.Leads.{Leads}
use Rattle.windows.specs.declared.carried.Carried.{Carried}
use Rattle.windows.specs.Blocks.{block_of, has_block, led_from, AllLeads, LeadsKept, IsAwake}
use Rattle.windows.specs.Delays.{delays_at}
use Rattle.windows.specs.Effective.{own_delays, disturbed, disturbed_at}
use Rattle.windows.specs.InPlace.{RestBut}
use Rattle.windows.specs.Carried.{AreRowsOf, SameRows, carried_at, Carries, WithOne}
use Rattle.windows.proofs.Agreeing.{arrival_agrees}
use Rattle.windows.proofs.Blocking.{or_led}
use Rattle.windows.proofs.Disturbing.{chosen_same, chosen_other, near_exact, same_delays}
use Rattle.windows.proofs.Waking.{in_stale}

-- no coupling is chosen where none is in the set
none_chosen : (i : ℕ) (ks : List Coupling) → chosen_from (λ k. false) i ks ≡ []
none_chosen i [] = refl
none_chosen i (k ∷ ks) = none_chosen (suc i) ks

-- so each node has its delays by itself
own_at_first : (nodes : List Node) (ks : List Coupling) (v : ℕ) → own_delays (row nodes v) ≡ delays_under nodes ks (λ k. false) v
own_at_first nodes ks v =
    rw (none_chosen 0 ks)
    (same_delays (own_delays (row nodes v)) (record { least = pos (least_delay (row nodes v)) -ℤ pos 0; greatest = pos (own_greatest (row nodes v) + 0) }) (omega (arith, ints)) (omega (arith, ints)))

-- leads that a struct keeps are all leads
pub leads_all : (n : Network) (leads : Leads) → LeadsKept n leads → AllLeads n leads
leads_all n leads kept k v c lk lv =
    elim (cases_eq (block_of k) (block_of v)) [
      | inl same ↦
          elim (cases_lt k v) [
            | inl below ↦ inl (same, below)
            | inr above ↦ inr (kept k v c lk lv (λ e below. omega (arith, above, below)))
          ]
      | inr apart ↦ inr (kept k v c lk lv (λ e below. apart e))
    ]

-- what is carried before the first round
pub carries_first : {room : ℕ} (t : Table) (c : Carried room) → Stands t → AreRowsOf t c.rows → length t.nodes ≤ room → AllLeads (network t.nodes) c.leads →
    ((v : ℕ) → v < room → delays_at c.delays.places v ≡ own_delays (row t.nodes v)) →
    ((v : ℕ) → v < length t.nodes → is_latch (row t.nodes v) ≡ true → carried_at c v ≡ both_start (start_at t.clock (row t.nodes v))) →
    ((v : ℕ) → v < length t.nodes → is_latch (row t.nodes v) ≡ false → carried_at c v ≡ both_kind.no_path) →
    ((b : ℕ) → b < 256 → has_block c.stale b ≡ true) → Carries t (λ k. false) c
carries_first t c stands rows fits leads delays latches others stale =
    let sound = stands_sound t stands in
    let says = stands_says_latest t (λ k. false) stands in
    let here : (v : ℕ) → is_latch (row t.nodes v) ≡ true → v < length t.nodes = λ v l. sound.origins v (sound.latches v l) in
    record {
      rows = rows;
      leads = leads;
      delays = λ v lt. delays v (omega arith) ∙ own_at_first t.nodes t.couplings v;
      near = near_opening (network t.nodes) (course_over latest_start latest_between t.clock t.nodes (delays_under t.nodes t.couplings (λ k. false))) (late_start t) (late_gain t (λ k. false)) sound says (λ v. (carried_at c v).latest)
          (λ v l. ap (λ x. x.latest) (latches v (here v l) l)) (λ v lt l. ap (λ x. x.latest) (others v lt l));
      opened = λ v l. ap (λ x. x.earliest) (latches v (here v l) l);
      rest = record { rests = λ v lt h. absurd (in_stale c.stale stale (network t.nodes) says.few v lt h) };
    }

-- two sets with the same couplings from a number on choose the same
same_chosen : (S T : ℕ → Bool) (i : ℕ) (ks : List Coupling) → ((c : ℕ) → i ≤ c → T c ≡ S c) → chosen_from T i ks ≡ chosen_from S i ks
same_chosen S T i [] h = refl
same_chosen S T i (k ∷ ks) h = rw (h i (omega arith), same_chosen S T (suc i) ks (λ c le. h c (omega arith))) refl

-- a coupling that is in a list or not, before two lists of which one has so much more that opposes a victim
opposing_before : (b : Bool) (k : Coupling) (xs ys : List Coupling) (v z : ℕ) → opposing_of ys v ≡ opposing_of xs v + z → opposing_of (cond b (k ∷ ys) ys) v ≡ opposing_of (cond b (k ∷ xs) xs) v + z
opposing_before true k xs ys v z e = omega (arith, e)
opposing_before false k xs ys v z e = e

-- or that assists it
assisting_before : (b : Bool) (k : Coupling) (xs ys : List Coupling) (v z : ℕ) → assisting_of ys v ≡ assisting_of xs v + z → assisting_of (cond b (k ∷ ys) ys) v ≡ assisting_of (cond b (k ∷ xs) xs) v + z
assisting_before true k xs ys v z e = omega (arith, e)
assisting_before false k xs ys v z e = e

-- what a coupling adds to what opposes a victim
abbrev opposing_by : Coupling → ℕ → ℕ
opposing_by k v = cond (k.victim == v) k.opposing 0

-- and to what assists it
abbrev assisting_by : Coupling → ℕ → ℕ
assisting_by k v = cond (k.victim == v) k.assisting 0

-- a set with one coupling more gives a victim what that coupling adds
one_opposing : (S T : ℕ → Bool) (place : ℕ) → S place ≡ false → WithOne place S T → (v i j : ℕ) (ks : List Coupling) → place ≡ i + j → j < length ks →
    opposing_of (chosen_from T i ks) v ≡ opposing_of (chosen_from S i ks) v + opposing_by (get_or ks j no_coupling) v
one_opposing S T place clear one v i j [] e lt = absurd (omega (arith, lt))
one_opposing S T place clear one v i zero (k ∷ ks) e lt =
    let here : i ≡ place = omega (arith, e) in
    let there : T i ≡ true = rw here one.0 in
    let not_yet : S i ≡ false = rw here clear in
    rw (there, not_yet, same_chosen S T (suc i) ks (λ c le. one.1 c (λ (f : c ≡ place). omega (arith, le, f, here)))) (omega arith)
one_opposing S T place clear one v i (suc j) (k ∷ ks) e lt =
    let same : T i ≡ S i = one.1 i (λ (f : i ≡ place). omega (arith, e, f)) in
    rw same (opposing_before (S i) k (chosen_from S (suc i) ks) (chosen_from T (suc i) ks) v (opposing_by (get_or ks j no_coupling) v) (one_opposing S T place clear one v (suc i) j ks (omega (arith, e)) (omega (arith, lt))))

-- and likewise what assists it
one_assisting : (S T : ℕ → Bool) (place : ℕ) → S place ≡ false → WithOne place S T → (v i j : ℕ) (ks : List Coupling) → place ≡ i + j → j < length ks →
    assisting_of (chosen_from T i ks) v ≡ assisting_of (chosen_from S i ks) v + assisting_by (get_or ks j no_coupling) v
one_assisting S T place clear one v i j [] e lt = absurd (omega (arith, lt))
one_assisting S T place clear one v i zero (k ∷ ks) e lt =
    let here : i ≡ place = omega (arith, e) in
    let there : T i ≡ true = rw here one.0 in
    let not_yet : S i ≡ false = rw here clear in
    rw (there, not_yet, same_chosen S T (suc i) ks (λ c le. one.1 c (λ (f : c ≡ place). omega (arith, le, f, here)))) (omega arith)
one_assisting S T place clear one v i (suc j) (k ∷ ks) e lt =
    let same : T i ≡ S i = one.1 i (λ (f : i ≡ place). omega (arith, e, f)) in
    rw same (assisting_before (S i) k (chosen_from S (suc i) ks) (chosen_from T (suc i) ks) v (assisting_by (get_or ks j no_coupling) v) (one_assisting S T place clear one v (suc i) j ks (omega (arith, e)) (omega (arith, lt))))

module _ (t : Table) (stands : Stands t) (S T : ℕ → Bool) (place : ℕ) (lt : place < length t.couplings) (clear : S place ≡ false) (one : WithOne place S T) where
  -- the coupling that acts from now on
  abbrev acting : Coupling
  acting = get_or t.couplings place no_coupling

  -- under the set with it, what opposes a node is more by what it adds
  more_opposing : (v : ℕ) → opposing_of (chosen T t.couplings) v ≡ opposing_of (chosen S t.couplings) v + opposing_by acting v
  more_opposing v = one_opposing S T place clear one v 0 place t.couplings (omega arith) lt

  -- and what assists it
  more_assisting : (v : ℕ) → assisting_of (chosen T t.couplings) v ≡ assisting_of (chosen S t.couplings) v + assisting_by acting v
  more_assisting v = one_assisting S T place clear one v 0 place t.couplings (omega arith) lt

  -- it disturbs its victim, and no delay leaves 64 bits
  pub delays_more : (v : ℕ) → v < length t.nodes → disturbed_at acting v (delays_under t.nodes t.couplings S v) ≡ delays_under t.nodes t.couplings T v
  delays_more v within =
      let d : Delays = delays_under t.nodes t.couplings S v in
      let d' : Delays = delays_under t.nodes t.couplings T v in
      let standing = stands.rows v within in
      let fits : (i : ℕ) → i < length t.couplings → AmountsFit (get_or t.couplings i no_coupling) = λ i l. let p = stands.pairs i l in (p.4, p.5) in
      let few = stands.coupling_count in
      let opposing_in = opposing_within T 0 t.couplings v fits in
      let assisting_in = assisting_within T 0 t.couplings v fits in
      let least_in = least_within t.clock (length t.nodes) v (row t.nodes v) standing in
      let greatest_in = greatest_within t.clock (length t.nodes) v (row t.nodes v) standing in
      elim (cases_eq acting.victim v) [
        | inl e ↦
            let opposing : opposing_of (chosen T t.couplings) v ≡ opposing_of (chosen S t.couplings) v + acting.opposing = rw (chosen_same acting.victim v acting.opposing 0 e) at (more_opposing v) in
            let assisting : assisting_of (chosen T t.couplings) v ≡ assisting_of (chosen S t.couplings) v + acting.assisting = rw (chosen_same acting.victim v acting.assisting 0 e) at (more_assisting v) in
            let least : saturate_signed w64 (d.least -ℤ pos acting.assisting) ≡ d.least -ℤ pos acting.assisting = near_exact (d.least -ℤ pos acting.assisting) (omega (arith, ints, assisting, assisting_in, few.0, few.1)) (omega (arith, ints, least_in)) in
            let greatest : saturate_signed w64 (d.greatest +ℤ pos acting.opposing) ≡ d.greatest +ℤ pos acting.opposing = near_exact (d.greatest +ℤ pos acting.opposing) (omega (arith, ints)) (omega (arith, ints, opposing, opposing_in, greatest_in, few.0, few.1)) in
            chosen_same acting.victim v (disturbed acting d) d e
            ∙ same_delays (disturbed acting d) d' (least ∙ omega (arith, ints, assisting)) (greatest ∙ omega (arith, ints, opposing))
        | inr e ↦
            let opposing : opposing_of (chosen T t.couplings) v ≡ opposing_of (chosen S t.couplings) v + 0 = rw (chosen_other acting.victim v acting.opposing 0 e) at (more_opposing v) in
            let assisting : assisting_of (chosen T t.couplings) v ≡ assisting_of (chosen S t.couplings) v + 0 = rw (chosen_other acting.victim v acting.assisting 0 e) at (more_assisting v) in
            chosen_other acting.victim v (disturbed acting d) d e ∙ same_delays d d' (omega (arith, ints, assisting)) (omega (arith, ints, opposing))
      ]

  -- no connection gains less
  gains_more : (k v : ℕ) → late_gain t S k v ≤ℤ late_gain t T k v
  gains_more k v = omega (arith, ints, more_opposing k)

-- A block is stale from now on with those that it leads to, and what was stale still is.
pub record Woken (leads : Leads) (b : ℕ) (was stale : Blocks) : Type 0 where
  pub awake : IsAwake leads stale b
  pub grows : (a : ℕ) → has_block was a ≡ true → has_block stale a ≡ true

-- a block is added to those that are stale, and those that it leads to
pub woken_by : (leads : Leads) (b : ℕ) (was mid stale : Blocks) → ((a : ℕ) → has_block mid a ≡ ((a == b) || has_block was a)) → ((a : ℕ) → has_block stale a ≡ (has_block mid a || has_block (led_from leads b) a)) → Woken leads b was stale
woken_by leads b was mid stale added led =
    let itself : has_block mid b ≡ true = added b ∙ grind (arith, nat_tests) in
    record {
      awake = record { itself = led b ∙ rw itself refl; led = λ a h. led a ∙ or_led (has_block mid a) (has_block (led_from leads b) a) h };
      grows = λ a h. let before : has_block mid a ≡ true = added a ∙ or_led (a == b) (has_block was a) h in led a ∙ rw before refl;
    }

module _ (n : Network) (few : n.size ≤ 4096) (sound : Sound n) (leads : Leads) (all : AllLeads n leads) (w : ℕ) (was stale : Blocks) (woken : Woken leads (block_of w) was stale) where
  -- a node of a block that is not stale after a node has woken others is not this node
  not_itself : (v : ℕ) → has_block stale (block_of v) ≡ false → w ≡ v → ⊥
  not_itself v h e = true≢false (sym woken.awake.itself ∙ (ap (λ u. has_block stale (block_of u)) e ∙ h))

  -- and is not connected from it
  not_led : (k v : ℕ) → Connected n k v → has_block stale (block_of v) ≡ false → w ≡ k → ⊥
  not_led k v c h e =
      let at = sound.sources k v c in
      let itself : has_block stale (block_of k) ≡ true = rw e at woken.awake.itself in
      let led : (a : ℕ) → has_block (led_from leads (block_of k)) a ≡ true → has_block stale a ≡ true = rw e at woken.awake.led in
      ⊎_elim
      (λ (own : (block_of k ≡ block_of v) × (k < v)). true≢false (sym itself ∙ (ap (has_block stale) own.0 ∙ h)))
      (λ (l : has_block (led_from leads (block_of k)) (block_of v) ≡ true). true≢false (sym (led (block_of v) l) ∙ h))
      (all k v c (omega arith) (omega arith))

  -- its block was not stale before
  not_before : (v : ℕ) → has_block stale (block_of v) ≡ false → has_block was (block_of v) ≡ false
  not_before v h =
      ⊎_elim
      (λ (b : has_block was (block_of v) ≡ true). absurd (true≢false (sym (woken.grows (block_of v) b) ∙ h)))
      (λ (b : has_block was (block_of v) ≡ false). b)
      (cases_Bool (has_block was (block_of v)))

module _ (clock : Clock) (nodes : List Node) (few : length nodes ≤ 4096) (sound : Sound (network nodes)) (leads : Leads) (all : AllLeads (network nodes) leads) (w : ℕ) (delays delays' : ℕ → Delays)
    (others : (v : ℕ) → v < length nodes → (w ≡ v → ⊥) → delays' v ≡ delays v) where
  -- what comes to a node of a block that is not stale is the same with the delays of the woken node changed
  same_comes : {F S : Type 0} (kind : Kind F S) (starts_with : Start → F) (between : Delays → Delays → ℤ → S) (was stale : Blocks) → Woken leads (block_of w) was stale → (starts column : ℕ → F) (v : ℕ) → v < length nodes → has_block stale (block_of v) ≡ false →
      arrival kind (network nodes) (course_over starts_with between clock nodes delays) starts column v ≡ arrival kind (network nodes) (course_over starts_with between clock nodes delays') starts column v
  same_comes kind starts_with between was stale woken starts column v lt h =
      arrival_agrees kind (network nodes) (course_over starts_with between clock nodes delays) (course_over starts_with between clock nodes delays') starts column v refl
      (λ k c.
      let from : delays' k ≡ delays k = others k (sound.sources k v c).0 (not_led (network nodes) few sound leads all w was stale woken k v c h) in
      let to : delays' v ≡ delays v = others v lt (not_itself (network nodes) few sound leads all w was stale woken v h) in
      rw (from, to) refl)

  -- so it stays at rest
  rest_still : {F S : Type 0} (kind : Kind F S) (starts_with : Start → F) (between : Delays → Delays → ℤ → S) (r : Restarts F) (was stale : Blocks) → Woken leads (block_of w) was stale → (leaves : ℕ → F) →
      RestBut kind (network nodes) (course_over starts_with between clock nodes delays) r leaves was → RestBut kind (network nodes) (course_over starts_with between clock nodes delays') r leaves stale
  rest_still kind starts_with between r was stale woken leaves f =
      record {
        rests = λ v lt h.
            let before = f.rests v lt (not_before (network nodes) few sound leads all w was stale woken v h) in
            let same = same_comes kind starts_with between was stale woken leaves leaves v lt h in
            record {
              latch = λ l. ap (r.climbs (leaves v)) (sym same) ∙ before.latch l;
              other = λ l. before.other l ∙ same;
            };
      }

-- what is carried once a coupling acts
pub carries_more : {room : ℕ} (t : Table) (S T : ℕ → Bool) (place : ℕ) (old new : Carried room) (k : Coupling) → Stands t → place < length t.couplings → S place ≡ false → WithOne place S T → k ≡ get_or t.couplings place no_coupling →
    length t.nodes ≤ room → Carries t S old →
    SameRows old.rows new.rows → new.leads ≡ old.leads → new.leaves ≡ old.leaves →
    ((v : ℕ) → v < room → delays_at new.delays.places v ≡ disturbed_at k v (delays_at old.delays.places v)) →
    Woken old.leads (block_of k.victim) old.stale new.stale → Carries t T new
carries_more t S T place old new k stands lt clear one is fits h rows leads leaves delays stale =
    let sound = stands_sound t stands in
    let few = (stands_says_latest t S stands).few in
    let others : (v : ℕ) → v < length t.nodes → (k.victim ≡ v → ⊥) → delays_at new.delays.places v ≡ delays_at old.delays.places v =
    λ v within ne. delays v (omega arith) ∙ chosen_other k.victim v (disturbed k (delays_at old.delays.places v)) (delays_at old.delays.places v) ne in
    record {
      rows = (rows.0 ∙ h.rows.0, rows.1 ∙ h.rows.1, rows.2 ∙ h.rows.2);
      leads = rw leads h.leads;
      delays = λ v within. delays v (omega arith) ∙ rw (h.delays v within, is) (delays_more t stands S T place lt clear one v within);
      near = rw leaves (near_grows (network t.nodes) (late_start t) (late_gain t S) (late_gain t T) 0 (λ v. (carried_at old v).latest) (gains_more t stands S T place lt clear one) h.near);
      opened = rw leaves h.opened;
      rest = rw leaves (rest_still t.clock t.nodes few sound old.leads h.leads k.victim (delays_at old.delays.places) (delays_at new.delays.places) others both_kind both_start both_between both_restarts old.stale new.stale stale (carried_at old) h.rest);
    }
