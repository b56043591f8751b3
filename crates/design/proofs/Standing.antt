-- Every table so far stands: a newly opened table stands, and a call, granted or refused, makes a table that stands of one that stands.
use Rattle.std.proofs.Common.{◌≡◌, ℕ, ◌+◌, ◌-◌, ◌<◌, ◌≤◌, true, false, ◌⊎◌, List, [], ◌∷◌, ◌++◌, length, get_or, set, replicate, Some, None, Option, refl, inl, inr, arith, rules}
use Rattle.std.proofs.lemmas.List.{get_or_append_left, get_or_push, length_push, get_or_past, get_or-set_same, get_or-set_other, length-set, take_at}
use Rattle.std.proofs.lemmas.Bool.Decides.{nat_tests}
use Rattle.std.proofs.lemmas.Bool.{not-false}
use Rattle.refusals.specs.declared.Refusal.{Refusal}
use Rattle.schedule.specs.Clock.{Clock, lawful, cleared}
use Rattle.schedule.proofs.Cleared.{cleared-lawful, cleared_again}
use Rattle.design.specs.declared.nodes.Node.{Node}
use Rattle.design.specs.declared.nodes.Node.TheVariants.{Free, Input, Gate, Latch}
use Rattle.design.specs.declared.couplings.Coupling.{Coupling}
use Rattle.design.specs.Rows.{sources_in, has_fan, gathered, is_node, is_victim, is_unfed, least_delay, fed_by, no_coupling, is_coupled, assisting_of}
use Rattle.design.specs.Table.{State, draft, sealed, Table, Lent, opening, lent_nodes, lent_couplings}
use Rattle.design.specs.Calls.{Ask, open_with, input, gate, latch, feed, couple, seal, reopen, retime}
use Rattle.design.specs.Tests.{is_other, refusal}
use Rattle.design.specs.Effects.{with_nodes, in_state, under, add_node, add_coupling, put, unless, step, after}
use Rattle.design.specs.SoFar.{RowStands, CouplingStands, NoPairTwice, NoneOver, Stands, Held}
use Rattle.design.proofs.Granted.{granted, one_more, all_nodes, all_couplings, taken_draft, there, none_at, assisting_push}

-- a place of a list with one more behind: one that was there, or the new one
push_cases : {X : Type 0} (P : ℕ → X → Type 0) (xs : List X) (x d : X) → ((k : ℕ) → k < length xs → P k (get_or xs k d)) → P (length xs) x → (k : ℕ) → k < length (xs ++ x ∷ []) → P k (get_or (xs ++ x ∷ []) k d)
push_cases P xs x d old new k lt = grind (arith, length_push, get_or_append_left, get_or_push)

-- a place of a list after a row of it was made another by a function of it: as it was, or what the function makes of it
set_cases : {X : Type 0} (P : X → Type 0) (f : X → X) (xs : List X) (to : ℕ) (d : X) → to < length xs → (k : ℕ) → P (get_or xs k d) → P (f (get_or xs k d)) → P (get_or (set xs to (f (get_or xs to d))) k d)
set_cases P f xs to d lt k old new = grind (arith, get_or-set_same, get_or-set_other)

-- a row stands in a table of no fewer nodes, under a clock of as many phases
row_kept : (c d : Clock) (n m k : ℕ) (x : Node) → c.phases ≡ d.phases → n ≤ m → RowStands c n k x → RowStands d m k x
row_kept c d n m k Free e le h = h
row_kept c d n m k (Input phase earliest latest) e le h = rw (← e) h
row_kept c d n m k (Gate phase least greatest sources) e le h = rw (← e) h
row_kept c d n m k (Latch phase least greatest setup hold None) e le h = rw (← e) h
row_kept c d n m k (Latch phase least greatest setup hold (Some source)) e le h = rw (← e) (h.0, h.1, h.2, omega arith)

-- a latch that is fed from a node that is there stands
row_fed : (c : Clock) (n k s : ℕ) (x : Node) → s < n → RowStands c n k x → RowStands c n k (fed_by s x)
row_fed c n k s Free lt h = h
row_fed c n k s (Input phase earliest latest) lt h = h
row_fed c n k s (Gate phase least greatest sources) lt h = h
row_fed c n k s (Latch phase least greatest setup hold source) lt h = (h.0, h.1, h.2, lt)

-- feeding a latch changes neither whether it can be a victim nor its least delay
fed_same : (s : ℕ) (x : Node) → (is_victim (fed_by s x) ≡ is_victim x) × (least_delay (fed_by s x) ≡ least_delay x)
fed_same s Free = (refl, refl)
fed_same s (Input phase earliest latest) = (refl, refl)
fed_same s (Gate phase least greatest sources) = (refl, refl)
fed_same s (Latch phase least greatest setup hold source) = (refl, refl)

-- a coupling stands beside one more node
coupling_grows : (xs : List Node) (x : Node) (k : Coupling) → CouplingStands xs k → CouplingStands (xs ++ x ∷ []) k
coupling_grows xs x k h = grind (arith, length_push, get_or_append_left)

-- one more node has no amounts yet, since no coupling was within a node that was not there
over_grows : (xs : List Node) (x : Node) (ks : List Coupling) → NoneOver xs ks → NoneOver (xs ++ x ∷ []) ks
over_grows xs x ks h v = grind (arith, get_or_append_left, get_or_past)

-- a table that stands with one more node that stands
node_added : (t : Table) (x : Node) → Stands t → t.state ≡ draft → length t.nodes < t.node_room → RowStands t.clock (length t.nodes + 1) (length t.nodes) x → Stands (add_node t x)
node_added t x h d room r =
    let long = length_push t.nodes x in
    let new : RowStands t.clock (length (t.nodes ++ x ∷ [])) (length t.nodes) x = rw long r in
    let rows = push_cases (RowStands t.clock (length (t.nodes ++ x ∷ []))) t.nodes x Free (λ k lt. row_kept t.clock t.clock (length t.nodes) (length (t.nodes ++ x ∷ [])) k (get_or t.nodes k Free) refl (omega arith) (h.rows k lt)) new in
    search (rules, rows, coupling_grows, over_grows)

-- a table that stands with a latch of it fed from a node that is there
latch_fed : (t : Table) (to source : ℕ) → Stands t → t.state ≡ draft → to < length t.nodes → source < length t.nodes → Stands (with_nodes t (set t.nodes to (fed_by source (get_or t.nodes to Free))))
latch_fed t to source h d at from =
    let new : List Node = set t.nodes to (fed_by source (get_or t.nodes to Free)) in
    let long : length new ≡ length t.nodes = length-set t.nodes to (fed_by source (get_or t.nodes to Free)) in
    let same : (k : ℕ) → (is_victim (get_or new k Free) ≡ is_victim (get_or t.nodes k Free)) × (least_delay (get_or new k Free) ≡ least_delay (get_or t.nodes k Free)) =
    λ k. set_cases (λ x. (is_victim x ≡ is_victim (get_or t.nodes k Free)) × (least_delay x ≡ least_delay (get_or t.nodes k Free))) (fed_by source) t.nodes to Free at k (refl, refl) (fed_same source (get_or t.nodes k Free)) in
    let rows : (k : ℕ) → k < length new → RowStands t.clock (length new) k (get_or new k Free) =
    rw long (λ k lt. set_cases (RowStands t.clock (length t.nodes) k) (fed_by source) t.nodes to Free at k (h.rows k lt) (row_fed t.clock (length t.nodes) k source (get_or t.nodes k Free) from (h.rows k lt))) in
    let pairs : (k : ℕ) → k < length t.couplings → CouplingStands new (get_or t.couplings k no_coupling) = λ k lt. rw (long, (same (get_or t.couplings k no_coupling).victim).0) (h.pairs k lt) in
    let within : NoneOver new t.couplings = λ v. omega (arith, (same v).1, h.within v) in
    search (rules, rows, pairs, within)

-- no pair twice in couplings with one more, of a pair that was not there
once_grows : (ks : List Coupling) (k : Coupling) → is_coupled ks k.victim k.aggressor ≡ false → NoPairTwice ks → NoPairTwice (ks ++ k ∷ [])
once_grows ks k new h i j lt le = grind (arith, nat_tests, length_push, get_or_append_left, get_or_push, none_at)

-- the assisting amounts with one more coupling, where those of its victim stay within the least delay
over_coupled : (xs : List Node) (ks : List Coupling) (k : Coupling) → assisting_of ks k.victim + k.assisting ≤ least_delay (get_or xs k.victim Free) → NoneOver xs ks → NoneOver xs (ks ++ k ∷ [])
over_coupled xs ks k le h v = grind (arith, nat_tests, assisting_push)

-- a table that stands with one more coupling that stands
coupling_added : (t : Table) (k : Coupling) → Stands t → length t.couplings < t.coupling_room → CouplingStands t.nodes k
    → is_coupled t.couplings k.victim k.aggressor ≡ false → assisting_of t.couplings k.victim + k.assisting ≤ least_delay (get_or t.nodes k.victim Free) → Stands (add_coupling t k)
coupling_added t k h room c new le = search (rules, length_push, push_cases (λ _ y. CouplingStands t.nodes y) t.couplings k no_coupling h.pairs c, once_grows, over_coupled)

-- a table that stands in another state, where no latch is unfed if that state is sealed
state_changed : (t : Table) (s : State) → Stands t → (s ≡ draft) ⊎ (s ≡ sealed) → (s ≡ sealed → (k : ℕ) → k < length t.nodes → is_unfed (get_or t.nodes k Free) ≡ false) → Stands (in_state s t)
state_changed t s h o f = search rules

-- a table that stands under another clock of as many phases
retimed : (t : Table) (c : Clock) → Stands t → t.clock.phases ≡ c.phases → lawful c ≡ true → Stands (under (cleared c) t)
retimed t c h e law = search (rules, cleared-lawful, cleared_again, row_kept)

-- a newly opened table stands
opening_stands : (c : Clock) (l : Lent) → lawful c ≡ true → cleared c ≡ c → Stands (opening c l)
opening_stands c l law clear = search rules

-- the sources that the row of a gate holds are those that were gathered
sources_gathered : (sources : List ℕ) → sources_in (gathered sources) ≡ sources
sources_gathered sources = take_at sources (replicate (4 - length sources) 0) (length sources) refl

-- What a granted call makes of a table that stands, stands: an opened table takes no opening, and each row has passed the tests of its call.
pub put_stands : (l : Lent) (t : Table) (c : Ask) → Stands t → refusal l t c ≡ None → Stands (put l t c)
put_stands l t (open_with clock) h free =
    let (order, _) = granted l t (open_with clock) free in
    elim h.opened [ inl s ↦ cc | inr s ↦ cc ]
put_stands l t (input phase earliest latest) h free =
    let (order, (full, _)) = granted l t (input phase earliest latest) free in
    node_added t (Input phase earliest latest) h (taken_draft t.state order) (one_more (length t.nodes) t.node_room h.node_count.0 full) (grind (arith, nat_tests))
put_stands l t (gate phase least greatest sources) h free =
    let (order, (full, (none, (span, (figure, (fan, (other, _))))))) = granted l t (gate phase least greatest sources) free in
    let row : RowStands t.clock (length t.nodes + 1) (length t.nodes) (Gate phase least greatest (gathered sources)) = rw (sources_gathered sources) (
      grind (arith, nat_tests),
      not-false (has_fan sources) fan,
      refl,
      λ i lt. there is_node l t (get_or sources i 0) (none_at (is_other is_node l t) sources 0 other i lt),
    ) in
    node_added t (Gate phase least greatest (gathered sources)) h (taken_draft t.state order) (one_more (length t.nodes) t.node_room h.node_count.0 full) row
put_stands l t (latch phase least greatest setup hold) h free =
    let (order, (full, _)) = granted l t (latch phase least greatest setup hold) free in
    node_added t (Latch phase least greatest setup hold None) h (taken_draft t.state order) (one_more (length t.nodes) t.node_room h.node_count.0 full) (grind (arith, nat_tests))
put_stands l t (feed to source) h free =
    let (order, (other, _)) = granted l t (feed to source) free in
    latch_fed t to source h (taken_draft t.state order) (grind (arith, nat_tests)) (grind (arith, nat_tests))
put_stands l t (couple victim aggressor assisting opposing) h free =
    let (_, (full, (figure, (other, (pair, (over, (short, _))))))) = granted l t (couple victim aggressor assisting opposing) free in
    let nodes : lent_nodes l t ≡ t.nodes = all_nodes l t 0 1 short in
    let couplings : lent_couplings l t ≡ t.couplings = all_couplings l t 0 1 short in
    let k : Coupling = record { victim = victim; aggressor = aggressor; assisting = assisting; opposing = opposing } in
    coupling_added t k h (one_more (length t.couplings) t.coupling_room h.coupling_count.0 full) (grind (arith, nat_tests)) (grind (arith, nat_tests)) (grind (arith, nat_tests))
put_stands l t seal h free =
    let (_, (unfed, (short, _))) = granted l t seal free in
    state_changed t sealed h (inr refl) (λ _. none_at is_unfed t.nodes Free (rw (all_nodes l t 0 0 short) at unfed))
put_stands l t reopen h free = state_changed t draft h (inl refl) (λ e k lt. cc)
put_stands l t (retime clock) h free =
    let (_, (none, _)) = granted l t (retime clock) free in
    retimed t clock h (grind (arith, nat_tests)) (grind (arith, nat_tests))

-- a refused call leaves the table, a granted one has passed every test
unless_by : (P : Table → Type 0) (o : Option Refusal) (new old : Table) → (o ≡ None → P new) → P old → P (unless o new old)
unless_by P None new old f p = f refl
unless_by P (Some why) new old f p = p

-- a call, granted or refused, makes a table that stands of one that stands
pub step_stands : (l : Lent) (t : Table) (c : Ask) → Stands t → Stands (step l t c)
step_stands l t c h = unless_by Stands (refusal l t c) (put l t c) t (put_stands l t c h) h

-- and so does a list of calls
pub after_stands : (t : Table) (ms : List (Lent × Ask)) → Stands t → Stands (after t ms)
after_stands t [] h = h
after_stands t (m ∷ ms) h = after_stands (step m.0 t m.1) ms (step_stands m.0 t m.1 h)

-- every table so far stands
pub all_stand : (clock : Clock) (lent : Lent) (calls : List (Lent × Ask)) → Held clock → Stands (after (opening clock lent) calls)
all_stand clock lent calls held = after_stands (opening clock lent) calls (opening_stands clock lent held.0 held.1)
