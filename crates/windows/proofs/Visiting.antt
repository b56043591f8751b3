-- Nodes visited in place, block by block, and which of them are at rest.
use Rattle.std.proofs.Common.{◌≡◌, ℕ, suc, ◌+◌, ◌<◌, ◌≤◌, Bool, true, false, cond, not, ◌&&◌, ◌||◌, ◌==◌, ◌⊎◌, List, length, set, sym, refl, ap, ◌∙◌, inl, inr, ⊎_elim, arith}
use Rattle.std.proofs.lemmas.List.{get_or-set_same, get_or-set_other, length-set}
use Rattle.std.proofs.lemmas.Bool.{cases_Bool, cases_lt, cases_eq, true≢false, ne_eqb, lt-ltb, le-ltb}
use Rattle.paths.specs.Networks.{Network, Connected, Sound}
use Rattle.paths.specs.Kinds.{Kind, Restarts}
use Rattle.paths.specs.Sweeps.{Course, leaving}
use Rattle.rings.specs.InPlace.{comes, visited, Visits, unvisited, visit, Rests}
use Rattle.windows.specs.declared.blocks.Blocks.{Blocks}
use Rattle.windows.specs.declared.blocks.Leads.{Leads}
use Rattle.windows.specs.Blocks.{block_of, nodes_before, has_block, led_from, AllLeads}
use Rattle.windows.specs.InPlace.{RestBut, read_at, VisitedInOrder}
use Rattle.windows.specs.Seen.{figure_at}
use Rattle.windows.proofs.Blocking.{below_next, or_led}
use Rattle.windows.proofs.Sweeping.{same_arrival, apart_in_block}

-- a node is left with the same figure whether it is a latch or not
left_in_place : {F : Type 0} (n : Network) (leaves : ℕ → F) (k : ℕ) → leaving n leaves leaves k ≡ leaves k
left_in_place n leaves k =
    ⊎_elim
    (λ (l : n.is_latch k ≡ true). rw l refl)
    (λ (l : n.is_latch k ≡ false). rw l refl)
    (cases_Bool (n.is_latch k))

-- of a node before the one that is visited it is read as what it is left now
read_before : {F : Type 0} (v k : ℕ) (old new : ℕ → F) → k < v → read_at v old new k ≡ new k
read_before v k old new lt = rw (lt-ltb k v lt) refl

-- and of any other as what it was left before
read_behind : {F : Type 0} (v k : ℕ) (old new : ℕ → F) → v ≤ k → read_at v old new k ≡ old k
read_behind v k old new le = rw (le-ltb k v le) refl

-- the same is read of a node where those before the one that is visited are left the same
same_read : {F : Type 0} (v k : ℕ) (old new new' : ℕ → F) → (k < v → new k ≡ new' k) → read_at v old new k ≡ read_at v old new' k
same_read v k old new new' h =
    ⊎_elim
    (λ (l : k < v). read_before v k old new l ∙ (h l ∙ sym (read_before v k old new' l)))
    (λ (l : v ≤ k). read_behind v k old new l ∙ sym (read_behind v k old new' l))
    (cases_lt k v)

module _ {F S : Type 0} (kind : Kind F S) (n : Network) (course : Course F S) where
  -- what comes to a node, where each of its sources is left with the same figure
  pub same_comes : (leaves leaves' : ℕ → F) (v : ℕ) → ((k : ℕ) → Connected n k v → leaves k ≡ leaves' k) → comes kind n course leaves v ≡ comes kind n course leaves' v
  same_comes leaves leaves' v h = same_arrival kind n course leaves leaves' leaves leaves' v (λ k c. left_in_place n leaves k ∙ (h k c ∙ sym (left_in_place n leaves' k)))

module _ {F S : Type 0} (kind : Kind F S) (n : Network) (course : Course F S) (r : Restarts F) where
  -- what a node is left with once it is visited, where it and each of its sources were left with the same figure
  pub same_visited : (leaves leaves' : ℕ → F) (v : ℕ) → ((k : ℕ) → Connected n k v → leaves k ≡ leaves' k) → leaves v ≡ leaves' v → visited kind n course r leaves v ≡ visited kind n course r leaves' v
  same_visited leaves leaves' v h e =
      ap (λ came. cond (n.is_latch v) (cond (r.climbs (leaves v) came) (r.restart (leaves v) came) (leaves v)) came) (same_comes kind n course leaves leaves' v h)
      ∙ ap (λ start. cond (n.is_latch v) (cond (r.climbs start (comes kind n course leaves' v)) (r.restart start (comes kind n course leaves' v)) start) (comes kind n course leaves' v)) e

  -- before the first node none is visited
  pub none_visited : (from to : ℕ) (old : List F) → from ≡ to → VisitedInOrder kind n course r from to old old false
  none_visited from to old e =
      record {
        long = refl;
        within = λ v le lt. absurd (omega arith);
        apart = λ v a. refl;
        same = λ f. refl;
        visits = (0, omega arith, unvisited (λ v lt. refl));
      }

  module _ {from w : ℕ} {old column : List F} {changed : Bool} (p : VisitedInOrder kind n course r from w old column changed) where
    -- one node more, which a visit leaves as it is
    pub one_the_same : from ≤ w → figure_at kind.no_path column w ≡ visited kind n course r (figure_at kind.no_path column) w → VisitedInOrder kind n course r from (w + 1) old column changed
    one_the_same le is =
        let as_read : (k : ℕ) → figure_at kind.no_path column k ≡ read_at w (figure_at kind.no_path old) (figure_at kind.no_path column) k =
        λ k.
        ⊎_elim
        (λ (l : k < w). sym (read_before w k (figure_at kind.no_path old) (figure_at kind.no_path column) l))
        (λ (l : w ≤ k). p.apart k (inr l) ∙ sym (read_behind w k (figure_at kind.no_path old) (figure_at kind.no_path column) l))
        (cases_lt k w) in
        record {
          long = p.long;
          within = λ v le' lt.
              ⊎_elim
              (λ (b : v < w). p.within v le' b)
              (λ (e : v ≡ w).
              rw e
              (is ∙ same_visited (figure_at kind.no_path column) (read_at w (figure_at kind.no_path old) (figure_at kind.no_path column)) w (λ k c. as_read k) (as_read w)))
              (below_next v w lt);
          apart = λ v a. p.apart v (⊎_elim (λ (l : v < from). inl l) (λ (l : w + 1 ≤ v). inr (omega arith)) a);
          same = p.same;
          visits = (p.visits.0, omega (arith, p.visits.1), p.visits.2);
        }

    -- one more that is written
    pub one_visited : from ≤ w → w < n.size → n.size ≤ length old → (x : F) → x ≡ visited kind n course r (figure_at kind.no_path column) w →
        VisitedInOrder kind n course r from (w + 1) old (set column w x) true
    one_visited le lt room x is =
        let within : w < length column = omega (arith, p.long, room, lt) in
        let others : (k : ℕ) → (k ≡ w → ⊥) → figure_at kind.no_path (set column w x) k ≡ figure_at kind.no_path column k = λ k ne. get_or-set_other column w k x kind.no_path ne in
        let here : figure_at kind.no_path (set column w x) w ≡ visited kind n course r (figure_at kind.no_path column) w = get_or-set_same column w x kind.no_path within ∙ is in
        let as_read : (k : ℕ) → figure_at kind.no_path column k ≡ read_at w (figure_at kind.no_path old) (figure_at kind.no_path (set column w x)) k =
        λ k.
        ⊎_elim
        (λ (l : k < w). sym (others k (λ e. omega arith)) ∙ sym (read_before w k (figure_at kind.no_path old) (figure_at kind.no_path (set column w x)) l))
        (λ (l : w ≤ k). p.apart k (inr l) ∙ sym (read_behind w k (figure_at kind.no_path old) (figure_at kind.no_path (set column w x)) l))
        (cases_lt k w) in
        let still_read : (v k : ℕ) → v < w → read_at v (figure_at kind.no_path old) (figure_at kind.no_path column) k ≡ read_at v (figure_at kind.no_path old) (figure_at kind.no_path (set column w x)) k =
        λ v k b. same_read v k (figure_at kind.no_path old) (figure_at kind.no_path column) (figure_at kind.no_path (set column w x)) (λ l. sym (others k (λ e. omega arith))) in
        record {
          long = length-set column w x ∙ p.long;
          within = λ v le' lt'.
              ⊎_elim
              (λ (b : v < w).
              others v (λ e. omega arith)
              ∙ (p.within v le' b
              ∙ same_visited (read_at v (figure_at kind.no_path old) (figure_at kind.no_path column)) (read_at v (figure_at kind.no_path old) (figure_at kind.no_path (set column w x))) v (λ k c. still_read v k b) (still_read v v b)))
              (λ (e : v ≡ w).
              rw e
              (here ∙ same_visited (figure_at kind.no_path column) (read_at w (figure_at kind.no_path old) (figure_at kind.no_path (set column w x))) w (λ k c. as_read k) (as_read w)))
              (below_next v w lt');
          apart = λ v a.
              let ne : v ≡ w → ⊥ = ⊎_elim (λ (l : v < from) (e : v ≡ w). omega arith) (λ (l : w + 1 ≤ v) (e : v ≡ w). omega arith) a in
              others v ne ∙ p.apart v (⊎_elim (λ (l : v < from). inl l) (λ (l : w + 1 ≤ v). inr (omega arith)) a);
          same = λ e. absurd (true≢false e);
          visits = (suc p.visits.0, omega (arith, p.visits.1), visit p.visits.2 w lt here (λ u lt' ne. others u ne));
        }

  -- visits which leave nodes with these figures leave them with the same figures
  visits_same : {k : ℕ} {old mid new : ℕ → F} → Visits kind n course r k old mid → ((v : ℕ) → v < n.size → new v ≡ mid v) → Visits kind n course r k old new
  visits_same (unvisited h) e = unvisited (λ v lt. e v lt ∙ h v lt)
  visits_same (visit before v lt is others) e = visit before v lt (e v lt ∙ is) (λ u lt' ne. e u lt' ∙ others u lt' ne)

  -- visits after others
  pub visits_more : {j k : ℕ} {old mid new : ℕ → F} → Visits kind n course r j old mid → Visits kind n course r k mid new → (count : ℕ) × (count ≡ j + k) × Visits kind n course r count old new
  visits_more {j} before (unvisited h) = (j, omega arith, visits_same before h)
  visits_more before (visit after v lt is others) =
      let more = visits_more before after in
      (suc more.0, omega (arith, more.1), visit more.2 v lt is others)

  -- a node is at rest once it has been visited, where its sources are still left with what was read of them
  rest_visited : ((start arrival : F) → r.climbs start arrival ≡ true → r.climbs (r.restart start arrival) arrival ≡ false) → (read new : ℕ → F) (v : ℕ) →
      ((k : ℕ) → Connected n k v → read k ≡ new k) → new v ≡ visited kind n course r read v → Rests kind n course r new v
  rest_visited law read new v same is =
      let came : comes kind n course read v ≡ comes kind n course new v = same_comes kind n course read new v same in
      record {
        latch = λ l.
            ⊎_elim
            (λ (c : r.climbs (read v) (comes kind n course read v) ≡ true).
            let e : new v ≡ r.restart (read v) (comes kind n course read v) = is ∙ rw (l, c) refl in
            ap (λ start. r.climbs start (comes kind n course new v)) e
            ∙ (ap (r.climbs (r.restart (read v) (comes kind n course read v))) (sym came) ∙ law (read v) (comes kind n course read v) c))
            (λ (c : r.climbs (read v) (comes kind n course read v) ≡ false).
            let e : new v ≡ read v = is ∙ rw (l, c) refl in
            ap (λ start. r.climbs start (comes kind n course new v)) e ∙ (ap (r.climbs (read v)) (sym came) ∙ c))
            (cases_Bool (r.climbs (read v) (comes kind n course read v)));
        other = λ l. let e : new v ≡ comes kind n course read v = is ∙ rw l refl in e ∙ came;
      }

  -- a node at rest stays so where it and its sources are left as before
  rest_kept : (old new : ℕ → F) (v : ℕ) → new v ≡ old v → ((k : ℕ) → Connected n k v → new k ≡ old k) → Rests kind n course r old v → Rests kind n course r new v
  rest_kept old new v e same rest =
      let came : comes kind n course new v ≡ comes kind n course old v = same_comes kind n course new old v same in
      record {
        latch = λ l. ap (λ start. r.climbs start (comes kind n course new v)) e ∙ (ap (r.climbs (old v)) came ∙ rest.latch l);
        other = λ l. e ∙ (rest.other l ∙ sym came);
      }

  -- Once a block has been visited its nodes are at rest, and others still are, but for those of stale blocks: a block is stale if nodes in it may have been visited before a source that changed.
  block_rests : ((start arrival : F) → r.climbs start arrival ≡ true → r.climbs (r.restart start arrival) arrival ≡ false) → {stale stale' : Blocks} {old new : List F} {changed : Bool} (b : ℕ) →
      VisitedInOrder kind n course r (nodes_before n.size b) (nodes_before n.size (b + 1)) old new changed →
      ((a : ℕ) → (a ≡ b → ⊥) → has_block stale' a ≡ false → has_block stale a ≡ false) →
      ((k v : ℕ) → v < n.size → Connected n k v → block_of k ≡ b → has_block stale' (block_of v) ≡ false → ((block_of k ≡ block_of v) × (k < v)) ⊎ (figure_at kind.no_path new k ≡ figure_at kind.no_path old k)) →
      RestBut kind n course r (figure_at kind.no_path old) stale → RestBut kind n course r (figure_at kind.no_path new) stale'
  block_rests law {stale} {stale'} {old} {new} b p others quiet rest =
      let elsewhere : (v : ℕ) → (block_of v ≡ b → ⊥) → figure_at kind.no_path new v ≡ figure_at kind.no_path old v = λ v ne. p.apart v (apart_in_block n.size b v ne) in
      let as_left : (k v : ℕ) → v < n.size → Connected n k v → has_block stale' (block_of v) ≡ false → block_of v ≡ b → read_at v (figure_at kind.no_path old) (figure_at kind.no_path new) k ≡ figure_at kind.no_path new k =
      λ k v lt c h e.
      ⊎_elim
      (λ (l : k < v). read_before v k (figure_at kind.no_path old) (figure_at kind.no_path new) l)
      (λ (l : v ≤ k).
      read_behind v k (figure_at kind.no_path old) (figure_at kind.no_path new) l
      ∙ sym
      (⊎_elim
      (λ (i : block_of k ≡ b).
      ⊎_elim
      (λ (behind : (block_of k ≡ block_of v) × (k < v)). absurd (omega (arith, l, behind.1)))
      (λ (s : figure_at kind.no_path new k ≡ figure_at kind.no_path old k). s)
      (quiet k v lt c i h))
      (λ (ne : block_of k ≡ b → ⊥). elsewhere k ne)
      (cases_eq (block_of k) b)))
      (cases_lt k v) in
      let as_before : (k v : ℕ) → v < n.size → Connected n k v → has_block stale' (block_of v) ≡ false → (block_of v ≡ b → ⊥) → figure_at kind.no_path new k ≡ figure_at kind.no_path old k =
      λ k v lt c h ne.
      ⊎_elim
      (λ (i : block_of k ≡ b).
      ⊎_elim
      (λ (behind : (block_of k ≡ block_of v) × (k < v)). absurd (ne (sym behind.0 ∙ i)))
      (λ (s : figure_at kind.no_path new k ≡ figure_at kind.no_path old k). s)
      (quiet k v lt c i h))
      (λ (ne' : block_of k ≡ b → ⊥). elsewhere k ne')
      (cases_eq (block_of k) b) in
      record {
        rests = λ v lt h.
            ⊎_elim
            (λ (e : block_of v ≡ b).
            rest_visited law (read_at v (figure_at kind.no_path old) (figure_at kind.no_path new)) (figure_at kind.no_path new) v
            (λ k c. as_left k v lt c h e) (p.within v (omega arith) (omega arith)))
            (λ (ne : block_of v ≡ b → ⊥).
            rest_kept (figure_at kind.no_path old) (figure_at kind.no_path new) v (elsewhere v ne)
            (λ k c. as_before k v lt c h ne) (rest.rests v lt (others (block_of v) ne h)))
            (cases_eq (block_of v) b);
      }

-- a set without a block has every other as before
out_of : (a b : ℕ) (m : Bool) → (a ≡ b → ⊥) → (not (a == b) && m) ≡ false → m ≡ false
out_of a b m ne h = let h' : (not false && m) ≡ false = rw (ne_eqb a b ne) at h in h'

-- a set with others added has what it had
or_had : (a b : Bool) → (a || b) ≡ false → a ≡ false
or_had true b h = h
or_had false b h = refl

module _ {F S : Type 0} (kind : Kind F S) (n : Network) (course : Course F S) (r : Restarts F)
    (law : (start arrival : F) → r.climbs start arrival ≡ true → r.climbs (r.restart start arrival) arrival ≡ false) where
  -- a block that was visited is not stale, where no figure changed
  pub rest_unchanged : (stale mid : Blocks) {old new : List F} {changed : Bool} (b : ℕ) →
      VisitedInOrder kind n course r (nodes_before n.size b) (nodes_before n.size (b + 1)) old new changed → changed ≡ false →
      ((a : ℕ) → has_block mid a ≡ (not (a == b) && has_block stale a)) →
      RestBut kind n course r (figure_at kind.no_path old) stale → RestBut kind n course r (figure_at kind.no_path new) mid
  rest_unchanged stale mid b p unchanged removed =
      block_rests kind n course r law b p
      (λ a ne h. out_of a b (has_block stale a) ne (sym (removed a) ∙ h))
      (λ k v lt c e h. inr (ap (λ leaves. figure_at kind.no_path leaves k) (p.same unchanged)))

  -- where some changed, the blocks that it leads to are stale
  pub rest_changed : (stale mid stale' : Blocks) {old new : List F} {changed : Bool} (leads : Leads) (b : ℕ) → n.size ≤ 4096 → AllLeads n leads → Sound n →
      VisitedInOrder kind n course r (nodes_before n.size b) (nodes_before n.size (b + 1)) old new changed →
      ((a : ℕ) → has_block mid a ≡ (not (a == b) && has_block stale a)) →
      ((a : ℕ) → has_block stale' a ≡ (has_block mid a || has_block (led_from leads b) a)) →
      RestBut kind n course r (figure_at kind.no_path old) stale → RestBut kind n course r (figure_at kind.no_path new) stale'
  rest_changed stale mid stale' leads b few all sound p removed woken =
      block_rests kind n course r law b p
      (λ a ne h. out_of a b (has_block stale a) ne (sym (removed a) ∙ or_had (has_block mid a) (has_block (led_from leads b) a) (sym (woken a) ∙ h)))
      (λ k v lt c e h.
      ⊎_elim
      (λ (behind : (block_of k ≡ block_of v) × (k < v)). inl behind)
      (λ (l : has_block (led_from leads (block_of k)) (block_of v) ≡ true).
      let led : has_block (led_from leads b) (block_of v) ≡ true = rw e at l in
      absurd (true≢false (sym (woken (block_of v) ∙ or_led (has_block mid (block_of v)) (has_block (led_from leads b) (block_of v)) led) ∙ h)))
      (all k v c (omega (arith, (sound.sources k v c).0, few)) (omega arith)))
