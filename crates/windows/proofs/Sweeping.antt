-- What one sweep writes into its column.
use Rattle.std.proofs.Common.{◌≡◌, ℕ, ◌+◌, ◌<◌, ◌≤◌, Bool, true, false, not, ◌||◌, ◌⊎◌, List, [], ◌∷◌, Option, length, get_or, set, drop, map, sym, refl, ap, ◌∙◌, inl, inr, ⊎_elim, arith}
use Rattle.std.proofs.lemmas.List.{drop_more, drop-set-lt, get_or-set_same, get_or-set_other, length-set}
use Rattle.std.proofs.lemmas.Bool.{cases_Bool, cases_lt, cases_eq, true≢false}
use Rattle.paths.specs.Networks.{Network, IsIn, Connected, Sound}
use Rattle.paths.specs.Kinds.{Kind, Lawful, joined}
use Rattle.paths.specs.Sweeps.{Course, leaving, own, along, arrival}
use Rattle.windows.specs.declared.blocks.Blocks.{Blocks}
use Rattle.windows.specs.declared.blocks.Leads.{Leads}
use Rattle.windows.specs.Blocks.{block_of, nodes_before, has_block, led_from, IsNext, AllLeads, IsFresh, FreshBut, KeptBut, Filled}
use Rattle.windows.specs.Seen.{figure_at}
use Rattle.windows.proofs.Blocking.{below_next, reached, passed_next, or_led}

-- joining what comes along one more connection leaves one fewer to join
pub join_next : {F S : Type 0} (kind : Kind F S) → Lawful kind → (f : ℕ → F) (figure a : F) (xs : List ℕ) (i : ℕ) → i < length xs →
    kind.join figure (joined kind (map f (drop i xs))) ≡ a →
    kind.join (kind.join figure (f (get_or xs i 0))) (joined kind (map f (drop (i + 1) xs))) ≡ a
join_next kind laws f figure a xs i lt e =
    let d = drop_more xs i 0 lt in
    let e' : kind.join figure (kind.join (f (get_or xs i 0)) (joined kind (map f (drop (i + 1) xs)))) ≡ a = rw d at e in
    laws.regroups figure (f (get_or xs i 0)) (joined kind (map f (drop (i + 1) xs))) ∙ e'

module _ {F S : Type 0} (kind : Kind F S) (n : Network) (course : Course F S) where
  -- what comes along connections from a list of nodes, where each of these is left with the same figure
  same_along : (starts starts' column column' : ℕ → F) (v : ℕ) (ks : List ℕ) → ((k : ℕ) → IsIn k ks → leaving n starts column k ≡ leaving n starts' column' k) →
      joined kind (map (along kind n course starts column v) ks) ≡ joined kind (map (along kind n course starts' column' v) ks)
  same_along starts starts' column column' v [] h = refl
  same_along starts starts' column column' v (k ∷ ks) h =
      let rest = same_along starts starts' column column' v ks (λ u i. h u (inr i)) in
      ap (λ f. kind.join (kind.step f (course.step k v)) (joined kind (map (along kind n course starts column v) ks))) (h k (inl refl))
      ∙ ap (kind.join (along kind n course starts' column' v k)) rest

  -- the figure that comes to a node, where each of its sources is left with the same figure
  pub same_arrival : (starts starts' column column' : ℕ → F) (v : ℕ) → ((k : ℕ) → Connected n k v → leaving n starts column k ≡ leaving n starts' column' k) →
      arrival kind n course starts column v ≡ arrival kind n course starts' column' v
  same_arrival starts starts' column column' v h = ap (kind.join (own kind n course v)) (same_along starts starts' column column' v (n.sources v) h)

-- a latch is not no latch
not_both : (b : Bool) → b ≡ not b → ⊥
not_both true e = true≢false e
not_both false e = true≢false (sym e)

-- a node is left with the same figure over two columns that agree there if it is no latch
same_leaving : {F : Type 0} (n : Network) (starts column column' : ℕ → F) (k : ℕ) → (n.is_latch k ≡ false → column k ≡ column' k) → leaving n starts column k ≡ leaving n starts column' k
same_leaving n starts column column' k h =
    ⊎_elim
    (λ (l : n.is_latch k ≡ true). rw l refl)
    (λ (l : n.is_latch k ≡ false). rw l (h l))
    (cases_Bool (n.is_latch k))

module _ {F S : Type 0} (kind : Kind F S) (n : Network) (course : Course F S) (starts : ℕ → F) where
  -- a node that is as before stays fresh where its sources that are no latches are as before
  stays_fresh : (old new : ℕ → F) (v : ℕ) → new v ≡ old v → ((k : ℕ) → Connected n k v → n.is_latch k ≡ false → new k ≡ old k) → IsFresh kind n course starts old v → IsFresh kind n course starts new v
  stays_fresh old new v e h fresh =
      e ∙ (fresh ∙ sym (same_arrival kind n course starts starts new old v (λ k c. same_leaving n starts new old k (h k c))))

  module _ {latches : Bool} {from w : ℕ} {old column : List F} (f : Filled kind n course starts latches from w old column) where
    -- one node more, which is not to be filled or is fresh as it is
    pub one_as_it_is : (n.is_latch w ≡ latches → IsFresh kind n course starts (figure_at kind.no_path column) w) → Filled kind n course starts latches from (w + 1) old column
    one_as_it_is fresh =
        record {
          long = f.long;
          beyond = f.beyond;
          set = λ sound v le lt l.
              ⊎_elim
              (λ (b : v < w). f.set sound v le b l)
              (λ (e : v ≡ w). rw e (fresh (rw e at l)))
              (below_next v w lt);
          apart = λ v a. f.apart v (⊎_elim (λ (l : v < from). inl l) (λ (l : w + 1 ≤ v). inr (omega arith)) a);
          others = f.others;
        }

    -- one more that is written: a latch, or a node behind the others that are filled, which are no latches
    pub one_written : from ≤ w → w < n.size → n.size ≤ length old → n.is_latch w ≡ latches → (x : F) → x ≡ arrival kind n course starts (figure_at kind.no_path column) w →
        Filled kind n course starts latches from (w + 1) old (set column w x)
    one_written le lt room latch x is =
        let within : w < length column = omega (arith, f.long, room, lt) in
        let apart_from : Sound n → (v : ℕ) → n.is_latch v ≡ latches → v ≤ w → (k : ℕ) → Connected n k v → n.is_latch k ≡ false → k ≡ w → ⊥ =
        λ sound v l le' k c l' e.
        ⊎_elim
        (λ (t : latches ≡ true). true≢false (sym t ∙ (sym latch ∙ (ap n.is_latch (sym e) ∙ l'))))
        (λ (t : latches ≡ false). let before = sound.order k v c (l ∙ t) in omega arith)
        (cases_Bool latches) in
        let unchanged : Sound n → (v : ℕ) → n.is_latch v ≡ latches → v ≤ w → (k : ℕ) → Connected n k v → n.is_latch k ≡ false → figure_at kind.no_path (set column w x) k ≡ figure_at kind.no_path column k =
        λ sound v l le' k c l'. get_or-set_other column w k x kind.no_path (apart_from sound v l le' k c l') in
        record {
          long = length-set column w x ∙ f.long;
          beyond = drop-set-lt n.size column w x lt ∙ f.beyond;
          set = λ sound v le' lt' l.
              ⊎_elim
              (λ (b : v < w).
              let e : figure_at kind.no_path (set column w x) v ≡ figure_at kind.no_path column v = get_or-set_other column w v x kind.no_path (λ (e : v ≡ w). omega arith) in
              stays_fresh (figure_at kind.no_path column) (figure_at kind.no_path (set column w x)) v e (unchanged sound v l (omega arith)) (f.set sound v le' b l))
              (λ (e : v ≡ w).
              rw e
              (get_or-set_same column w x kind.no_path within
              ∙ (is ∙ sym (same_arrival kind n course starts starts (figure_at kind.no_path (set column w x)) (figure_at kind.no_path column) w
              (λ k c. same_leaving n starts (figure_at kind.no_path (set column w x)) (figure_at kind.no_path column) k (unchanged sound w latch (omega arith) k c))))))
              (below_next v w lt');
          apart = λ v a.
              let ne : v ≡ w → ⊥ = ⊎_elim (λ (l : v < from) (e : v ≡ w). omega arith) (λ (l : w + 1 ≤ v) (e : v ≡ w). omega arith) a in
              get_or-set_other column w v x kind.no_path ne ∙ f.apart v (⊎_elim (λ (l : v < from). inl l) (λ (l : w + 1 ≤ v). inr (omega arith)) a);
          others = λ v l.
              let ne : v ≡ w → ⊥ = λ (e : v ≡ w). not_both latches (sym latch ∙ (ap n.is_latch (sym e) ∙ l)) in
              get_or-set_other column w v x kind.no_path ne ∙ f.others v l;
        }

-- a node of another block stands apart from those of a block
pub apart_in_block : (size b v : ℕ) → (block_of v ≡ b → ⊥) → (v < nodes_before size b) ⊎ (nodes_before size (b + 1) ≤ v)
apart_in_block size b v ne =
    ⊎_elim
    (λ (l : v < nodes_before size b). inl l)
    (λ (l : nodes_before size b ≤ v).
    ⊎_elim
    (λ (m : v < nodes_before size (b + 1)). let e : block_of v ≡ b = omega arith in absurd (ne e))
    (λ (m : nodes_before size (b + 1) ≤ v). inr m)
    (cases_lt v (nodes_before size (b + 1))))
    (cases_lt v (nodes_before size b))

-- the blocks that are stale
not_stale : (was stale : Blocks) → ((b : ℕ) → has_block was b ≡ true → has_block stale b ≡ true) → (b : ℕ) → has_block stale b ≡ false → has_block was b ≡ false
not_stale was stale grows b h =
    ⊎_elim
    (λ (t : has_block was b ≡ true). absurd (true≢false (sym (grows b t) ∙ h)))
    (λ (f : has_block was b ≡ false). f)
    (cases_Bool (has_block was b))

module _ {F S : Type 0} (kind : Kind F S) (n : Network) (course : Course F S) (starts : ℕ → F) where
  -- a column in which the nodes of which `done` is true are fresh, and those of blocks that are not stale
  pub record Filling (done : ℕ → Type 0) (was stale : Blocks) (old column : List F) : Type 0 where
    pub long : length column ≡ length old
    pub beyond : drop n.size column ≡ drop n.size old
    pub others : KeptBut kind.no_path was stale old column
    pub fresh : Sound n → FreshBut kind n course starts (figure_at kind.no_path old) was → (v : ℕ) → v < n.size → done v ⊎ (has_block stale (block_of v) ≡ false) → IsFresh kind n course starts (figure_at kind.no_path column) v

  -- blocks that are not stale are passed over
  pub blocks_passed : {done done' : ℕ → Type 0} {was stale : Blocks} {old column : List F} → Filling done was stale old column →
      ((v : ℕ) → done' v → done v ⊎ (has_block stale (block_of v) ≡ false)) → Filling done' was stale old column
  blocks_passed {done} {done'} {was} {stale} f more =
      record {
        long = f.long;
        beyond = f.beyond;
        others = f.others;
        fresh = λ sound fresh v lt d.
            f.fresh sound fresh v lt (⊎_elim (λ (d : done' v). more v d) (λ (h : has_block stale (block_of v) ≡ false). inr h) d);
      }

  -- all but the latches of a stale block are filled, after those of the blocks before it
  pub others_filled : {was stale stale' : Blocks} {old column column' : List F} (b : ℕ) → Filling (λ v. (n.is_latch v ≡ false) × (block_of v < b)) was stale old column →
      has_block stale b ≡ true → Filled kind n course starts false (nodes_before n.size b) (nodes_before n.size (b + 1)) column column' →
      ((a : ℕ) → has_block stale a ≡ true → has_block stale' a ≡ true) →
      ((k v : ℕ) → k < n.size → v < n.size → Connected n k v → block_of k ≡ b → has_block stale' (block_of v) ≡ false → figure_at kind.no_path column' k ≡ figure_at kind.no_path column k) →
      Filling (λ v. (n.is_latch v ≡ false) × (block_of v < b + 1)) was stale' old column'
  others_filled {was} {stale} {stale'} {old} {column} {column'} b f busy filled grows quiet =
      let elsewhere : (v : ℕ) → (block_of v ≡ b → ⊥) → figure_at kind.no_path column' v ≡ figure_at kind.no_path column v = λ v ne. filled.apart v (apart_in_block n.size b v ne) in
      let in_another : (v : ℕ) → has_block stale' (block_of v) ≡ false → block_of v ≡ b → ⊥ =
      λ v h e. true≢false (sym (grows b busy) ∙ (ap (has_block stale') (sym e) ∙ h)) in
      record {
        long = filled.long ∙ f.long;
        beyond = filled.beyond ∙ f.beyond;
        others =
            record {
              grows = λ a h. grows a (f.others.grows a h);
              kept = λ v h. elsewhere v (in_another v h) ∙ f.others.kept v (not_stale stale stale' grows (block_of v) h);
            };
        fresh = λ sound fresh v lt d.
            let before : (k : ℕ) → n.is_latch v ≡ false → block_of v < b → Connected n k v → block_of k ≡ b → ⊥ = λ k l below c e. let o = sound.order k v c l in omega arith in
            ⊎_elim
            (λ (d : (n.is_latch v ≡ false) × (block_of v < b + 1)).
            ⊎_elim
            (λ (below : block_of v < b).
            stays_fresh kind n course starts (figure_at kind.no_path column) (figure_at kind.no_path column') v (elsewhere v (λ (e : block_of v ≡ b). omega arith))
            (λ k c l. elsewhere k (before k d.0 below c)) (f.fresh sound fresh v lt (inl (d.0, below))))
            (λ (e : block_of v ≡ b). filled.set sound v (omega arith) (omega arith) d.0)
            (below_next (block_of v) b d.1))
            (λ (h : has_block stale' (block_of v) ≡ false).
            stays_fresh kind n course starts (figure_at kind.no_path column) (figure_at kind.no_path column') v (elsewhere v (in_another v h))
            (λ k c l.
            ⊎_elim
            (λ (e : block_of k ≡ b). quiet k v (sound.sources k v c).0 lt c e h)
            (λ (ne : block_of k ≡ b → ⊥). elsewhere k ne)
            (cases_eq (block_of k) b))
            (f.fresh sound fresh v lt (inr (not_stale stale stale' grows (block_of v) h))))
            d;
      }

  -- a block whose others have changed wakes those that it leads to
  pub others_changed : {was stale stale' : Blocks} {old column column' : List F} (leads : Leads) (b : ℕ) → n.size ≤ 4096 → AllLeads n leads → Filling (λ v. (n.is_latch v ≡ false) × (block_of v < b)) was stale old column →
      has_block stale b ≡ true → Filled kind n course starts false (nodes_before n.size b) (nodes_before n.size (b + 1)) column column' →
      ((a : ℕ) → has_block stale' a ≡ (has_block stale a || has_block (led_from leads b) a)) →
      Filling (λ v. (n.is_latch v ≡ false) × (block_of v < b + 1)) was stale' old column'
  others_changed {was} {stale} {stale'} {old} {column} {column'} leads b few all f busy filled woken =
      let led : (k v : ℕ) → k < n.size → v < n.size → Connected n k v → block_of k ≡ b → has_block stale' (block_of v) ≡ true =
      λ k v lk lv c e.
      ⊎_elim
      (λ (behind : (block_of k ≡ block_of v) × (k < v)). woken (block_of v) ∙ rw (sym behind.0, e, busy) refl)
      (λ (l : has_block (led_from leads (block_of k)) (block_of v) ≡ true). woken (block_of v) ∙ or_led (has_block stale (block_of v)) (has_block (led_from leads b) (block_of v)) (rw e at l))
      (all k v c (omega arith) (omega arith)) in
      others_filled b f busy filled
      (λ a h. woken a ∙ rw h refl)
      (λ k v lk lv c e h. absurd (true≢false (sym (led k v lk lv c e) ∙ h)))

  -- the latches of a stale block are filled
  pub latches_filled : {was stale : Blocks} {old column column' : List F} (b : ℕ) → Filling (λ v. (n.is_latch v ≡ false) ⊎ (block_of v < b)) was stale old column →
      has_block stale b ≡ true → Filled kind n course starts true (nodes_before n.size b) (nodes_before n.size (b + 1)) column column' →
      Filling (λ v. (n.is_latch v ≡ false) ⊎ (block_of v < b + 1)) was stale old column'
  latches_filled {was} {stale} {old} {column} {column'} b f busy filled =
      let elsewhere : (v : ℕ) → (block_of v ≡ b → ⊥) → figure_at kind.no_path column' v ≡ figure_at kind.no_path column v = λ v ne. filled.apart v (apart_in_block n.size b v ne) in
      let in_another : (v : ℕ) → has_block stale (block_of v) ≡ false → block_of v ≡ b → ⊥ = λ v h e. true≢false (sym busy ∙ (ap (has_block stale) (sym e) ∙ h)) in
      let kept : (v : ℕ) → figure_at kind.no_path column' v ≡ figure_at kind.no_path column v → IsFresh kind n course starts (figure_at kind.no_path column) v → IsFresh kind n course starts (figure_at kind.no_path column') v =
      λ v e. stays_fresh kind n course starts (figure_at kind.no_path column) (figure_at kind.no_path column') v e (λ k c l. filled.others k l) in
      record {
        long = filled.long ∙ f.long;
        beyond = filled.beyond ∙ f.beyond;
        others =
            record {
              grows = f.others.grows;
              kept = λ v h. elsewhere v (in_another v h) ∙ f.others.kept v h;
            };
        fresh = λ sound fresh v lt d.
            ⊎_elim
            (λ (l : n.is_latch v ≡ false). kept v (filled.others v l) (f.fresh sound fresh v lt (inl (inl l))))
            (λ (r : (block_of v < b + 1) ⊎ (has_block stale (block_of v) ≡ false)).
            ⊎_elim
            (λ (l : n.is_latch v ≡ true).
            ⊎_elim
            (λ (e : block_of v ≡ b). filled.set sound v (omega arith) (omega arith) l)
            (λ (ne : block_of v ≡ b → ⊥).
            kept v (elsewhere v ne)
            (f.fresh sound fresh v lt
            (⊎_elim
            (λ (below : block_of v < b + 1). let under : block_of v < b = omega arith in inl (inr under))
            (λ (h : has_block stale (block_of v) ≡ false). inr h)
            r)))
            (cases_eq (block_of v) b))
            (λ (l : n.is_latch v ≡ false). kept v (filled.others v l) (f.fresh sound fresh v lt (inl (inl l))))
            (cases_Bool (n.is_latch v)))
            (⊎_elim
            (λ (d : (n.is_latch v ≡ false) ⊎ (block_of v < b + 1)). ⊎_elim (λ (l : n.is_latch v ≡ false). inl l) (λ (below : block_of v < b + 1). inr (inl below)) d)
            (λ (h : has_block stale (block_of v) ≡ false). inr (inr h))
            d);
      }

  -- the blocks up to the next stale one are passed over, in the first turn
  pub others_passed : {was stale : Blocks} {old column : List F} (from to : ℕ) (o : Option ℕ) → IsNext stale from to o → Filling (λ v. (n.is_latch v ≡ false) × (block_of v < from)) was stale old column →
      Filling (λ v. (n.is_latch v ≡ false) × (block_of v < reached to o)) was stale old column
  others_passed {was} {stale} from to o next f =
      blocks_passed f
      (λ v d. ⊎_elim (λ (l : block_of v < from). inl (d.0, l)) (λ (h : has_block stale (block_of v) ≡ false). inr h) (passed_next stale from to o next (block_of v) d.1))

  -- and in the second
  pub latches_passed : {was stale : Blocks} {old column : List F} (from to : ℕ) (o : Option ℕ) → IsNext stale from to o → Filling (λ v. (n.is_latch v ≡ false) ⊎ (block_of v < from)) was stale old column →
      Filling (λ v. (n.is_latch v ≡ false) ⊎ (block_of v < reached to o)) was stale old column
  latches_passed {was} {stale} from to o next f =
      blocks_passed f
      (λ v d.
      ⊎_elim
      (λ (l : n.is_latch v ≡ false). inl (inl l))
      (λ (b : block_of v < reached to o). ⊎_elim (λ (l : block_of v < from). inl (inr l)) (λ (h : has_block stale (block_of v) ≡ false). inr h) (passed_next stale from to o next (block_of v) b))
      d)
