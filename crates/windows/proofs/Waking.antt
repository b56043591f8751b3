-- Which blocks are stale between two sweeps.
use Rattle.std.proofs.Common.{◌≡◌, ℕ, ◌<◌, ◌≤◌, Bool, true, false, List, ap, sym, refl, ◌∙◌, ⊎_elim, arith}
use Rattle.std.proofs.lemmas.Bool.{cases_Bool, true≢false}
use Rattle.paths.specs.Networks.{Network, Connected, Sound}
use Rattle.paths.specs.Kinds.{Kind, Restarts}
use Rattle.paths.specs.Sweeps.{Course, leaving, Swept}
use Rattle.windows.specs.declared.blocks.Blocks.{Blocks}
use Rattle.windows.specs.declared.blocks.Leads.{Leads}
use Rattle.windows.specs.Blocks.{block_of, has_block, led_from, AllLeads, FreshBut, StillBut, KeptBut, ClimbsWake}
use Rattle.windows.specs.Rings.{PassedOn}
use Rattle.windows.specs.Seen.{figure_at}
use Rattle.rings.specs.Settling.{next_start}
use Rattle.windows.proofs.Sweeping.{same_arrival}

-- what does not climb starts as before
stays_put : {F : Type 0} (r : Restarts F) (made limit : ℕ) (start arrival : F) → r.climbs start arrival ≡ false → next_start r limit made start arrival ≡ start
stays_put r made limit start arrival c = rw c refl

module _ {F : Type 0} (no_path : F) (r : Restarts F) (n : Network) (made limit : ℕ) (leads : Leads) (column old new : List F) (climbs : Bool) (stale : Blocks)
    (p : PassedOn no_path r n made limit 0 n.size column old new climbs) (w : ClimbsWake r n leads n.size (figure_at no_path old) (figure_at no_path column) stale) where
  -- a latch that does not climb starts as before
  as_before : (v : ℕ) → v < n.size → n.is_latch v ≡ true → r.climbs (figure_at no_path old v) (figure_at no_path column v) ≡ false → figure_at no_path new v ≡ figure_at no_path old v
  as_before v lt l c = p.next v (omega arith) lt ∙ rw l (stays_put r made limit (figure_at no_path old v) (figure_at no_path column v) c)

  -- no latch of a block that is not stale climbs now
  pub still_next : StillBut r n (figure_at no_path new) (figure_at no_path column) stale
  still_next =
      record {
        still = λ v lt l h.
            ⊎_elim
            (λ (c : r.climbs (figure_at no_path old v) (figure_at no_path column v) ≡ true). absurd (true≢false (sym (w.awake v lt l c).itself ∙ h)))
            (λ (c : r.climbs (figure_at no_path old v) (figure_at no_path column v) ≡ false). rw (as_before v lt l c) c)
            (cases_Bool (r.climbs (figure_at no_path old v) (figure_at no_path column v)));
      }

  -- and every node of one is still fresh
  pub fresh_next : {S : Type 0} (kind : Kind F S) (course : Course F S) → n.size ≤ 4096 → AllLeads n leads → Sound n → Swept kind n course (figure_at no_path old) (figure_at no_path column) →
      FreshBut kind n course (figure_at no_path new) (figure_at no_path column) stale
  fresh_next kind course few all sound swept =
      let same : (k v : ℕ) → v < n.size → Connected n k v → has_block stale (block_of v) ≡ false → n.is_latch k ≡ true → figure_at no_path old k ≡ figure_at no_path new k =
      λ k v lt d h l.
      let here : k < n.size = (sound.sources k v d).0 in
      ⊎_elim
      (λ (c : r.climbs (figure_at no_path old k) (figure_at no_path column k) ≡ true).
      let awake = w.awake k here l c in
      let woken : has_block stale (block_of v) ≡ true =
      ⊎_elim
      (λ (behind : (block_of k ≡ block_of v) × (k < v)). ap (has_block stale) (sym behind.0) ∙ awake.itself)
      (λ (led : has_block (led_from leads (block_of k)) (block_of v) ≡ true). awake.led (block_of v) led)
      (all k v d (omega arith) (omega arith)) in
      absurd (true≢false (sym woken ∙ h)))
      (λ (c : r.climbs (figure_at no_path old k) (figure_at no_path column k) ≡ false). sym (as_before k here l c))
      (cases_Bool (r.climbs (figure_at no_path old k) (figure_at no_path column k))) in
      let left : (k v : ℕ) → v < n.size → Connected n k v → has_block stale (block_of v) ≡ false → leaving n (figure_at no_path old) (figure_at no_path column) k ≡ leaving n (figure_at no_path new) (figure_at no_path column) k =
      λ k v lt d h.
      ⊎_elim
      (λ (l : n.is_latch k ≡ true). rw l (same k v lt d h l))
      (λ (l : n.is_latch k ≡ false). rw l refl)
      (cases_Bool (n.is_latch k)) in
      record {
        fresh = λ v lt h. swept v lt ∙ same_arrival kind n course (figure_at no_path old) (figure_at no_path new) (figure_at no_path column) (figure_at no_path column) v (λ k d. left k v lt d h);
      }

-- no latch of a block that is not stale climbs after a sweep
pub still_kept : {F : Type 0} (no_path : F) (r : Restarts F) (n : Network) (starts : ℕ → F) (was stale : Blocks) (old new : List F) →
    StillBut r n starts (figure_at no_path old) was → KeptBut no_path was stale old new → StillBut r n starts (figure_at no_path new) stale
still_kept no_path r n starts was stale old new s k =
    record {
      still = λ v lt l h.
          ⊎_elim
          (λ (t : has_block was (block_of v) ≡ true). absurd (true≢false (sym (k.grows (block_of v) t) ∙ h)))
          (λ (f : has_block was (block_of v) ≡ false). rw (k.kept v h) (s.still v lt l f))
          (cases_Bool (has_block was (block_of v)));
    }

module _ (stale : Blocks) (all : (b : ℕ) → b < 256 → has_block stale b ≡ true) (n : Network) (few : n.size ≤ 4096) where
  -- where every block is stale, every node is in one
  pub in_stale : (v : ℕ) → v < n.size → has_block stale (block_of v) ≡ false → ⊥
  in_stale v lt h = true≢false (sym (all (block_of v) (omega arith)) ∙ h)

  -- so nothing is said of any node, whatever the column holds
  pub fresh_at_first : {F S : Type 0} (kind : Kind F S) (course : Course F S) (starts column : ℕ → F) → FreshBut kind n course starts column stale
  fresh_at_first kind course starts column = record { fresh = λ v lt h. absurd (in_stale v lt h) }

  pub still_at_first : {F : Type 0} (r : Restarts F) (starts column : ℕ → F) → StillBut r n starts column stale
  still_at_first r starts column = record { still = λ v lt l h. absurd (in_stale v lt h) }
