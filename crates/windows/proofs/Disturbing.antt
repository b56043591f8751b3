-- How the delays that are kept for each node come about, row by row and coupling by coupling.
use Rattle.std.proofs.Common.{◌≡◌, ℕ, ◌+◌, ◌*◌, ◌<◌, ◌≤◌, Bool, true, false, cond, ◌==◌, inl, inr, ⊎_elim, List, [], ◌∷◌, length, get_or, set, replicate, drop, ℤ, pos, neg_ℤ, ◌+ℤ◌, ◌-ℤ◌, ◌≤ℤ◌, add-one, refl, sym, ap, ◌∙◌, arith}
use Rattle.std.specs.Int.{saturate_signed, w64}
use Rattle.kinds.specs.Laws.{within_64}
use Rattle.std.proofs.lemmas.Int.{ints}
use Rattle.std.proofs.lemmas.Bool.{cases_eq, cases_lt}
use Rattle.std.proofs.lemmas.Bool.Decides.{nat_tests}
use Rattle.std.proofs.lemmas.List.{get_or_past, get_or-replicate, length-replicate, get_or-set_same, get_or-set_other, length-set, drop_more, drop_all}
use Rattle.design.specs.declared.nodes.Node.{Node}
use Rattle.design.specs.declared.nodes.Node.TheVariants.{Free}
use Rattle.design.specs.declared.couplings.Coupling.{Coupling}
use Rattle.design.specs.Rows.{no_coupling, least_delay, assisting_of}
use Rattle.kinds.specs.declared.timings.Delays.{Delays}
use Rattle.timing.specs.Connections.{row}
use Rattle.timing.specs.Delays.{chosen_from, chosen, opposing_of, own_greatest, delays_under}
use Rattle.windows.specs.Delays.{delays_at}
use Rattle.windows.specs.Effective.{own_delays, IsSmall, AmountsSmall, disturbed, disturbed_at}

-- places that hold the delays of the first so many rows by themselves, and past these none
pub record Owned (room : ℕ) (nodes : List Node) (n : ℕ) (places : List Delays) : Type 0 where
  pub long : length places ≡ room
  pub small : (v : ℕ) → IsSmall (delays_at places v)
  pub done : (v : ℕ) → v < n → v < room → delays_at places v ≡ own_delays (row nodes v)
  pub left : (v : ℕ) → n ≤ v → delays_at places v ≡ own_delays Free

-- a place among equal ones, or past them
pub same_everywhere : {X : Type 0} (n v : ℕ) (x : X) → get_or (replicate n x) v x ≡ x
same_everywhere n v x =
    elim (cases_lt v n) [
      | inl below ↦ get_or-replicate n v x x below
      | inr above ↦ get_or_past (replicate n x) v x (omega (arith, length-replicate n x, above))
    ]

-- no delays are small
none_small : IsSmall (own_delays Free)
none_small = (omega (arith, ints), omega (arith, ints))

-- before the first row no place has delays
pub owned_none : (room : ℕ) (nodes : List Node) → Owned room nodes 0 (replicate room (own_delays Free))
owned_none room nodes =
    record {
      long = length-replicate room (own_delays Free);
      small = λ v. rw (same_everywhere room v (own_delays Free)) none_small;
      done = λ v below lt. absurd (omega (arith, below));
      left = λ v above. same_everywhere room v (own_delays Free);
    }

-- one more row
pub owned_more : (room : ℕ) (nodes : List Node) (n : ℕ) (places : List Delays) → n < room → IsSmall (own_delays (row nodes n)) → Owned room nodes n places → Owned room nodes (n + 1) (set places n (own_delays (row nodes n)))
owned_more room nodes n places lt small h =
    let d : Delays = own_delays Free in
    let x : Delays = own_delays (row nodes n) in
    let within : n < length places = omega (arith, h.long, lt) in
    record {
      long = length-set places n x ∙ h.long;
      small = λ v.
          ⊎_elim
          (λ (e : v ≡ n). rw e (rw (get_or-set_same places n x d within) small))
          (λ (e : v ≡ n → ⊥). rw (get_or-set_other places n v x d e) (h.small v))
          (cases_eq v n);
      done = λ v below lt'.
          ⊎_elim
          (λ (e : v ≡ n). rw e (get_or-set_same places n x d within))
          (λ (e : v ≡ n → ⊥). get_or-set_other places n v x d e ∙ h.done v (omega (arith, below, e)) lt')
          (cases_eq v n);
      left = λ v above. get_or-set_other places n v x d (λ (e : v ≡ n). omega (arith, e, above)) ∙ h.left v (omega (arith, above));
    }

-- a row past the last place is left out
pub owned_beyond : (room : ℕ) (nodes : List Node) (n : ℕ) (places : List Delays) → room ≤ n → Owned room nodes n places → Owned room nodes (n + 1) places
owned_beyond room nodes n places le h =
    record {
      long = h.long;
      small = h.small;
      done = λ v below lt'. h.done v (omega (arith, le, lt')) lt';
      left = λ v above. h.left v (omega (arith, above));
    }

-- with all rows done, every place holds what its row has by itself
pub owned_all : (room : ℕ) (nodes : List Node) (n : ℕ) (places : List Delays) → length nodes ≤ n → Owned room nodes n places → (v : ℕ) → v < room → delays_at places v ≡ own_delays (row nodes v)
owned_all room nodes n places all h v lt =
    elim (cases_lt v n) [
      | inl below ↦ h.done v below lt
      | inr above ↦ h.left v above ∙ ap own_delays (sym (get_or_past nodes v Free (omega (arith, all, above))))
    ]

-- a choice between two things by numbers that are equal
pub chosen_same : {X : Type 0} (a b : ℕ) (x y : X) → a ≡ b → cond (a == b) x y ≡ x
chosen_same a b x y e = grind (arith, nat_tests)

-- and by numbers that differ
pub chosen_other : {X : Type 0} (a b : ℕ) (x y : X) → (a ≡ b → ⊥) → cond (a == b) x y ≡ y
chosen_other a b x y e = grind (arith, nat_tests)

-- a coupling that acts disturbs its victim and no other node
pub disturbed_victim : (places : List Delays) (k : Coupling) → k.victim < length places → (v : ℕ) → delays_at (set places k.victim (disturbed k (delays_at places k.victim))) v ≡ disturbed_at k v (delays_at places v)
disturbed_victim places k within v =
    let none : Delays = own_delays Free in
    let x : Delays = disturbed k (delays_at places k.victim) in
    ⊎_elim
    (λ (e : v ≡ k.victim). rw e (get_or-set_same places k.victim x none within ∙ sym (chosen_same k.victim k.victim x (delays_at places k.victim) refl)))
    (λ (e : v ≡ k.victim → ⊥). get_or-set_other places k.victim v x none e ∙ sym (chosen_other k.victim v (disturbed k (delays_at places v)) (delays_at places v) (λ (f : k.victim ≡ v). e (sym f))))
    (cases_eq v k.victim)

-- one whose victim is past the last place disturbs none
pub disturbed_beyond : (room : ℕ) (places : List Delays) (k : Coupling) → room ≤ k.victim → (v : ℕ) → v < room → delays_at places v ≡ disturbed_at k v (delays_at places v)
disturbed_beyond room places k past v lt = sym (chosen_other k.victim v (disturbed k (delays_at places v)) (delays_at places v) (λ (e : k.victim ≡ v). omega (arith, e, past, lt)))

-- One place on the way: what it holds, with what the couplings to come do, is what its row has by itself with what all of the couplings do; and n couplings have taken it no further than they can.
pub record Summed (own : Node) (all left : List Coupling) (v n : ℕ) (d : Delays) : Type 0 where
  pub least : d.least -ℤ pos (assisting_of left v) ≡ pos (least_delay own) -ℤ pos (assisting_of all v)
  pub greatest : d.greatest +ℤ pos (opposing_of left v) ≡ pos (own_greatest own + opposing_of all v)
  pub least_from : neg_ℤ (pos (n * 4294967295)) ≤ℤ d.least
  pub least_to : d.least ≤ℤ pos 4294967295
  pub greatest_from : pos 0 ≤ℤ d.greatest
  pub greatest_to : d.greatest ≤ℤ pos ((n + 1) * 4294967295)

-- before the first coupling each place has what its row has by itself
pub summed_own : (own : Node) (all : List Coupling) (v : ℕ) (d : Delays) → d ≡ own_delays own → IsSmall d → Summed own all all v 0 d
summed_own own all v d e small =
    let least : d.least ≡ pos (least_delay own) = ap (λ x. x.least) e in
    let greatest : d.greatest ≡ pos (own_greatest own) = ap (λ x. x.greatest) e in
    record {
      least = ap (λ x. x -ℤ pos (assisting_of all v)) least;
      greatest = ap (λ x. x +ℤ pos (opposing_of all v)) greatest;
      least_from = omega (arith, ints, least);
      least_to = small.0;
      greatest_from = omega (arith, ints, greatest);
      greatest_to = omega (arith, ints, small.1);
    }

-- a number that is no more than so far from 0 is itself within 64 bits
pub near_exact : (z : ℤ) → neg_ℤ (pos (1025 * 4294967295)) ≤ℤ z → z ≤ℤ pos (1025 * 4294967295) → saturate_signed w64 z ≡ z
near_exact z low high = within_64 z (omega (arith, ints, low)) (omega (arith, ints, high))

-- a coupling that acts
summed_set : (room : ℕ) (own : Node) (all left : List Coupling) (k : Coupling) (v n : ℕ) (d : Delays) → n < 1024 → v < room → (k.victim < room → AmountsSmall k) →
    Summed own all (k ∷ left) v n d → Summed own all left v (n + 1) (disturbed_at k v d)
summed_set room own all left k v n d few lt fits h =
    elim (cases_eq k.victim v) [
      | inl e ↦
          let small : AmountsSmall k = fits (omega (arith, e, lt)) in
          let least : d.least -ℤ pos (k.assisting + assisting_of left v) ≡ pos (least_delay own) -ℤ pos (assisting_of all v) = rw (chosen_same k.victim v k.assisting 0 e) at h.least in
          let greatest : d.greatest +ℤ pos (k.opposing + opposing_of left v) ≡ pos (own_greatest own + opposing_of all v) = rw (chosen_same k.victim v k.opposing 0 e) at h.greatest in
          let lower : saturate_signed w64 (d.least -ℤ pos k.assisting) ≡ d.least -ℤ pos k.assisting = near_exact (d.least -ℤ pos k.assisting) (omega (arith, ints, few, small.0, h.least_from)) (omega (arith, ints, h.least_to)) in
          let higher : saturate_signed w64 (d.greatest +ℤ pos k.opposing) ≡ d.greatest +ℤ pos k.opposing = near_exact (d.greatest +ℤ pos k.opposing) (omega (arith, ints, h.greatest_from)) (omega (arith, ints, few, small.1, h.greatest_to)) in
          rw (chosen_same k.victim v (disturbed k d) d e) (record {
            least = rw lower (omega (arith, ints, least));
            greatest = rw higher (omega (arith, ints, greatest));
            least_from = rw lower (omega (arith, ints, small.0, h.least_from));
            least_to = rw lower (omega (arith, ints, h.least_to));
            greatest_from = rw higher (omega (arith, ints, h.greatest_from));
            greatest_to = rw higher (omega (arith, ints, small.1, h.greatest_to));
          })
      | inr e ↦
          let least : d.least -ℤ pos (0 + assisting_of left v) ≡ pos (least_delay own) -ℤ pos (assisting_of all v) = rw (chosen_other k.victim v k.assisting 0 e) at h.least in
          let greatest : d.greatest +ℤ pos (0 + opposing_of left v) ≡ pos (own_greatest own + opposing_of all v) = rw (chosen_other k.victim v k.opposing 0 e) at h.greatest in
          rw (chosen_other k.victim v (disturbed k d) d e) (record {
            least = omega (arith, ints, least);
            greatest = omega (arith, ints, greatest);
            least_from = omega (arith, ints, h.least_from);
            least_to = h.least_to;
            greatest_from = h.greatest_from;
            greatest_to = omega (arith, ints, h.greatest_to);
          })
    ]

-- a coupling that does not
summed_clear : (own : Node) (all left : List Coupling) (v n : ℕ) (d : Delays) → Summed own all left v n d → Summed own all left v (n + 1) d
summed_clear own all left v n d h =
    record {
      least = h.least;
      greatest = h.greatest;
      least_from = omega (arith, ints, h.least_from);
      least_to = h.least_to;
      greatest_from = h.greatest_from;
      greatest_to = omega (arith, ints, h.greatest_to);
    }

-- the couplings to come from one on, if it is chosen: that one and those after it
chosen_next : (S : ℕ → Bool) (i : ℕ) (ks : List Coupling) → i < length ks → S i ≡ true → chosen_from S i (drop i ks) ≡ get_or ks i no_coupling ∷ chosen_from S (i + 1) (drop (i + 1) ks)
chosen_next S i ks lt set = rw (drop_more ks i no_coupling lt, set, add-one) refl

-- and if it is not: those after it
chosen_past : (S : ℕ → Bool) (i : ℕ) (ks : List Coupling) → i < length ks → S i ≡ false → chosen_from S i (drop i ks) ≡ chosen_from S (i + 1) (drop (i + 1) ks)
chosen_past S i ks lt clear = rw (drop_more ks i no_coupling lt, clear, add-one) refl

-- one more coupling of a list, which is chosen and acts
pub summed_more : (room : ℕ) (S : ℕ → Bool) (ks : List Coupling) (own : Node) (v i : ℕ) (d : Delays) → length ks ≤ 1024 → i < length ks → v < room → S i ≡ true →
    ((get_or ks i no_coupling).victim < room → AmountsSmall (get_or ks i no_coupling)) →
    Summed own (chosen S ks) (chosen_from S i (drop i ks)) v i d →
    Summed own (chosen S ks) (chosen_from S (i + 1) (drop (i + 1) ks)) v (i + 1) (disturbed_at (get_or ks i no_coupling) v d)
summed_more room S ks own v i d few lt lt' set small h =
    summed_set room own (chosen S ks) (chosen_from S (i + 1) (drop (i + 1) ks)) (get_or ks i no_coupling) v i d (omega (arith, few, lt)) lt' small (rw (chosen_next S i ks lt set) at h)

-- one more, which is not chosen
pub summed_past : (S : ℕ → Bool) (ks : List Coupling) (own : Node) (v i : ℕ) (d : Delays) → i < length ks → S i ≡ false →
    Summed own (chosen S ks) (chosen_from S i (drop i ks)) v i d →
    Summed own (chosen S ks) (chosen_from S (i + 1) (drop (i + 1) ks)) v (i + 1) d
summed_past S ks own v i d lt clear h = summed_clear own (chosen S ks) (chosen_from S (i + 1) (drop (i + 1) ks)) v i d (rw (chosen_past S i ks lt clear) at h)

-- delays are the same if they are so in both figures
pub same_delays : (d e : Delays) → d.least ≡ e.least → d.greatest ≡ e.greatest → d ≡ e
same_delays d e least greatest =
    let first : d ≡ record { least = e.least; greatest = d.greatest } = ap (λ x. record { least = x; greatest = d.greatest }) least in
    first ∙ ap (λ x. record { least = e.least; greatest = x }) greatest

-- with no coupling to come, a place holds the delays of its row under the chosen couplings
pub summed_all : (S : ℕ → Bool) (nodes : List Node) (ks : List Coupling) (v i : ℕ) (d : Delays) → length ks ≤ i →
    Summed (row nodes v) (chosen S ks) (chosen_from S i (drop i ks)) v i d → d ≡ delays_under nodes ks S v
summed_all S nodes ks v i d done h =
    let none : drop i ks ≡ [] = drop_all i ks done in
    let least : d.least -ℤ pos 0 ≡ pos (least_delay (row nodes v)) -ℤ pos (assisting_of (chosen S ks) v) = rw none at h.least in
    let greatest : d.greatest +ℤ pos 0 ≡ pos (own_greatest (row nodes v) + opposing_of (chosen S ks) v) = rw none at h.greatest in
    same_delays d (delays_under nodes ks S v) (omega (arith, ints, least)) (omega (arith, ints, greatest))
