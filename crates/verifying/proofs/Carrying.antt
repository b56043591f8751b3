-- What is carried of a table depends on which of its couplings are in the set, and on nothing past them.
use Rattle.std.proofs.Common.{◌≡◌, ℕ, suc, ◌+◌, ◌<◌, ◌≤◌, Bool, List, [], ◌∷◌, length, ℤ, ◌-ℤ◌, pos, refl, subst, ap, ◌∙◌, arith}
use Rattle.design.specs.declared.couplings.Coupling.{Coupling}
use Rattle.design.specs.Table.{Table}
use Rattle.design.specs.Rows.{least_delay, assisting_of}
use Rattle.kinds.specs.declared.timings.Delays.{Delays}
use Rattle.rings.specs.InPlace.{Near}
use Rattle.timing.specs.Connections.{row, network, shift_between}
use Rattle.timing.specs.Delays.{chosen_from, chosen, opposing_of, own_greatest, delays_under}
use Rattle.timing.specs.Figures.{late_start, late_gain}
use Rattle.windows.specs.declared.carried.Carried.{Carried}
use Rattle.windows.specs.Carried.{Carries, carried_at}

-- sets that agree on the numbers of a list choose the same couplings of it
chosen_same : (S T : ℕ → Bool) (i : ℕ) (ks : List Coupling) → ((c : ℕ) → i ≤ c → c < i + length ks → S c ≡ T c) → chosen_from S i ks ≡ chosen_from T i ks
chosen_same S T i [] same = refl
chosen_same S T i (k ∷ ks) same =
    rw (same i (omega arith) (omega arith), chosen_same S T (suc i) ks (λ c from lt. same c (omega arith) (omega arith))) refl

-- the delays of a node, while these couplings act
abbrev delays_with : Table → List Coupling → ℕ → Delays
delays_with t ks v = record { least = pos (least_delay (row t.nodes v)) -ℤ pos (assisting_of ks v); greatest = pos (own_greatest (row t.nodes v) + opposing_of ks v) }

-- and what a step adds to a late figure
abbrev gains_with : Table → List Coupling → ℕ → ℕ → ℤ
gains_with t ks k v = (delays_with t ks k).greatest -ℤ shift_between t.clock (row t.nodes k) (row t.nodes v)

-- what is carried under one of two sets that have the same couplings of the table is carried under the other
pub carries_same : {N : ℕ} (t : Table) (S T : ℕ → Bool) (c : Carried N) → ((k : ℕ) → k < length t.couplings → S k ≡ T k) → Carries t S c → Carries t T c
carries_same t S T c same carries =
    let chosen_alike : chosen S t.couplings ≡ chosen T t.couplings = chosen_same S T 0 t.couplings (λ k from lt. same k (omega arith)) in
    let gains : late_gain t S ≡ late_gain t T = ap (gains_with t) chosen_alike in
    let delays : delays_under t.nodes t.couplings S ≡ delays_under t.nodes t.couplings T = ap (delays_with t) chosen_alike in
    record {
      rows = carries.rows;
      leads = carries.leads;
      delays = λ v lt. carries.delays v lt ∙ ap (λ f. f v) delays;
      near = subst (λ (gain : ℕ → ℕ → ℤ). Near (network t.nodes) (late_start t) gain 0 (λ v. (carried_at c v).latest)) gains carries.near;
      opened = carries.opened;
      rest = carries.rest;
    }
