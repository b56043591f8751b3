-- Flags set one after another.
use Rattle.std.proofs.Common.{◌≡◌, ℕ, suc, ◌+◌, ◌<◌, ◌≤◌, Bool, true, false, cond, ◌||◌, List, length, drop, slice_index_or, slice_set, refl, ap, ◌∙◌, ⊎_elim, arith, add-one}
use Rattle.std.proofs.lemmas.Bool.{cases_eq}
use Rattle.std.proofs.lemmas.Grind.{common_steps}
use Rattle.closing.specs.Sets.{count}
use Rattle.closing.proofs.Counts.{count-same}
use Rattle.design.specs.declared.couplings.Coupling.{Coupling}
use Rattle.design.specs.Rows.{no_coupling}
use Rattle.windows.specs.declared.flags.Flag.{Flag}
use Rattle.windows.specs.declared.flags.Flag.TheVariants.{Set}
use Rattle.windows.specs.Effective.{is_flagged}
use Rattle.verifying.specs.Asking.{FlaggedOne, FlaggedSeen}

-- a clear flag that is set where something is seen
pub flagged_one : (seen : Bool) (k : ℕ) (flags : List Flag) → k < length flags → is_flagged flags k ≡ false → seen ≡ true → FlaggedOne seen k flags (slice_set flags k Set) 1
flagged_one seen k flags lt clear seen_here = grind (arith, common_steps)

-- The first k couplings are looked at, and the flags of the others are as they were.
pub record Flagging (seen : Coupling → Bool) (ks : List Coupling) (old new : List Flag) (k fresh : ℕ) : Type 0 where
  pub long : length new ≡ length old
  pub beyond : drop (length ks) new ≡ drop (length ks) old
  pub done : (c : ℕ) → c < k → is_flagged new c ≡ (is_flagged old c || seen (slice_index_or ks c no_coupling))
  pub left : (c : ℕ) → k ≤ c → is_flagged new c ≡ is_flagged old c
  pub more : count k (is_flagged new) ≡ count k (is_flagged old) + fresh
  pub few : fresh ≤ k

-- before the first coupling nothing is looked at
pub flagging_none : (seen : Coupling → Bool) (ks : List Coupling) (old : List Flag) → Flagging seen ks old old 0 0
flagging_none seen ks old = record { long = refl; beyond = refl; done = λ c lt. absurd (omega (arith, lt)); left = λ c le. refl; more = refl; few = omega arith }

-- a flag counted once more where it is set anew
counted_one : (a b : Bool) (m n fresh more : ℕ) → m ≡ n + fresh → more ≡ cond a 0 (cond b 1 0) → cond (a || b) (suc m) m ≡ cond a (suc n) n + (fresh + more)
counted_one true true m n fresh more e f = omega (arith, e, f)
counted_one true false m n fresh more e f = omega (arith, e, f)
counted_one false true m n fresh more e f = omega (arith, e, f)
counted_one false false m n fresh more e f = omega (arith, e, f)

-- no more than one is set anew
one_at_most : (a b : Bool) → cond a 0 (cond b 1 0) ≤ 1
one_at_most true b = omega arith
one_at_most false true = omega arith
one_at_most false false = omega arith

-- and so no more of one coupling
pub fresh_one : {seen : Bool} {k : ℕ} {old new : List Flag} {fresh : ℕ} → FlaggedOne seen k old new fresh → fresh ≤ 1
fresh_one {seen} {k} {old} {new} {fresh} one = omega (arith, one.more, one_at_most (is_flagged old k) seen)

-- one coupling more
pub flagging_more : (seen : Coupling → Bool) (ks : List Coupling) (old now new : List Flag) (k fresh more : ℕ) → k < length ks →
    Flagging seen ks old now k fresh → FlaggedOne (seen (slice_index_or ks k no_coupling)) k now new more → Flagging seen ks old new (k + 1) (fresh + more)
flagging_more seen ks old now new k fresh more lt h one =
    let here : is_flagged now k ≡ is_flagged old k = h.left k (omega arith) in
    let same : count k (is_flagged new) ≡ count k (is_flagged now) = count-same k (is_flagged new) (is_flagged now) (λ c l. one.others c (λ e. omega (arith, e, l))) in
    record {
      long = one.long ∙ h.long;
      beyond = one.beyond (length ks) lt ∙ h.beyond;
      done = λ c l.
          ⊎_elim
          (λ (e : c ≡ k). rw e (one.here ∙ ap (λ b. b || seen (slice_index_or ks k no_coupling)) here))
          (λ (e : c ≡ k → ⊥). one.others c e ∙ h.done c (omega (arith, l, e)))
          (cases_eq c k);
      left = λ c le. one.others c (λ e. omega (arith, e, le)) ∙ h.left c (omega (arith, le));
      more =
          rw (add-one, one.here, here)
          (counted_one (is_flagged old k) (seen (slice_index_or ks k no_coupling)) (count k (is_flagged new)) (count k (is_flagged old)) fresh more (same ∙ h.more) (one.more ∙ ap (λ b. cond b 0 (cond (seen (slice_index_or ks k no_coupling)) 1 0)) here));
      few = omega (arith, h.few, one.more, one_at_most (is_flagged now k) (seen (slice_index_or ks k no_coupling)));
    }

-- all couplings are looked at
pub flagging_all : (seen : Coupling → Bool) (ks : List Coupling) (old new : List Flag) (k fresh : ℕ) → k ≡ length ks → Flagging seen ks old new k fresh → FlaggedSeen seen ks old new fresh
flagging_all seen ks old new k fresh e h = record { long = h.long; beyond = h.beyond; flags = λ c lt. h.done c (omega (arith, lt, e)); more = rw e at h.more }
