-- Rounds made one after another, from a set without flags: what each makes of the flags that stand in a table.
use Rattle.std.proofs.Common.{◌≡◌, ℕ, zero, suc, ◌+◌, ◌<◌, ◌≤◌, Bool, true, false, cond, List, length, refl, sym, ◌∙◌, ⊎_elim, arith}
use Rattle.std.proofs.lemmas.Bool.{cases_Bool, cases_lt, or_cases, or_left, or_right, true≢false}
use Rattle.closing.specs.Sets.{Flags, empty, Within, Same, count}
use Rattle.closing.specs.Rounds.{Fresh, Grown, Outcome, Rounds, again, SameOutcome}
use Rattle.closing.proofs.Counts.{count-gains}
use Rattle.closing.proofs.Runs.{within_same, from_same}
use Rattle.design.specs.Table.{Table}
use Rattle.design.specs.SoFar.{Stands}
use Rattle.timing.specs.declared.windows.Window.{Window}
use Rattle.timing.specs.Windows.{IsWindow}
use Rattle.timing.specs.Breaches.{AllEnd}
use Rattle.timing.proofs.Grow.{windows_are_one}
use Rattle.rules.specs.Questions.{Question, Lawful}
use Rattle.judging.specs.Couplings.{coupling_at, IsSeen, system_of}
use Rattle.judging.proofs.Instance.{monotone, bounded_alike}
use Rattle.windows.specs.declared.flags.Flag.{Flag}
use Rattle.windows.specs.Effective.{is_flagged}
use Rattle.verifying.specs.Asking.{seen_in, FlaggedSeen}

-- where one more flag makes the greater count of what was no greater, it is set there and not here
counted_more : (a b : Bool) (m n : ℕ) → n ≤ m → cond a (suc m) m < cond b (suc n) n → (a ≡ false) × (b ≡ true)
counted_more true true m n le lt = absurd (omega (arith, le, lt))
counted_more true false m n le lt = absurd (omega (arith, le, lt))
counted_more false true m n le lt = (refl, refl)
counted_more false false m n le lt = absurd (omega (arith, le, lt))

-- of two sets the one with more flags has one that the other lacks
one_more : (n : ℕ) (S T : Flags) → count n S < count n T → (c : ℕ) × (c < n) × (S c ≡ false) × (T c ≡ true)
one_more zero S T more = absurd (omega (arith, more))
one_more (suc n) S T more =
    ⊎_elim
    (λ (below : count n S < count n T). let found = one_more n S T below in (found.0, omega (arith, found.1), found.2, found.3))
    (λ (here : count n T ≤ count n S). let apart = counted_more (S n) (T n) (count n S) (count n T) here more in (n, omega arith, apart.0, apart.1))
    (cases_lt (count n S) (count n T))

-- where the windows of all nodes are found, all windows have an end
pub all_end : (t : Table) (S : Flags) (windows : ℕ → Window) → ((v : ℕ) → v < length t.nodes → IsWindow t S v (windows v)) → AllEnd t S
all_end t S windows found v lt = (windows v, found v lt)

module _ (t : Table) (sees : Question → Bool) (stands : Stands t) (windows : ℕ → Window) (old new : List Flag) (fresh : ℕ) (found : (v : ℕ) → v < length t.nodes → IsWindow t (is_flagged old) v (windows v)) (asked : FlaggedSeen (seen_in t.clock t.nodes windows sees) t.couplings old new fresh) where
  -- a coupling that is seen under the set is one that the rule sees when it is asked with the windows that were found
  asked_seen : (c : ℕ) → c < length t.couplings → IsSeen t sees (is_flagged old) c → seen_in t.clock t.nodes windows sees (coupling_at t c) ≡ true
  asked_seen c lt seen =
      let k = coupling_at t c in
      let pair = stands.pairs c lt in
      let victim : seen.0 ≡ windows k.victim = windows_are_one t (is_flagged old) k.victim seen.0 (windows k.victim) seen.2 (found k.victim pair.0) in
      let aggressor : seen.1 ≡ windows k.aggressor = windows_are_one t (is_flagged old) k.aggressor seen.1 (windows k.aggressor) seen.3 (found k.aggressor pair.1) in
      rw (victim, aggressor) at seen.4

  -- and a coupling that the rule sees then is seen under the set
  seen_asked : (c : ℕ) → c < length t.couplings → seen_in t.clock t.nodes windows sees (coupling_at t c) ≡ true → IsSeen t sees (is_flagged old) c
  seen_asked c lt seen =
      let k = coupling_at t c in
      let pair = stands.pairs c lt in
      (windows k.victim, windows k.aggressor, found k.victim pair.0, found k.aggressor pair.1, seen)

  -- flags that are set stay
  keeps : Within (length t.couplings) (is_flagged old) (is_flagged new)
  keeps c lt set = asked.flags c lt ∙ or_left (is_flagged old c) (seen_in t.clock t.nodes windows sees (coupling_at t c)) set

  -- what a round makes of the set stands in the flags afterwards
  pub grown : Grown (system_of t sees) (is_flagged old) (is_flagged new)
  grown = record {
    keeps = keeps;
    adds = λ c lt seen. asked.flags c lt ∙ or_right (is_flagged old c) (seen_in t.clock t.nodes windows sees (coupling_at t c)) (asked_seen c lt seen);
    only = λ c lt set unset.
        ⊎_elim
        (λ (was : is_flagged old c ≡ true). absurd (true≢false (sym was ∙ unset)))
        (λ (seen : seen_in t.clock t.nodes windows sees (coupling_at t c) ≡ true). seen_asked c lt seen)
        (or_cases (is_flagged old c) (seen_in t.clock t.nodes windows sees (coupling_at t c)) (sym (asked.flags c lt) ∙ set));
  }

  -- where a flag is set anew, it is fresh
  pub some_fresh : 0 < fresh → (c : ℕ) × Fresh (system_of t sees) (is_flagged old) c
  some_fresh more =
      let one = one_more (length t.couplings) (is_flagged old) (is_flagged new) (omega (arith, more, asked.more)) in
      (one.0, record { below = one.1; seen = grown.only one.0 one.1 one.3 one.2; unset = one.2 })

  -- where none is, none is fresh
  pub none_fresh : fresh ≡ 0 → (c : ℕ) → Fresh (system_of t sees) (is_flagged old) c → ⊥
  none_fresh none c f =
      let more = count-gains (length t.couplings) (is_flagged old) (is_flagged new) c keeps f.below f.unset (grown.adds c f.below f.seen) in
      omega (arith, more, none, asked.more)

  -- and the flags are as they were
  pub same_flags : fresh ≡ 0 → Same (length t.couplings) (is_flagged new) (is_flagged old)
  same_flags none =
      within_same (length t.couplings) (is_flagged new) (is_flagged old)
      (λ c lt set.
      ⊎_elim
      (λ (was : is_flagged old c ≡ true). was)
      (λ (unset : is_flagged old c ≡ false). absurd (let more = count-gains (length t.couplings) (is_flagged old) (is_flagged new) c keeps lt unset set in omega (arith, more, none, asked.more)))
      (cases_Bool (is_flagged old c)))
      keeps

-- So many rounds were made from the set without flags: with them, rounds from the flags of a table are rounds from that set.
pub record Begun (t : Table) (sees : Question → Bool) (flags : List Flag) (made : ℕ) : Type 0 where
  pub rounds : (k : ℕ) (o : Outcome) → Rounds (system_of t sees) (is_flagged flags) k o → (o' : Outcome) × Rounds (system_of t sees) empty (made + k) o' × SameOutcome (length t.couplings) o o'

-- before the first round no flag is set
pub begun_none : (t : Table) (sees : Question → Bool) → Stands t → Lawful sees → (flags : List Flag) → ((c : ℕ) → c < length t.couplings → is_flagged flags c ≡ false) → Begun t sees flags 0
begun_none t sees stands lawful flags clear =
    record {
      rounds = λ k o r.
          let none_made : k ≡ 0 + k = omega arith in
          rw none_made at (from_same (system_of t sees) (monotone t sees stands lawful) (bounded_alike t sees) (is_flagged flags) empty clear r);
    }

-- one round more
pub begun_more : (t : Table) (sees : Question → Bool) → Stands t → (windows : ℕ → Window) (old new : List Flag) (made fresh : ℕ) → ((v : ℕ) → v < length t.nodes → IsWindow t (is_flagged old) v (windows v)) → FlaggedSeen (seen_in t.clock t.nodes windows sees) t.couplings old new fresh → 0 < fresh → Begun t sees old made → Begun t sees new (made + 1)
begun_more t sees stands windows old new made fresh found asked more begun =
    let one = some_fresh t sees stands windows old new fresh found asked more in
    record {
      rounds = λ k o r.
          let one_more_made : made + suc k ≡ (made + 1) + k = omega arith in
          rw one_more_made at (begun.rounds (suc k) o (again one.0 (all_end t (is_flagged old) windows found) one.1 (grown t sees stands windows old new fresh found asked) r));
    }
