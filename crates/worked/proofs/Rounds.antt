-- Rounds on a table worked out, and that the judgement is that of the definitions.
use Rattle.std.proofs.Common.{◌≡◌, ℕ, zero, suc, ◌<◌, Bool, true, false, not, ◌&&◌, ◌||◌, List, length, get_or, pos, int_eq, sym, ◌∙◌, subst, ⊎_elim, Decides}
use Rattle.std.proofs.lemmas.Bool.{and_parts, and_from, or_cases, or_left, or_right, not-true, true≢false, not_from_false, agree_below, agree_below_at}
use Rattle.std.proofs.lemmas.Bool.Decides.{Decides-int_eq}
use Rattle.closing.specs.Sets.{Flags, Same}
use Rattle.closing.specs.Rounds.{Fresh, Grown, Outcome, without_end, settled, set_of, Rounds, endless, at_rest, again}
use Rattle.design.specs.Table.{Table}
use Rattle.design.specs.SoFar.{Stands}
use Rattle.timing.specs.declared.windows.Window.{Window}
use Rattle.timing.specs.Windows.{IsWindow}
use Rattle.timing.specs.Breaches.{AllEnd}
use Rattle.timing.proofs.Grow.{windows_are_one}
use Rattle.rules.specs.Questions.{Question}
use Rattle.judging.specs.declared.verdict.Verdict.{Verdict}
use Rattle.judging.specs.Couplings.{coupling_at, asked_about, IsSeen, system_of}
use Rattle.judging.specs.Verdicts.{Shown}
use Rattle.worked.specs.Examples.{from_to}
use Rattle.worked.proofs.Lists.{every_below, every_at, some_below, some_at, none_at, values, values_at}
use Rattle.worked.proofs.Sweeping.{Columns, Found, of_columns, columns_found}
use Rattle.worked.proofs.Reading.{has_window, all_end, window_of, window_right, is_verdict, verdict_right, is_gain, gain_right}

-- the set of the flags of a list
abbrev pub flagged : List Bool → Flags
flagged flags c = get_or flags c false

-- the windows of a list
abbrev pub windowed : List Window → ℕ → Window
windowed windows v = get_or windows v (from_to (pos 0) (pos 0))

-- two windows that are the same
abbrev same_window : Window → Window → Bool
same_window w x = int_eq w.begins x.begins && int_eq w.ends x.ends

-- are equal
windows_equal : (w x : Window) → same_window w x ≡ true → w ≡ x
windows_equal w x e =
    let parts = and_parts (int_eq w.begins x.begins) (int_eq w.ends x.ends) e in
    let begins = (Decides-int_eq w.begins x.begins).0 parts.0 in
    let ends = (Decides-int_eq w.ends x.ends).0 parts.1 in
    λ i. record { begins = begins i; ends = ends i }

-- ---- the tests of a round

module _ (t : Table) (sees : Question → Bool) where
  -- the rule sees a coupling, asked with these windows
  abbrev seen_at : Columns → ℕ → Bool
  seen_at x c = sees (asked_about t (coupling_at t c) (window_of t x (coupling_at t c).victim) (window_of t x (coupling_at t c).aggressor))

  -- it sees one whose flag is not set
  abbrev fresh_at : List Bool → Columns → ℕ → Bool
  fresh_at S x c = seen_at x c && not (flagged S c)

  -- the flags after a round
  abbrev grown_flags : List Bool → Columns → List Bool
  grown_flags S x = values (λ c. flagged S c || seen_at x c) (length t.couplings)

  -- the last round of rounds whose windows have an end
  abbrev rests : Verdict → List Window → List Bool → Columns → Bool
  rests verdict windows S x =
      all_end t x
      && (not (some_below (fresh_at S x) (length t.couplings))
      && (is_verdict t x verdict && every_below (λ v. same_window (windowed windows v) (window_of t x v)) (length t.nodes)))

  module _ (verdict : Verdict) (flags : List Bool) (windows : List Window) where
    -- the last round: it has these flags, and something without an end, or windows at rest
    abbrev last_round : List Bool → Columns → Bool
    last_round S x = agree_below (flagged flags) (flagged S) (length t.couplings) && (is_gain t x verdict || rests verdict windows S x)

    -- so many rounds from flags
    abbrev pub rounds_from : ℕ → List Bool → Bool
    rounds_from zero S = false
    rounds_from (suc zero) S = of_columns t (flagged S) (last_round S)
    rounds_from (suc (suc k)) S = of_columns t (flagged S) (λ x. all_end t x && (some_below (fresh_at S x) (length t.couplings) && rounds_from (suc k) (grown_flags S x)))

-- ---- what they tell

module _ (t : Table) (sees : Question → Bool) (stands : Stands t) where
  module _ (S : Flags) (x : Columns) (found : Found t S x) (ends : all_end t x ≡ true) where
    -- each node has the window that is told
    is_window : (v : ℕ) → v < length t.nodes → IsWindow t S v (window_of t x v)
    is_window v lt = window_right t S x found v lt (every_at (has_window t x) (length t.nodes) v ends lt)

    -- and the rule sees what it sees with these windows
    seen_told : (c : ℕ) → c < length t.couplings → Decides (seen_at t sees x c) (IsSeen t sees S c)
    seen_told c lt =
        let k = coupling_at t c in
        let pair = stands.pairs c lt in
        let victim = is_window k.victim pair.0 in
        let aggressor = is_window k.aggressor pair.1 in (
          λ e. (window_of t x k.victim, window_of t x k.aggressor, victim, aggressor, e),
          λ seen.
              let w : seen.0 ≡ window_of t x k.victim = windows_are_one t S k.victim seen.0 (window_of t x k.victim) seen.2 victim in
              let y : seen.1 ≡ window_of t x k.aggressor = windows_are_one t S k.aggressor seen.1 (window_of t x k.aggressor) seen.3 aggressor in
              sym (λ i. sees (asked_about t k (w i) (y i))) ∙ seen.4,
        )

  module _ (S : List Bool) (x : Columns) (found : Found t (flagged S) x) (ends : all_end t x ≡ true) where
    -- all windows have an end
    bounded : AllEnd t (flagged S)
    bounded v lt = (window_of t x v, is_window (flagged S) x found ends v lt)

    -- a flag that is fresh
    fresh : some_below (fresh_at t sees S x) (length t.couplings) ≡ true → (c : ℕ) × Fresh (system_of t sees) (flagged S) c
    fresh e =
        let c = some_at (fresh_at t sees S x) (length t.couplings) e in
        let parts = and_parts (seen_at t sees x c.0) (not (flagged S c.0)) c.2 in
        (c.0, record { below = c.1; seen = (seen_told (flagged S) x found ends c.0 c.1).0 parts.0; unset = not-true (flagged S c.0) parts.1 })

    -- or none
    none_fresh : some_below (fresh_at t sees S x) (length t.couplings) ≡ false → (c : ℕ) → Fresh (system_of t sees) (flagged S) c → ⊥
    none_fresh e c f =
        none_at (fresh_at t sees S x) (length t.couplings) c e f.below
        (and_from (seen_at t sees x c) (not (flagged S c)) ((seen_told (flagged S) x found ends c f.below).1 f.seen) (not_from_false (flagged S c) f.unset))

    -- the flags after the round are those that it sets
    grown : Grown (system_of t sees) (flagged S) (flagged (grown_flags t sees S x))
    grown =
        let at : (c : ℕ) → c < length t.couplings → flagged (grown_flags t sees S x) c ≡ (flagged S c || seen_at t sees x c) = λ c lt. values_at (λ d. flagged S d || seen_at t sees x d) (length t.couplings) c false lt in
        record {
          keeps = λ c lt set. at c lt ∙ or_left (flagged S c) (seen_at t sees x c) set;
          adds = λ c lt seen. at c lt ∙ or_right (flagged S c) (seen_at t sees x c) ((seen_told (flagged S) x found ends c lt).1 seen);
          only = λ c lt set unset.
              ⊎_elim
              (λ (old : flagged S c ≡ true). absurd (true≢false (sym old ∙ unset)))
              (λ (new : seen_at t sees x c ≡ true). (seen_told (flagged S) x found ends c lt).0 new)
              (or_cases (flagged S c) (seen_at t sees x c) (sym (at c lt) ∙ set));
        }

  module _ (verdict : Verdict) (flags : List Bool) (windows : List Window) where
    -- so many rounds from flags, with the flags, the verdict and the windows that are asked for
    abbrev Judging : ℕ → List Bool → Type 0
    Judging k S = (o : Outcome) × Rounds (system_of t sees) (flagged S) k o × Same (length t.couplings) (flagged flags) (set_of o) × Shown t (windowed windows) o verdict

    -- a last round at rest
    resting : (S : List Bool) (x : Columns) → Found t (flagged S) x → Same (length t.couplings) (flagged flags) (flagged S) → rests t sees verdict windows S x ≡ true → Judging 1 S
    resting S x found same e =
        let as_told : ℕ → Bool = λ v. same_window (windowed windows v) (window_of t x v) in
        let a = and_parts (all_end t x) (not (some_below (fresh_at t sees S x) (length t.couplings)) && (is_verdict t x verdict && every_below as_told (length t.nodes))) e in
        let b = and_parts (not (some_below (fresh_at t sees S x) (length t.couplings))) (is_verdict t x verdict && every_below as_told (length t.nodes)) a.1 in
        let c = and_parts (is_verdict t x verdict) (every_below as_told (length t.nodes)) b.1 in (
          settled (flagged S),
          at_rest (bounded S x found a.0) (none_fresh S x found a.0 (not-true (some_below (fresh_at t sees S x) (length t.couplings)) b.0)),
          same,
          (
            verdict_right t (flagged S) x found verdict c.0,
            λ v lt.
                let e = windows_equal (windowed windows v) (window_of t x v) (every_at as_told (length t.nodes) v c.1 lt) in
                subst (IsWindow t (flagged S) v) (sym e) (is_window (flagged S) x found a.0 v lt),
          ),
        )

    -- a last round
    ending : (S : List Bool) (x : Columns) → Found t (flagged S) x → last_round t sees verdict flags windows S x ≡ true → Judging 1 S
    ending S x found e =
        let parts = and_parts (agree_below (flagged flags) (flagged S) (length t.couplings)) (is_gain t x verdict || rests t sees verdict windows S x) e in
        let same : Same (length t.couplings) (flagged flags) (flagged S) = λ c lt. agree_below_at (flagged flags) (flagged S) (length t.couplings) c parts.0 lt in
        ⊎_elim
        (λ (gain : is_gain t x verdict ≡ true). let g = gain_right t (flagged S) x found verdict gain in (without_end (flagged S), endless g.1, same, g.0))
        (λ (rest : rests t sees verdict windows S x ≡ true). resting S x found same rest)
        (or_cases (is_gain t x verdict) (rests t sees verdict windows S x) parts.1)

    -- rounds that pass the tests are those of the definitions
    pub rounds_right : (k : ℕ) (S : List Bool) → rounds_from t sees verdict flags windows k S ≡ true → Judging k S
    rounds_right zero S e = absurd (true≢false (sym e))
    rounds_right (suc zero) S e = let found = columns_found t (flagged S) (last_round t sees verdict flags windows S) stands e in ending S found.0 found.1 found.2
    rounds_right (suc (suc k)) S e =
        let found = columns_found t (flagged S) (λ x. all_end t x && (some_below (fresh_at t sees S x) (length t.couplings) && rounds_from t sees verdict flags windows (suc k) (grown_flags t sees S x))) stands e in
        let x = found.0 in
        let a = and_parts (all_end t x) (some_below (fresh_at t sees S x) (length t.couplings) && rounds_from t sees verdict flags windows (suc k) (grown_flags t sees S x)) found.2 in
        let b = and_parts (some_below (fresh_at t sees S x) (length t.couplings)) (rounds_from t sees verdict flags windows (suc k) (grown_flags t sees S x)) a.1 in
        let f = fresh S x found.1 a.0 b.0 in
        let rest = rounds_right (suc k) (grown_flags t sees S x) b.1 in
        (rest.0, again f.0 (bounded S x found.1 a.0) f.1 (grown S x found.1 a.0) rest.1, rest.2, rest.3)
