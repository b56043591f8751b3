-- The judgement of a table from the rounds that were made and what the last one found.
use Rattle.std.proofs.Common.{◌≡◌, ℕ, ◌+◌, ◌<◌, Bool, List, length, Some, None, Option, ℤ, refl, sym, ap, ◌∙◌, arith}
use Rattle.std.proofs.lemmas.Int.{ints}
use Rattle.closing.specs.Sets.{Flags, Within, Same, count}
use Rattle.closing.specs.Rounds.{Outcome, without_end, settled, set_of, Rounds, endless, at_rest, SameOutcome}
use Rattle.closing.proofs.Runs.{same_within, same_sym}
use Rattle.design.specs.Table.{Table}
use Rattle.design.specs.SoFar.{Stands}
use Rattle.timing.specs.declared.windows.Window.{Window}
use Rattle.timing.specs.Windows.{IsWindow, IsLate, IsEarly}
use Rattle.timing.specs.Breaches.{Lowest, EndlessLatch, LateBy, EarlyBy}
use Rattle.timing.proofs.Grow.{late_grows, early_grows, window_same}
use Rattle.rules.specs.Questions.{Question, Lawful}
use Rattle.judging.specs.declared.verdict.Verdict.{Verdict}
use Rattle.judging.specs.declared.verdict.Verdict.TheVariants.{Pass, Gain, Late, Early}
use Rattle.judging.specs.declared.verdict.Judgement.{Judgement}
use Rattle.judging.specs.Couplings.{system_of}
use Rattle.judging.specs.Verdicts.{IsVerdict, IsGain, Shown, Judged}
use Rattle.judging.proofs.Instance.{endless_grows, lateness_grows, earliness_grows}
use Rattle.judging.proofs.Meaning.{verdicts_are_right}
use Rattle.windows.specs.declared.flags.Flag.{Flag}
use Rattle.windows.specs.declared.checked.Breach.{Breach}
use Rattle.windows.specs.declared.checked.Checked.TheVariants.{Ended}
use Rattle.windows.specs.Effective.{is_flagged}
use Rattle.windows.specs.Written.{window_at}
use Rattle.windows.specs.Answers.{LateSaid, EarlySaid, WindowsFound}
use Rattle.verifying.specs.Asking.{seen_in, FlaggedSeen}
use Rattle.verifying.specs.Found.{verdict_of}
use Rattle.verifying.specs.Answers.{JudgedRight}
use Rattle.verifying.proofs.Rounds.{all_end, none_fresh, same_flags, Begun}

-- the verdict on windows that have ends is that of the latches which are late or early
verdict_found : (t : Table) (S : Flags) (late early : Option Breach) → LateSaid t S late → EarlySaid t S early → IsVerdict t S (verdict_of (Ended late early))
verdict_found t S (Some late) early late_said early_said = late_said
verdict_found t S None (Some early) late_said early_said = (late_said, early_said.0, early_said.1)
verdict_found t S None None late_said early_said = (late_said, early_said)

-- the lowest node of which something holds is the lowest of which the same holds
lowest_same : (t : Table) (A B : ℕ → Type 0) (v : ℕ) → ((u : ℕ) → A u → B u) → ((u : ℕ) → B u → A u) → Lowest t A v → Lowest t B v
lowest_same t A B v more less low = (low.0, more v low.1, λ u lt h. low.2 u lt (less u h))

module _ (t : Table) (S T : Flags) (there : Within (length t.couplings) S T) (back : Within (length t.couplings) T S) where
  -- under sets with the same couplings a latch is late by the same excess
  late_by_same : (v : ℕ) (excess : ℤ) → LateBy t S v excess → LateBy t T v excess
  late_by_same v excess h = (
    h.0,
    record {
      path = h.1.path;
      picked = h.1.picked;
      reached = omega (arith, ints, late_grows t S T there v h.1.path, late_grows t T S back v h.1.path, h.1.reached);
      most = λ p picked. omega (arith, ints, late_grows t S T there v p, late_grows t T S back v p, h.1.most p picked);
    },
    h.2,
  )

  -- and early by the same
  early_by_same : (v : ℕ) (excess : ℤ) → EarlyBy t S v excess → EarlyBy t T v excess
  early_by_same v excess h = (
    h.0,
    record {
      path = h.1.path;
      picked = h.1.picked;
      reached = omega (arith, ints, early_grows t S T there v h.1.path, early_grows t T S back v h.1.path, h.1.reached);
      least = λ p picked. omega (arith, ints, early_grows t S T there v p, early_grows t T S back v p, h.1.least p picked);
    },
    h.2,
  )

  -- the verdict under one is that under the other
  verdict_same : (x : Verdict) → IsVerdict t S x → IsVerdict t T x
  verdict_same Pass h = (λ v lt late. h.0 v lt (lateness_grows t T S back v late), λ v lt early. h.1 v lt (earliness_grows t T S back v early))
  verdict_same (Gain latch) h = h
  verdict_same (Late latch excess) h = (lowest_same t (IsLate t S) (IsLate t T) latch (lateness_grows t S T there) (lateness_grows t T S back) h.0, late_by_same latch excess h.1)
  verdict_same (Early latch excess) h = (
    λ v lt late. h.0 v lt (lateness_grows t T S back v late),
    lowest_same t (IsEarly t S) (IsEarly t T) latch (earliness_grows t S T there) (earliness_grows t T S back) h.1,
    early_by_same latch excess h.2,
  )

  -- and so is gain
  gain_same : (x : Verdict) → IsGain t S x → IsGain t T x
  gain_same Pass h = h
  gain_same (Gain latch) h = lowest_same t (EndlessLatch t S) (EndlessLatch t T) latch (endless_grows t S T there) (endless_grows t T S back) h
  gain_same (Late latch excess) h = h
  gain_same (Early latch excess) h = h

-- what is shown of an outcome is shown of each that is the same
shown_same : (t : Table) (windows : ℕ → Window) (o o' : Outcome) (x : Verdict) → SameOutcome (length t.couplings) o o' → Shown t windows o x → Shown t windows o' x
shown_same t windows (without_end F) (without_end G) x same shown =
    gain_same t F G (same_within (length t.couplings) F G same) (same_within (length t.couplings) G F (same_sym (length t.couplings) F G same)) x shown
shown_same t windows (without_end F) (settled G) x same shown = absurd same
shown_same t windows (settled F) (without_end G) x same shown = absurd same
shown_same t windows (settled F) (settled G) x same shown =
    let there = same_within (length t.couplings) F G same in
    let back = same_within (length t.couplings) G F (same_sym (length t.couplings) F G same) in
    (verdict_same t F G there back x shown.0, λ v lt. window_same t F G there back v (windows v) (shown.1 v lt))

-- the flags of outcomes that are the same
flags_same : (n : ℕ) (o o' : Outcome) → SameOutcome n o o' → Same n (set_of o) (set_of o')
flags_same n (without_end F) (without_end G) same = same
flags_same n (without_end F) (settled G) same = absurd same
flags_same n (settled F) (without_end G) same = absurd same
flags_same n (settled F) (settled G) same = same

module _ (t : Table) (sees : Question → Bool) (stands : Stands t) (lawful : Lawful sees) (j : Judgement) where
  -- the judgement when the last round had this outcome
  judged : (flags final : List Flag) (windows : List Window) (made : ℕ) (o : Outcome) → Begun t sees flags made → Rounds (system_of t sees) (is_flagged flags) 1 o → set_of o ≡ is_flagged flags →
      Same (length t.couplings) (is_flagged final) (is_flagged flags) → j.rounds ≡ made + 1 → j.flags ≡ count (length t.couplings) (is_flagged final) → Shown t (window_at windows) o j.verdict →
      JudgedRight t sees j final windows
  judged flags final windows made o begun last flags_of same rounds counted shown =
      let all = begun.rounds 1 o last in
      let whole : Judged t sees j (is_flagged final) (window_at windows) =
      record {
        outcome = all.0;
        rounds = rw rounds all.1;
        flags = λ c lt. same c lt ∙ (sym (ap (λ F. F c) flags_of) ∙ flags_same (length t.couplings) o all.0 all.2 c lt);
        count = counted;
        shown = shown_same t (window_at windows) o all.0 j.verdict all.2 shown;
      } in
      (whole, verdicts_are_right t sees j (is_flagged final) (window_at windows) stands lawful whole)

  -- where a window has no end the last round is endless
  pub judged_endless : (flags : List Flag) (windows : List Window) (made latch : ℕ) → Begun t sees flags made → Lowest t (EndlessLatch t (is_flagged flags)) latch →
      j.verdict ≡ Gain latch → j.rounds ≡ made + 1 → j.flags ≡ count (length t.couplings) (is_flagged flags) → JudgedRight t sees j flags windows
  judged_endless flags windows made latch begun endless_at verdict rounds counted =
      judged flags flags windows made (without_end (is_flagged flags)) begun (endless (latch, endless_at.0, endless_at.1.1)) refl (λ c lt. refl) rounds counted (rw verdict endless_at)

  -- where all windows have an end and no flag is set anew it is at rest
  pub judged_at_rest : (flags final : List Flag) (windows : List Window) (found : ℕ → Window) (made fresh : ℕ) (late early : Option Breach) → Begun t sees flags made → ((v : ℕ) → v < length t.nodes → IsWindow t (is_flagged flags) v (found v)) →
      FlaggedSeen (seen_in t.clock t.nodes found sees) t.couplings flags final fresh → fresh ≡ 0 → WindowsFound t (is_flagged flags) windows (Ended late early) →
      j.verdict ≡ verdict_of (Ended late early) → j.rounds ≡ made + 1 → j.flags ≡ count (length t.couplings) (is_flagged final) → JudgedRight t sees j final windows
  judged_at_rest flags final windows found made fresh late early begun ends asked none written verdict rounds counted =
      judged flags final windows made (settled (is_flagged flags)) begun
      (at_rest (all_end t (is_flagged flags) found ends) (none_fresh t sees stands found flags final fresh ends asked none))
      refl
      (same_flags t sees stands found flags final fresh ends asked none)
      rounds counted
      (rw verdict (verdict_found t (is_flagged flags) late early written.1 written.2), written.0)
