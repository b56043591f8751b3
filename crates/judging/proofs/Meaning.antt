-- What the rounds on a table find, and that a judgement made of them is right.
use Rattle.std.proofs.Common.{◌≡◌, ℕ, ◌+◌, ◌≤◌, Bool, length, refl, sym, ◌∙◌, arith}
use Rattle.closing.specs.Sets.{Flags, empty, Same}
use Rattle.closing.specs.Rounds.{Outcome, without_end, settled, set_of, Means}
use Rattle.closing.proofs.Runs.{same_sym, empty-in, few, right, closed_same}
use Rattle.design.specs.Table.{Table}
use Rattle.design.specs.SoFar.{Stands}
use Rattle.timing.specs.declared.windows.Window.{Window}
use Rattle.timing.specs.Windows.{IsLate, IsEarly}
use Rattle.timing.specs.Breaches.{NoNode}
use Rattle.timing.proofs.Grow.{windows_grow}
use Rattle.rules.specs.Questions.{Question, Lawful}
use Rattle.judging.specs.declared.verdict.Verdict.{Verdict}
use Rattle.judging.specs.declared.verdict.Verdict.TheVariants.{Pass, Gain, Late, Early}
use Rattle.judging.specs.declared.verdict.Judgement.{Judgement}
use Rattle.judging.specs.Couplings.{system_of}
use Rattle.judging.specs.Verdicts.{number_of, IsVerdict, IsGain, Shown}
use Rattle.judging.specs.Right.{Right}
use Rattle.judging.specs.Theorems.{VerdictsAreRight, RoundsAreRight}
use Rattle.judging.proofs.Instance.{monotone, bounded_alike, lateness_grows, earliness_grows}

-- rounds are few, and what their outcome means is so
pub rounds_are_right : RoundsAreRight
rounds_are_right t sees S k o stands lawful within r = (few (system_of t sees) r, right (system_of t sees) (monotone t sees stands lawful) within r)

-- a verdict that passes leaves no latch late or early
passing : (t : Table) (F : Flags) (x : Verdict) → IsVerdict t F x → number_of x ≡ 0 → NoNode t (IsLate t F) × NoNode t (IsEarly t F)
passing t F Pass h e = h
passing t F (Gain latch) h e = absurd h
passing t F (Late latch excess) h e = absurd (omega (arith, e))
passing t F (Early latch excess) h e = absurd (omega (arith, e))

-- and where none is late or early, the verdict passes
passed : (t : Table) (F : Flags) (x : Verdict) → IsVerdict t F x → NoNode t (IsLate t F) → NoNode t (IsEarly t F) → number_of x ≡ 0
passed t F Pass h none_late none_early = refl
passed t F (Gain latch) h none_late none_early = absurd h
passed t F (Late latch excess) h none_late none_early = absurd (none_late latch h.0.0 h.0.1)
passed t F (Early latch excess) h none_late none_early = absurd (none_early latch h.1.0 h.1.1)

-- the verdict on windows that have ends is not gain
not_gain : (t : Table) (F : Flags) (x : Verdict) → IsVerdict t F x → number_of x ≡ 64 → ⊥
not_gain t F Pass h e = omega (arith, e)
not_gain t F (Gain latch) h e = h
not_gain t F (Late latch excess) h e = omega (arith, e)
not_gain t F (Early latch excess) h e = omega (arith, e)

-- and that on a window without an end is
pub is_gain : (t : Table) (F : Flags) (x : Verdict) → IsGain t F x → number_of x ≡ 64
is_gain t F Pass h = absurd h
is_gain t F (Gain latch) h = refl
is_gain t F (Late latch excess) h = absurd h
is_gain t F (Early latch excess) h = absurd h

-- a judgement whose rounds have this outcome is right
right_of : (t : Table) (sees : Question → Bool) (j : Judgement) (S : Flags) (windows : ℕ → Window) (o : Outcome) → Stands t → Lawful sees → j.rounds ≤ length t.couplings + 1 → Means (system_of t sees) empty o → Same (length t.couplings) S (set_of o) → Shown t windows o j.verdict → Right t sees j S windows
right_of t sees j S windows (without_end F) stands lawful at_most means same shown =
    let gain = is_gain t F j.verdict shown in
    record {
      passes = (
        λ e. absurd (omega (arith, gain, e)),
        λ closed. absurd (means closed.0 closed.1),
      );
      gains = (λ e. means, λ none. gain);
      closed = λ other. absurd (other gain);
      least = λ other. absurd (other gain);
      few = at_most;
    }
right_of t sees j S windows (settled F) stands lawful at_most means same shown =
    let n : ℕ = length t.couplings in
    let ends : number_of j.verdict ≡ 64 → ⊥ = not_gain t F j.verdict shown.0 in
    let least = means.0.least in
    record {
      passes = (
        λ e. let p = passing t F j.verdict shown.0 e in (F, means.0.closed, p.0, p.1),
        λ closed.
            passed t F j.verdict shown.0
            (λ v lt h. closed.2 v lt (lateness_grows t F closed.0 (least closed.0 closed.1) v h))
            (λ v lt h. closed.3 v lt (earliness_grows t F closed.0 (least closed.0 closed.1) v h)),
      );
      gains = (λ e. absurd (ends e), λ none. absurd (none F means.0.closed));
      closed = λ other. closed_same (system_of t sees) (monotone t sees stands lawful) (bounded_alike t sees) F S (same_sym n S F same) means.0.closed;
      least = λ other T closed. (
        λ c lt set. least T closed c lt (sym (same c lt) ∙ set),
        λ v w lt h. (windows_grow t F T (least T closed) v).0 (windows v) w (shown.1 v lt) h,
      );
      few = at_most;
    }

-- every judgement is right
pub verdicts_are_right : VerdictsAreRight
verdicts_are_right t sees j S windows stands lawful judged =
    let mean = rounds_are_right t sees empty j.rounds judged.outcome stands lawful (empty-in (system_of t sees)) judged.rounds in
    let at_most : j.rounds ≤ length t.couplings + 1 = omega (arith, mean.0) in
    right_of t sees j S windows judged.outcome stands lawful at_most mean.1 judged.flags judged.shown
