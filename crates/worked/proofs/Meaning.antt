-- What the judgements of design K say of all sets of its couplings.
use Rattle.std.proofs.Common.{◌≡◌, ℕ, Bool, true, false, List, [], get_or, pos, refl, arith}
use Rattle.timing.specs.declared.windows.Window.{Window}
use Rattle.rules.specs.Rules.{three_occurrences}
use Rattle.rules.specs.Laws.{three_occurrences_lawful}
use Rattle.judging.specs.declared.verdict.Judgement.{Judgement}
use Rattle.judging.specs.declared.verdict.Verdict.TheVariants.{Pass, Gain, Late, Early}
use Rattle.judging.specs.Right.{Right}
use Rattle.judging.proofs.Meaning.{verdicts_are_right}
use Rattle.worked.specs.Designs.{design_k}
use Rattle.worked.specs.Examples.{judged_as, from_to, judgement, both, windows_of_k}
use Rattle.worked.specs.ClosedSets.{ClosedSetsOfK}
use Rattle.worked.proofs.Holding.{all_designs_stand, passes, judged}

-- a judgement of design K that passes its test is right
right_of_k : (opposing hold : ℕ) (j : Judgement) (flags : List Bool) (windows : List Window) → passes (judged_as (design_k opposing hold) three_occurrences j flags windows) ≡ true
    → Right (design_k opposing hold) three_occurrences j (λ c. get_or flags c false) (λ v. get_or windows v (from_to (pos 0) (pos 0)))
right_of_k opposing hold j flags windows e =
    let stands = all_designs_stand opposing hold in
    verdicts_are_right (design_k opposing hold) three_occurrences j _ _ stands three_occurrences_lawful (judged (design_k opposing hold) three_occurrences j flags windows stands e)

pub closed_sets_of_k : ClosedSetsOfK
closed_sets_of_k =
    let pass = right_of_k 9 3 (judgement Pass 3 2) both (windows_of_k (from_to (pos 67) (pos 92)) (from_to (pos 60) (pos 60))) refl in
    let late = right_of_k 48 3 (judgement (Late 6 (pos 1)) 3 2) both (windows_of_k (from_to (pos 67) (pos 92)) (from_to (pos 60) (pos 96))) refl in
    let early = right_of_k 9 21 (judgement (Early 6 (pos 1)) 3 2) both (windows_of_k (from_to (pos 67) (pos 92)) (from_to (pos 60) (pos 60))) refl in
    let gain = right_of_k 59 3 (judgement (Gain 0) 3 2) both [] refl in
    record {
      closed = pass.closed (λ e. absurd (omega (arith, e)));
      least = λ T closed. (pass.least (λ e. absurd (omega (arith, e))) T closed).0;
      shown = λ T w closed is. (pass.least (λ e. absurd (omega (arith, e))) T closed).1 4 w (omega arith) is;
      passes = let (T, closed, none_late, none_early) = pass.passes.0 refl in (T, closed, (none_late, none_early));
      late = λ T closed none. omega (arith, late.passes.1 (T, closed, none.0, none.1));
      early = λ T closed none. omega (arith, early.passes.1 (T, closed, none.0, none.1));
      gains = gain.gains.0 refl;
    }
