-- Whether a list of starts falls anywhere, from what is known of each start and the next.
use Rattle.std.proofs.Common.{◌≡◌, ℕ, zero, suc, ◌<◌, ◌≤◌, Bool, true, false, List, [], ◌∷◌, length, get_or, refl, sym, nat_cmp, add-one, arith}
use Rattle.std.proofs.lemmas.Bool.Decides.{nat_tests}
use Rattle.std.proofs.lemmas.List.Sorted.{non_decreasing_from_is_sorted}
use Rattle.std.specs.Ordering.{is_le, is_some_and}
use Rattle.std.specs.List.{IsAllAdjacentAnswer}
use Rattle.std.specs.Prelude.{Some}
use Rattle.schedule.specs.Clock.{never_falls, never_falls_from}

rises : (low : ℕ) (xs : List ℕ) → (0 < length xs → low ≤ get_or xs 0 0) → ((k : ℕ) → suc k < length xs → get_or xs k 0 ≤ get_or xs (suc k) 0) → never_falls_from low xs ≡ true
rises low [] first next = refl
rises low (x ∷ xs) first next =
    let rest = rises x xs (λ h. next 0 (omega (arith, h))) (λ k h. next (suc k) (omega (arith, h))) in
    let le : low ≤ x = first (omega arith) in
    grind (arith, nat_tests)

falls : (low : ℕ) (xs : List ℕ) (k : ℕ) → suc k < length xs → get_or xs (suc k) 0 < get_or xs k 0 → never_falls_from low xs ≡ false
falls low [] k h lt = absurd (omega arith)
falls low (x ∷ []) k h lt = absurd (omega arith)
falls low (x ∷ (y ∷ xs)) zero h lt = grind (arith, nat_tests)
falls low (x ∷ (y ∷ xs)) (suc k) h lt = let rest = falls x (y ∷ xs) k (omega (arith, h)) lt in grind (arith, nat_tests)

-- what the library's test of a sorted slice answers
pub sorted_never_falls : (xs : List ℕ) (b : Bool) → IsAllAdjacentAnswer (λ x y b. is_some_and is_le (Some (nat_cmp x y)) ≡ b) xs b → b ≡ never_falls xs
sorted_never_falls xs true h = let n = non_decreasing_from_is_sorted xs true h in sym (rises 0 xs (λ _. omega arith) (λ k lt. n k (suc k) 0 (omega arith) lt))
sorted_never_falls xs false h = let n = non_decreasing_from_is_sorted xs false h in sym (falls 0 xs n.0 (omega (arith, n.1)) (rw add-one at (n.2 0)))
