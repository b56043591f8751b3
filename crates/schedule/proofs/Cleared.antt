-- Clocks with zeros in the places past their last phase: they are lawful as before, and clearing them again changes nothing.
use Rattle.std.proofs.Common.{◌≡◌, ℕ, ◌-◌, ◌≤◌, true, List, ◌++◌, length, take, drop, replicate, arith}
use Rattle.std.proofs.lemmas.List.{drop-replicate, length-take, length-take-le, take_at, length-append, length-replicate}
use Rattle.std.proofs.lemmas.Bool.Decides.{nat_tests}
use Rattle.schedule.specs.Clock.{Clock, lawful, cleared, cleared_places}
use Rattle.schedule.proofs.Lawful.{phases_bounds, places_bounds}

-- entries that are copied over sixteen zeros
pub cleared_copy : (n k : ℕ) (xs ys : List ℕ) → k ≡ n → ys ≡ take k xs → ys ++ drop k (replicate {A = ℕ} 16 0) ≡ cleared_places n xs
cleared_copy n k xs ys e f = let d : drop n (replicate {A = ℕ} 16 0) ≡ replicate {A = ℕ} (16 - n) 0 = drop-replicate n 16 0 in cc

pub take-cleared : (n : ℕ) (xs : List ℕ) → n ≤ length xs → take n (cleared_places n xs) ≡ take n xs
take-cleared n xs le = take_at (take n xs) (replicate (16 - n) 0) n (length-take-le n xs le)

pub length-cleared : (n : ℕ) (xs : List ℕ) → n ≤ length xs → n ≤ 16 → length (cleared_places n xs) ≡ 16
length-cleared n xs le few = grind (arith, length-append, length-replicate, length-take)

pub cleared_twice : (n : ℕ) (xs : List ℕ) → n ≤ length xs → cleared_places n (cleared_places n xs) ≡ cleared_places n xs
cleared_twice n xs le = rw (take-cleared n xs le)

pub cleared-lawful : (c : Clock) → lawful c ≡ true → lawful (cleared c) ≡ true
cleared-lawful c h =
    let n = places_bounds c h in
    let m = phases_bounds c h in
    grind (arith, nat_tests, take-cleared, length-cleared)

-- a clock that is cleared twice is cleared once
pub cleared_again : (c : Clock) → lawful c ≡ true → cleared (cleared c) ≡ cleared c
cleared_again c h = grind (arith, places_bounds, cleared_twice)
