-- How many flags are set, and that there are more where one is set besides.
use Rattle.std.proofs.Common.{◌≡◌, ℕ, zero, suc, ◌<◌, ◌≤◌, true, false, refl, ⊎_elim, arith}
use Rattle.std.proofs.lemmas.Bool.{cases_lt}
use Rattle.closing.specs.Sets.{Flags, empty, Within, Same, count}

-- no more flags are set than there are
pub count-most : (n : ℕ) (S : Flags) → count n S ≤ n
count-most zero S = omega arith
count-most (suc n) S = let below = count-most n S in grind arith

-- sets that have the same flags have equally many
pub count-same : (n : ℕ) (S T : Flags) → Same n S T → count n S ≡ count n T
count-same zero S T same = refl
count-same (suc n) S T same =
    let below = count-same n S T (λ c lt. same c (omega (arith, lt))) in
    let here : S n ≡ T n = same n (omega arith) in
    grind arith

-- where no flag is set, none is counted
pub count-none : (n : ℕ) (S : Flags) → ((c : ℕ) → c < n → S c ≡ false) → count n S ≡ 0
count-none zero S unset = refl
count-none (suc n) S unset =
    let below = count-none n S (λ c lt. unset c (omega (arith, lt))) in
    let here : S n ≡ false = unset n (omega arith) in
    grind arith

-- so none is counted in the empty set
pub count-empty : (n : ℕ) → count n empty ≡ 0
count-empty n = count-none n empty (λ c lt. refl)

-- one set within another, with the last flag left out
narrowed : (n : ℕ) (S T : Flags) → Within (suc n) S T → Within n S T
narrowed n S T w c lt = w c (omega (arith, lt))

-- a set within another has no more flags
pub count-within : (n : ℕ) (S T : Flags) → Within n S T → count n S ≤ count n T
count-within zero S T w = omega arith
count-within (suc n) S T w =
    let below = count-within n S T (narrowed n S T w) in
    let here : S n ≡ true → T n ≡ true = w n (omega arith) in
    grind arith

-- it has fewer, if some flag of the other is not its own
pub count-gains : (n : ℕ) (S T : Flags) (c : ℕ) → Within n S T → c < n → S c ≡ false → T c ≡ true → count n S < count n T
count-gains zero S T c w lt unset set = absurd (omega (arith, lt))
count-gains (suc n) S T c w lt unset set =
    ⊎_elim
    (λ (before : c < n).
    let more = count-gains n S T c (narrowed n S T w) before unset set in
    let here : S n ≡ true → T n ≡ true = w n (omega arith) in
    grind arith)
    (λ (last : n ≤ c).
    let same : c ≡ n = omega (arith, lt, last) in
    let below = count-within n S T (narrowed n S T w) in
    let out : S n ≡ false = rw same at unset in
    let in_T : T n ≡ true = rw same at set in
    grind arith)
    (cases_lt c n)
