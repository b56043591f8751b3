-- Tests of all numbers below one, and lists filled by a function of their places.
use Rattle.std.proofs.Common.{◌≡◌, ℕ, zero, suc, ◌<◌, Bool, true, false, ◌||◌, List, [], ◌∷◌, ◌++◌, length, get_or, refl, ◌∙◌, Decides, arith}
use Rattle.std.proofs.lemmas.Bool.{agree_below, agree_below_at}
use Rattle.std.proofs.lemmas.Bool.Decides.{Decides-below_or, not_from_Decides}
use Rattle.std.proofs.lemmas.List.{get_or_append_left, get_or_push, length_push}

-- a test that passes at each number below n
abbrev pub every_below : (ℕ → Bool) → ℕ → Bool
every_below p n = agree_below p (λ k. true) n

-- it passes at each of them
pub every_at : (p : ℕ → Bool) (n k : ℕ) → every_below p n ≡ true → k < n → p k ≡ true
every_at p n k e lt = agree_below_at p (λ k. true) n k e lt

-- a test that passes at some number below n
abbrev pub some_below : (ℕ → Bool) → ℕ → Bool
some_below p zero = false
some_below p (suc n) = p n || some_below p n

-- it tells whether there is such a number
some_decides : (p : ℕ → Bool) (n : ℕ) → Decides (some_below p n) ((k : ℕ) × (k < n) × (p k ≡ true))
some_decides p n = Decides-below_or p (λ k. p k ≡ true) (some_below p) (λ k. (λ e. e, λ e. e)) refl (λ m. refl) n

-- one where it passes
pub some_at : (p : ℕ → Bool) (n : ℕ) → some_below p n ≡ true → (k : ℕ) × (k < n) × (p k ≡ true)
some_at p n = (some_decides p n).0

-- or none
pub none_at : (p : ℕ → Bool) (n k : ℕ) → some_below p n ≡ false → k < n → p k ≡ true → ⊥
none_at p n k e lt h = not_from_Decides (some_below p n) (some_decides p n) e (k, lt, h)

-- the values of a function at the numbers below n
abbrev pub values : {X : Type 0} → (ℕ → X) → ℕ → List X
values f zero = []
values f (suc n) = values f n ++ f n ∷ []

-- so many of them
length-values : {X : Type 0} (f : ℕ → X) (n : ℕ) → length (values f n) ≡ n
length-values f zero = refl
length-values f (suc n) = length_push (values f n) (f n) ∙ omega (arith, length-values f n)

-- each in its place
pub values_at : {X : Type 0} (f : ℕ → X) (n k : ℕ) (d : X) → k < n → get_or (values f n) k d ≡ f k
values_at f zero k d lt = absurd (omega arith)
values_at f (suc n) k d lt = grind (arith, get_or_append_left, get_or_push, length-values f n, values_at f n k d)
