-- What the tests say of a table, said of the lent rows that it is made of.
use Rattle.std.proofs.Common.{◌≡◌, ℕ, zero, suc, ◌+◌, ◌<◌, ◌≤◌, Bool, true, false, cond, eqb, not, ◌&&◌, ◌||◌, ltb, leb, List, [], ◌∷◌, ◌++◌, map, sum, length, get_or, take, set, refl, ap, ◌∙◌, add-one, arith, drop-set-lt}
use Rattle.std.proofs.lemmas.Bool.Decides.{leb_tells, eqb_tells, nat_tests}
use Rattle.std.proofs.lemmas.List.{get_or_past, length-take, get_or-take}
use Rattle.design.specs.declared.nodes.Node.{Node}
use Rattle.design.specs.declared.nodes.Node.TheVariants.{Free}
use Rattle.design.specs.Rows.{no_coupling}
use Rattle.design.specs.Table.{State, unopened, draft, sealed, is_open, Loan, lent_in, first}
use Rattle.design.specs.Calls.{among}
use Rattle.design.specs.Tests.{other_in, is_other, any_other, is_short}
use Rattle.states.specs.declared.counts.Counts.{Counts}
use Rattle.states.specs.Views.{table_of}
use Rattle.states.specs.Roles.{any_other_in}

pub length-first : {X : Type 0} (d : X) (n : ℕ) (xs : List X) → length (first d n xs) ≡ n
length-first d zero xs = refl
length-first d (suc n) [] = ap suc (length-first d n [])
length-first d (suc n) (x ∷ xs) = ap suc (length-first d n xs)

-- the granted rows that a table has
pub take-first : {X : Type 0} (d : X) (n : ℕ) (xs : List X) → take (length xs) (first d n xs) ≡ take n xs
take-first d zero [] = refl
take-first d zero (x ∷ xs) = refl
take-first d (suc n) [] = refl
take-first d (suc n) (x ∷ xs) = ap (λ l. x ∷ l) (take-first d n xs)

-- the first rows of a table that has as many
pub first_taken : {X : Type 0} (d : X) (n : ℕ) (xs : List X) → n ≤ length xs → first d n xs ≡ take n xs
first_taken d zero xs h = refl
first_taken d (suc n) [] h = absurd (omega arith)
first_taken d (suc n) (x ∷ xs) h = ap (λ l. x ∷ l) (first_taken d n xs (omega arith))

first_suc_set : {X : Type 0} (d : X) (n : ℕ) (xs : List X) (y : X) → n < length xs → first d (suc n) (set xs n y) ≡ first d n xs ++ y ∷ []
first_suc_set d zero [] y h = absurd (omega arith)
first_suc_set d zero (x ∷ xs) y h = refl
first_suc_set d (suc n) [] y h = absurd (omega arith)
first_suc_set d (suc n) (x ∷ xs) y h = ap (λ l. x ∷ l) (first_suc_set d n xs y (omega arith))

-- a row written behind the first n
pub first-more-set : {X : Type 0} (d : X) (n : ℕ) (xs : List X) (y : X) → n < length xs → first d (n + 1) (set xs n y) ≡ first d n xs ++ y ∷ []
first-more-set d n xs y h = rw add-one (first_suc_set d n xs y h)

-- a row written among the first n
pub first-set : {X : Type 0} (d : X) (n i : ℕ) (xs : List X) (y : X) → i < n → n ≤ length xs → first d n (set xs i y) ≡ set (first d n xs) i y
first-set d zero i xs y h k = absurd (omega arith)
first-set d (suc n) i [] y h k = absurd (omega arith)
first-set d (suc n) zero (x ∷ xs) y h k = refl
first-set d (suc n) (suc i) (x ∷ xs) y h k = ap (λ l. x ∷ l) (first-set d n i xs y (omega arith) (omega arith))

-- a row among the first n
pub get_or-first : {X : Type 0} (d : X) (n i : ℕ) (xs : List X) → i < n → get_or (first d n xs) i d ≡ get_or xs i d
get_or-first d zero i xs h = absurd (omega arith)
get_or-first d (suc n) zero [] h = refl
get_or-first d (suc n) zero (x ∷ xs) h = refl
get_or-first d (suc n) (suc i) [] h = get_or-first d n i [] (omega arith)
get_or-first d (suc n) (suc i) (x ∷ xs) h = get_or-first d n i xs (omega arith)

-- a granted row that the table has
other_seen : (allowed : Node → Bool) (s : State) (n : Counts) (loan : Loan) (k : ℕ) → is_other allowed (lent_in loan) (table_of s n loan) k ≡ other_in allowed n.nodes loan.nodes k
other_seen allowed s n loan k = grind (arith, nat_tests, length-first, take-first, length-take, get_or-take)

pub any_other_seen : (allowed : Node → Bool) (s : State) (n : Counts) (loan : Loan) (ks : List ℕ) → any_other allowed (lent_in loan) (table_of s n loan) ks ≡ any_other_in allowed n.nodes loan.nodes ks
any_other_seen allowed s n loan [] = refl
any_other_seen allowed s n loan (k ∷ ks) =
    ap (λ b. b || any_other allowed (lent_in loan) (table_of s n loan) ks) (other_seen allowed s n loan k)
    ∙ ap (λ b. other_in allowed n.nodes loan.nodes k || b) (any_other_seen allowed s n loan ks)

pub short_seen : (s : State) (n : Counts) (loan : Loan) (a b : ℕ) → is_short (lent_in loan) (table_of s n loan) a b ≡ (ltb (length loan.nodes) (n.nodes + a) || ltb (length loan.couplings) (n.couplings + b))
short_seen s n loan a b =
    ap (λ m. ltb (length loan.nodes) (m + a) || ltb (length loan.couplings) (length (first no_coupling n.couplings loan.couplings) + b)) (length-first Free n.nodes loan.nodes)
    ∙ ap (λ m. ltb (length loan.nodes) (n.nodes + a) || ltb (length loan.couplings) (m + b)) (length-first no_coupling n.couplings loan.couplings)

-- an open table takes another schedule
pub open_taken : (s : State) → is_open s ≡ true → among s (draft ∷ sealed ∷ []) ≡ true
open_taken draft e = refl
open_taken sealed e = refl
open_taken unopened e = cc

pub ruleset table = (leb_tells, eqb_tells, length-first, take-first, first-more-set, first-set, get_or-first, drop-set-lt, get_or_past, length-take, get_or-take)
