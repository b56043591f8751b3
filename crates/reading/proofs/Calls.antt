-- An array that a closure fills by calls at each place in turn.
use Rattle.std.proofs.Common.{◌≡◌, ℕ, zero, suc, ◌+◌, ◌<◌, ◌≤◌, List, map, get_or, subst, ◌∙◌, arith}
use Rattle.std.proofs.lemmas.List.FromFn.{fill_by_all}
use Rattle.std.specs.List.{range_with_len}
use Rattle.std.specs.Array.{IsFromFnResult, IsFromFnResultFrom}
use Rattle.std.specs.Fn.{Called}
use denote.Param.Members.{Mut}

-- each call at a place from i on, n of them, leaves the closure as it was and answers v of the place
abbrev Answers : {F B : Type 0} → Mut F (ℕ × Unit {0}) B → (ℕ → B) → F → ℕ → ℕ → Type 0
Answers {F} {B} g v f i n = (k : ℕ) (y : B) (q : F) → i ≤ k → k < i + n → Called g f (k, tt) y q → (q ≡ f) × (y ≡ v k)

-- place k lies j places behind i
filled_from : {F B : Type 0} (g : Mut F (ℕ × Unit {0}) B) (v : ℕ → B) (ys : List B) (f : F) (i n : ℕ) → Answers g v f i n → IsFromFnResultFrom g f ys i n
    → (k j : ℕ) (d : B) → k ≡ i + j → j < n → get_or ys k d ≡ v k
filled_from g v ys f i zero calls h k j d e lt = absurd (omega (arith, lt))
filled_from {F} g v ys f i (suc n) calls h k zero d e lt =
    let same : k ≡ i = omega arith in
    let first = calls i h.1 h.0 (omega arith) (omega arith) h.3 in
    rw same (h.2.1 d ∙ first.1)
filled_from {F} g v ys f i (suc n) calls h k (suc j) d e lt =
    let first = calls i h.1 h.0 (omega arith) (omega arith) h.3 in
    let rest : IsFromFnResultFrom g f ys (i + 1) n = subst (λ (q : F). IsFromFnResultFrom g q ys (i + 1) n) first.0 h.4 in
    filled_from g v ys f (i + 1) n (λ m y q low high. calls m y q (omega (arith, low)) (omega (arith, high))) rest k j d (omega (arith, e)) (omega (arith, lt))

-- where each call leaves the closure as it was and answers v of the place, the array is v of each place
pub filled_by : {F B : Type 0} (g : Mut F (ℕ × Unit {0}) B) (v : ℕ → B) (ys : List B) (f : F) (n : ℕ) (d : B) → Answers g v f 0 n → IsFromFnResult g f ys n → ys ≡ map v (range_with_len 0 n)
filled_by g v ys f n d calls h = fill_by_all v ys n d h.long (λ k lt. filled_from g v ys f 0 n calls h.each k k d (omega arith) lt)
