-- Numbers in the bytes that a frame lists, found again by their places.
use Rattle.std.proofs.Common.{◌≡◌, ℕ, zero, suc, ◌+◌, ◌*◌, ◌^◌, ◌<◌, ◌≤◌, List, [], ◌∷◌, ◌++◌, length, get_or, sym, refl, ap, ◌∙◌, mod-eq_of_lt, arith}
use Rattle.std.specs.List.{flat_map}
use Rattle.std.proofs.lemmas.List.{append_assoc, length-append, get_or_past}
use Rattle.std.proofs.lemmas.List.FromFn.{fill_by_all}
use Rattle.frames.specs.Frames.{bytes_in, number_at}
use Rattle.frames.proofs.Writing.{bytes_in-length, number_back}
use Rattle.loading.specs.Asking.{sources_listed}
use Rattle.text.proofs.Spelled.{Bytes}
use Rattle.loading.proofs.Lines.{bytes_append}

-- no bytes are left from the end on, and none count 0
pub number_past : (w place : ℕ) (bs : List ℕ) → length bs ≤ place → number_at w place bs ≡ 0
number_past zero place bs h = refl
number_past (suc w) place bs h = rw (get_or_past bs place 0 h, number_past w (place + 1) bs (omega arith)) (omega arith)

module _ {A : Type 0} (g : A → List ℕ) where
  -- items that are bytes make bytes
  pub bytes_items : (xs : List A) → ((x : A) → Bytes (g x)) → Bytes (flat_map g xs)
  bytes_items [] each = tt
  bytes_items (x ∷ xs) each = bytes_append (g x) (flat_map g xs) (each x) (bytes_items xs each)

  -- items of one width
  pub length_items : (w : ℕ) (xs : List A) → ((x : A) → length (g x) ≡ w) → length (flat_map g xs) ≡ w * length xs
  length_items w [] each = omega arith
  length_items w (x ∷ xs) each = omega (arith, length-append (g x) (flat_map g xs), each x, length_items w xs each)

  -- a number that fits its bytes, which stand in each item behind as many others, is found again in the item of a number, behind whatever stands before all items
  module _ (v w off : ℕ) (num : A → ℕ) (pre post : A → List ℕ) (split : (x : A) → g x ≡ pre x ++ (bytes_in v (num x) ++ post x)) (wide : (x : A) → length (g x) ≡ w) (before : (x : A) → length (pre x) ≡ off) where
    pub number_among : (front : List ℕ) (xs : List A) (k : ℕ) (d : A) (place : ℕ) → k < length xs → num (get_or xs k d) < 256 ^ v → place ≡ length front + w * k + off → number_at v place (front ++ flat_map g xs) ≡ num (get_or xs k d)
    number_among front [] k d place h fits e = absurd (omega arith)
    number_among front (x ∷ xs) zero d place h fits e =
        let rest = flat_map g xs in
        let parts : front ++ (g x ++ rest) ≡ (front ++ pre x) ++ (bytes_in v (num x) ++ (post x ++ rest)) = rw split (simp append_assoc) in
        ap (number_at v place) parts ∙ number_back v (num x) (front ++ pre x) (post x ++ rest) place (omega (arith, length-append front (pre x), before x)) ∙ mod-eq_of_lt fits
    number_among front (x ∷ xs) (suc k) d place h fits e =
        ap (number_at v place) (sym (append_assoc front (g x) (flat_map g xs)))
        ∙ number_among (front ++ g x) xs k d place (omega arith) fits (omega (arith, length-append front (g x), wide x))

-- the sources that a gate frame lists are found again
pub sources_back : (xs : List ℕ) → ((k : ℕ) → k < length xs → get_or xs k 0 < 65536) → sources_listed (length xs) (flat_map (bytes_in 2) xs) ≡ xs
sources_back xs small =
    sym
    (fill_by_all (λ k. number_at 2 (2 * k) (flat_map (bytes_in 2) xs)) xs (length xs) 0 refl
    (λ k h. sym (number_among (bytes_in 2) 2 2 0 (λ x. x) (λ x. []) (λ x. []) (λ x. refl) (bytes_in-length 2) (λ x. refl) [] xs k 0 (2 * k) h (small k h) (omega arith))))
