-- Numbers in four bytes, and bytes of items made one list.
use Rattle.std.proofs.Common.{◌≡◌, ℕ, ◌/◌, ◌%◌, List, [], ◌∷◌, ◌++◌, get_or, map, refl, sym, ap, ◌∙◌, div-one}
use Rattle.std.proofs.lemmas.List.{append_assoc}
use Rattle.std.proofs.lemmas.List.Folds.{flat_map-map}
use Rattle.schedule.specs.Clock.{Clock}
use Rattle.std.specs.List.{flat_map}
use Rattle.frames.specs.Frames.{bytes_in}
use Rattle.loading.specs.Writing.{phase_bytes}

-- a number in four bytes
pub four_bytes : (x : ℕ) → x / 16777216 % 256 ∷ x / 65536 % 256 ∷ x / 256 % 256 ∷ x % 256 ∷ [] ≡ bytes_in 4 x
four_bytes x = ap (λ n. x / 16777216 % 256 ∷ x / 65536 % 256 ∷ x / 256 % 256 ∷ n % 256 ∷ []) (sym (div-one x))

-- the bytes of numbers, flattened
pub flattened_is : (bss : List (List ℕ)) (xs : List ℕ) → bss ≡ map (bytes_in 2) xs → flat_map (λ bs. bs) bss ≡ flat_map (bytes_in 2) xs
flattened_is bss xs e = rw e (flat_map-map (λ bs. bs) (bytes_in 2) xs)

-- the starts and the widths of phases, flattened
pub phases_are : (c : Clock) (ks : List ℕ) → flat_map (λ xs. xs) (flat_map (λ xss. xss) (map (λ k. bytes_in 4 (get_or c.starts k 0) ∷ bytes_in 4 (get_or c.widths k 0) ∷ []) ks)) ≡ flat_map (phase_bytes c) ks
phases_are c [] = refl
phases_are c (k ∷ ks) =
    let start = bytes_in 4 (get_or c.starts k 0) in
    let width = bytes_in 4 (get_or c.widths k 0) in
    ap (λ l. start ++ (width ++ l)) (phases_are c ks) ∙ sym (append_assoc start width (flat_map (phase_bytes c) ks))
