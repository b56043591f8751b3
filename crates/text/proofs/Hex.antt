-- Lines of digits, pair by pair.
use Rattle.std.proofs.Common.{◌≡◌, ℕ, zero, suc, ◌+◌, ◌*◌, ◌/◌, ◌%◌, ◌<◌, ◌≤◌, true, List, [], ◌∷◌, length, get_or, refl, arith}
use Rattle.std.specs.Simd.{first_chunks}
use Rattle.std.proofs.lemmas.Bool.Decides.{nat_tests}
use Rattle.text.specs.Digits.{is_digit, every_digit, digit_value, bytes_of, spelled}

pub bytes_length : (xs : List ℕ) → length (bytes_of xs) ≡ length xs / 2
bytes_length [] = refl
bytes_length (x ∷ []) = refl
bytes_length (x ∷ (y ∷ xs)) = omega (arith, bytes_length xs)

-- the byte that two characters stand for, by their places
pub byte_at : (xs : List ℕ) (k : ℕ) → k < length xs / 2 → get_or (bytes_of xs) k 0 ≡ digit_value (get_or xs (2 * k) 0) * 16 + digit_value (get_or xs (2 * k + 1) 0)
byte_at [] k h = absurd (omega arith)
byte_at (x ∷ []) k h = absurd (omega arith)
byte_at (x ∷ (y ∷ xs)) zero h = refl
byte_at (x ∷ (y ∷ xs)) (suc k) h =
    let a : 2 * suc k ≡ suc (suc (2 * k)) = omega arith in
    let b : suc (suc (2 * k)) + 1 ≡ suc (suc (2 * k + 1)) = omega arith in
    rw (a, b) (byte_at xs k (omega arith))

-- both characters of a pair are digits
pub pair_digits : (xs : List ℕ) (n k : ℕ) → every_digit xs ≡ true → 2 * n ≤ length xs → k < n → let p = get_or (first_chunks 2 n xs) k [] in (is_digit (get_or p 0 0) ≡ true) × (is_digit (get_or p 1 0) ≡ true)
pair_digits xs zero k e long h = absurd (omega arith)
pair_digits [] (suc n) k e long h = absurd (omega arith)
pair_digits (x ∷ []) (suc n) k e long h = absurd (omega arith)
pair_digits (x ∷ (y ∷ xs)) (suc n) zero e long h = grind (arith, nat_tests)
pair_digits (x ∷ (y ∷ xs)) (suc n) (suc k) e long h = pair_digits xs n k (grind (arith, nat_tests)) (omega arith) (omega arith)

-- the byte that a pair stands for
pub pair_byte : (xs : List ℕ) (n k : ℕ) → 2 * n ≤ length xs → k < n → let p = get_or (first_chunks 2 n xs) k [] in get_or (bytes_of xs) k 0 ≡ digit_value (get_or p 0 0) * 16 + digit_value (get_or p 1 0)
pair_byte xs zero k long h = absurd (omega arith)
pair_byte [] (suc n) k long h = absurd (omega arith)
pair_byte (x ∷ []) (suc n) k long h = absurd (omega arith)
pair_byte (x ∷ (y ∷ xs)) (suc n) zero long h = refl
pair_byte (x ∷ (y ∷ xs)) (suc n) (suc k) long h = pair_byte xs n k (omega arith) (omega arith)

-- two digits make a number that fits a byte
pub byte_small : (xs : List ℕ) (k : ℕ) → every_digit xs ≡ true → get_or (bytes_of xs) k 0 < 256
byte_small [] k e = omega arith
byte_small (x ∷ []) k e = omega arith
byte_small (x ∷ (y ∷ xs)) zero e = grind (arith, nat_tests)
byte_small (x ∷ (y ∷ xs)) (suc k) e = byte_small xs k (grind (arith, nat_tests))

-- a line of whole bytes is spelled by them
pub spelled_back : (xs : List ℕ) → length xs % 2 ≡ 0 → every_digit xs ≡ true → spelled (bytes_of xs) ≡ xs
spelled_back [] even e = refl
spelled_back (x ∷ []) even e = absurd (omega arith)
spelled_back (x ∷ (y ∷ xs)) even e = let others = spelled_back xs (omega arith) (grind (arith, nat_tests)) in grind (arith, nat_tests)
