-- Bytes spelled in digits: one byte more, how long they are, and that they read back.
use Rattle.std.proofs.Common.{◌≡◌, ℕ, suc, ◌+◌, ◌*◌, ◌/◌, ◌%◌, ◌<◌, true, List, [], ◌∷◌, ◌++◌, length, get_or, take, refl, ap, ◌∙◌, arith}
use Rattle.std.proofs.lemmas.List.{take_more, length-append}
use Rattle.std.proofs.lemmas.Bool.Decides.{nat_tests}
use Rattle.text.specs.Lines.{line_feed, lines_of}
use Rattle.text.specs.Spelling.{line_for}
use Rattle.text.specs.Digits.{is_digit, every_digit, digit_value, digits_of, digit_for, is_hex, bytes_of, spelled}

-- each number of a list fits a byte
abbrev pub Bytes : List ℕ → Type 0
Bytes [] = Unit {0}
Bytes (b ∷ bs) = (b < 256) × Bytes bs

-- bytes spelled behind bytes
pub spelled-append : (xs ys : List ℕ) → spelled (xs ++ ys) ≡ spelled xs ++ spelled ys
spelled-append [] ys = refl
spelled-append (x ∷ xs) ys = rw (spelled-append xs ys)

-- one byte more, with its two digits
pub spelled-more : (bs : List ℕ) (k : ℕ) → k < length bs → spelled (take (k + 1) bs) ≡ spelled (take k bs) ++ digits_of (get_or bs k 0)
spelled-more bs k h = ap spelled (take_more bs k 0 h) ∙ spelled-append (take k bs) (get_or bs k 0 ∷ [])

-- the digit of a number below sixteen is a digit, and counts that number
digit_is : (v : ℕ) → v < 16 → is_digit (digit_for v) ≡ true
digit_is v h = grind (arith, nat_tests)

digit_counts : (v : ℕ) → v < 16 → digit_value (digit_for v) ≡ v
digit_counts v h = grind (arith, nat_tests)

-- a spelled line holds nothing but digits
every-spelled : (bs : List ℕ) → Bytes bs → every_digit (spelled bs) ≡ true
every-spelled [] h = refl
every-spelled (b ∷ bs) h =
    let high : b / 16 < 16 = omega (arith, h.0) in
    let low : b % 16 < 16 = omega arith in
    grind (arith, digit_is, every-spelled bs h.1)

-- two digits to a byte
pub length-spelled : (bs : List ℕ) → length (spelled bs) ≡ 2 * length bs
length-spelled [] = refl
length-spelled (b ∷ bs) = omega (arith, length-spelled bs)

-- a spelled line stands for the bytes that it spells
pub bytes_spelled : (bs : List ℕ) → Bytes bs → bytes_of (spelled bs) ≡ bs
bytes_spelled [] h = refl
bytes_spelled (b ∷ bs) h = rw (digit_counts (b / 16) (omega (arith, h.0)), digit_counts (b % 16) (omega arith), bytes_spelled bs h.1) (ap (λ c. c ∷ bs) (omega arith))

-- a spelled line of some bytes passes the test of digits
pub hex_spelled : (bs : List ℕ) → Bytes bs → 0 < length bs → is_hex (spelled bs) ≡ true
hex_spelled bs h some = grind (arith, nat_tests, length-spelled bs, every-spelled bs h)

-- digits with a line feed behind them are the first line
first_of : (xs rest : List ℕ) → every_digit xs ≡ true → lines_of (xs ++ (line_feed ∷ rest)) ≡ xs ∷ lines_of rest
first_of [] rest h = refl
first_of (c ∷ cs) rest h = let others = first_of cs rest (grind (arith, nat_tests)) in grind (arith, nat_tests)

-- a spelled line with its line feed is the first line of a text
pub first-spelled : (bs rest : List ℕ) → Bytes bs → lines_of (spelled bs ++ (line_feed ∷ rest)) ≡ spelled bs ∷ lines_of rest
first-spelled bs rest h = first_of (spelled bs) rest (every-spelled bs h)

-- numbers that each fit a byte, asked place by place
pub bytes_from : (bs : List ℕ) → ((i : ℕ) → get_or bs i 0 < 256) → Bytes bs
bytes_from [] small = tt
bytes_from (b ∷ bs) small = (small 0, bytes_from bs (λ i. small (suc i)))

-- a line has two digits to a byte, and its line feed
pub length_line : (bs : List ℕ) → length (line_for bs) ≡ 2 * length bs + 1
length_line bs = omega (arith, length-append (spelled bs) (line_feed ∷ []), length-spelled bs)
