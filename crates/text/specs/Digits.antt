-- Hexadecimal digits: 0 to 9 and A to F in ASCII, two to a byte, the high one first.
use Rattle.std.specs.Prelude.{◌≡◌, ℕ, ◌+◌, ◌-◌, ◌*◌, ◌/◌, ◌%◌, ◌<◌, ◌≤◌, Bool, true, false, cond, not, ◌&&◌, ◌||◌, List, [], ◌∷◌, ◌++◌, length, drop, Ok, Err, Result, ◌==◌, nat_le, nat_lt}
use Rattle.std.specs.List.{list_all}
use Rattle.refusals.specs.declared.Refusal.{Refusal}
use Rattle.refusals.specs.declared.Refusal.TheVariants.{Digits as DigitsRefusal, Frame as FrameRefusal}
use Rattle.text.specs.declared.digits.Undecoded.{Undecoded}
use Rattle.text.specs.declared.digits.Undecoded.TheVariants.{NotDigits, TooLong}

-- 0 to 9 or A to F
abbrev pub is_digit : ℕ → Bool
is_digit c = (nat_le 48 c && nat_le c 57) || (nat_le 65 c && nat_le c 70)

-- what a digit counts: 0 to 15
abbrev pub digit_value : ℕ → ℕ
digit_value c = cond (nat_le c 57) (c - 48) (c - 55)

-- nothing but digits
abbrev pub every_digit : List ℕ → Bool
every_digit cs = list_all is_digit cs

-- a line that passes the test of digits: not empty, a whole number of bytes, and nothing but digits
abbrev pub is_hex : List ℕ → Bool
is_hex line = not (length line == 0) && (length line % 2 == 0 && every_digit line)

-- the bytes that a line's digits stand for
abbrev pub bytes_of : List ℕ → List ℕ
bytes_of [] = []
bytes_of (h ∷ []) = []
bytes_of (h ∷ (l ∷ cs)) = (digit_value h * 16 + digit_value l) ∷ bytes_of cs

-- the digit that counts v
abbrev pub digit_for : ℕ → ℕ
digit_for v = cond (nat_lt v 10) (48 + v) (55 + v)

-- a byte in two digits
abbrev pub digits_of : ℕ → List ℕ
digits_of b = digit_for (b / 16) ∷ digit_for (b % 16) ∷ []

-- bytes as a line of digits
abbrev pub spelled : List ℕ → List ℕ
spelled [] = []
spelled (b ∷ bs) = digits_of b ++ spelled bs

-- the most bytes that a frame can have: those of a schedule that lists 255 phases
abbrev pub longest : ℕ
longest = 2050

-- What reading a line into a room leaves there and answers. The digits of the bytes that were read are the line again, and a frame can have as many.
abbrev pub Decoded : List ℕ → List ℕ → List ℕ → Result ℕ Undecoded → Type 0
Decoded line old new (Ok n) = (is_hex line ≡ true) × (n ≡ length (bytes_of line)) × (new ≡ bytes_of line ++ drop n old) × (spelled (bytes_of line) ≡ line) × (n ≤ longest)
Decoded line old new (Err NotDigits) = (is_hex line ≡ false) × (new ≡ old)
Decoded line old new (Err TooLong) = (is_hex line ≡ true) × (longest < length (bytes_of line)) × (new ≡ old)

-- what a line is refused with that cannot be read into the room of a frame
abbrev pub undecoded_refusal : Undecoded → Refusal
undecoded_refusal NotDigits = DigitsRefusal
undecoded_refusal TooLong = FrameRefusal
