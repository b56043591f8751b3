-- The first line of a text.
use Rattle.std.proofs.Common.{◌≡◌, ℕ, suc, ◌+◌, ◌-◌, ◌<◌, ◌≤◌, min, cond, not, eqb, List, [], ◌∷◌, length, take, drop, sym, refl, ap, ◌∙◌, add-one, arith}
use Rattle.std.specs.Prelude.{◌==◌, position, unwrap_or}
use Rattle.std.specs.List.{position_or_len}
use Rattle.std.proofs.lemmas.List.{drop-drop, length-drop, drop_min, take_all}
use Rattle.std.proofs.lemmas.List.Sums.{prefix_len-le-length}
use Rattle.std.proofs.lemmas.List.Recursion.{is_position_or_len}
use Rattle.std.proofs.lemmas.Bool.Decides.{nat_tests}
use Rattle.text.specs.Lines.{line_feed, lines_of}

-- how many characters stand before the first line feed
abbrev front : List ℕ → ℕ
front [] = 0
front (c ∷ cs) = cond (eqb c line_feed) 0 (suc (front cs))

-- the first line is what stands before the first line feed, and the others are those of the rest
first_line : (xs : List ℕ) → 0 < length xs → lines_of xs ≡ take (front xs) xs ∷ lines_of (drop (suc (front xs)) xs)
first_line [] h = absurd (omega arith)
first_line (c ∷ []) h = grind arith
first_line (c ∷ (d ∷ ds)) h = let rest = first_line (d ∷ ds) (omega arith) in grind arith

-- the place of the first line feed, or else the length
front_found : (xs : List ℕ) → unwrap_or (position (λ c. c == line_feed) xs) (length xs) ≡ front xs
front_found xs =
    let is : front xs ≡ position_or_len (λ c. c == line_feed) xs = is_position_or_len front (λ c. c == line_feed) refl (λ x l. grind arith) xs in
    let within : position_or_len (λ c. c == line_feed) xs ≤ length xs = prefix_len-le-length (λ c. not (c == line_feed)) xs in
    grind (arith, nat_tests)

-- the next line ends at the first line feed that is left, or where the text does, and the one after it begins behind
pub next_line : (text : List ℕ) (start : ℕ) → let rest = take (length text - start) (drop start text) in let end = unwrap_or (position (λ c. c == line_feed) rest) (length rest) in 0 < length rest → lines_of (drop start text) ≡ take end rest ∷ lines_of (drop (start + min (end + 1) (length rest)) text)
next_line text start some =
    let rest = take (length text - start) (drop start text) in
    let whole : rest ≡ drop start text = take_all (length text - start) (drop start text) (omega (arith, length-drop start text)) in
    let n = suc (front rest) in
    let behind : drop n rest ≡ drop (start + min n (length rest)) text = sym (drop_min n rest) ∙ ap (drop (min n (length rest))) whole ∙ drop-drop (min n (length rest)) start text in
    rw (front_found rest, add-one) (ap lines_of (sym whole) ∙ first_line rest some ∙ ap (λ l. take (front rest) rest ∷ lines_of l) behind)
