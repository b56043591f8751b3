-- The lines of a text, and what the reader hands out.
use Rattle.std.specs.Prelude.{◌≡◌, ℕ, ◌+◌, cond, List, [], ◌∷◌, drop, Some, None, Option, ◌==◌}
use Rattle.text.specs.declared.lines.Lines.{Lines}
use Rattle.text.specs.declared.lines.Line.{Line}

-- the character that ends a line
abbrev pub line_feed : ℕ
line_feed = 10

-- a character put before the first line
abbrev pub before : ℕ → List (List ℕ) → List (List ℕ)
before c [] = (c ∷ []) ∷ []
before c (l ∷ ls) = (c ∷ l) ∷ ls

-- a line ends at a line feed, which is no part of it; the last one may end with the text
abbrev pub lines_of : List ℕ → List (List ℕ)
lines_of [] = []
lines_of (c ∷ cs) = cond (c == line_feed) ([] ∷ lines_of cs) (before c (lines_of cs))

-- the part of its text that a reader has not handed out
abbrev pub left : Lines → List ℕ
left r = drop r.place r.text.now

-- a reader that has handed out nothing of a text
abbrev pub Reads : List ℕ → Lines → Type 0
Reads text r = (left r ≡ text) × (r.count ≡ 0)

-- the next line is the first of those that are left, and its number is one more than how many were handed out before it
abbrev pub Handed : Lines → Lines → Option Line → Type 0
Handed r s None = (left r ≡ []) × (s ≡ r)
Handed r s (Some l) = (lines_of (left r) ≡ l.bytes.now ∷ lines_of (left s)) × (l.number ≡ r.count + 1) × (s.count ≡ l.number)
