-- Bytes written as a line of digits.
use Rattle.std.specs.Prelude.{◌≡◌, ℕ, ◌+◌, ◌<◌, ◌≤◌, List, [], ◌∷◌, ◌++◌, length, take, drop, Ok, Err, Result}
use Rattle.refusals.specs.declared.Refusal.{Refusal}
use Rattle.refusals.specs.declared.Refusal.TheVariants.{Short}
use Rattle.text.specs.Lines.{line_feed}
use Rattle.text.specs.Digits.{spelled}

-- bytes as a line, with its line feed
abbrev pub line_for : List ℕ → List ℕ
line_for bytes = spelled bytes ++ line_feed ∷ []

-- a line written into a buffer from a place on, or refused where it does not end within it
abbrev pub SpelledAt : List ℕ → ℕ → List ℕ → List ℕ → Result ℕ Refusal → Type 0
SpelledAt bytes place old new (Ok end) = (end ≡ place + length (line_for bytes)) × (end ≤ length old) × (new ≡ take place old ++ (line_for bytes ++ drop end old))
SpelledAt bytes place old new (Err why) = (length old < place + length (line_for bytes)) × (why ≡ Short) × (new ≡ old)
