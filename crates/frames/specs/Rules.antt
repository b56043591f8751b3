-- The byte of each coupling rule.
use Rattle.std.specs.Prelude.{ℕ, [], ◌∷◌, Option, Result, ok_or, ◌==◌}
use Rattle.std.specs.List.{find}
use Rattle.frames.specs.declared.NotAFrame.{NotAFrame}
use Rattle.frames.specs.declared.rules.Rule.{Rule}
use Rattle.frames.specs.declared.rules.Rule.TheVariants.{Never, ThreeOccurrences, Always}

-- the byte that stands for a rule
abbrev pub rule_byte : Rule → ℕ
rule_byte Never = 0
rule_byte ThreeOccurrences = 1
rule_byte Always = 2

-- the rule that a byte stands for, if any
abbrev pub rule_of : ℕ → Option Rule
rule_of b = find (λ r. rule_byte r == b) (Never ∷ ThreeOccurrences ∷ Always ∷ [])

-- a byte read as a rule
abbrev pub rule_read : ℕ → Result Rule NotAFrame
rule_read b = ok_or (rule_of b) (record {})
