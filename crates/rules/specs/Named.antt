-- The rule that a frame names.
use Rattle.std.specs.Prelude.{Bool}
use Rattle.frames.specs.declared.rules.Rule.{Rule}
use Rattle.frames.specs.declared.rules.Rule.TheVariants.{Never, ThreeOccurrences, Always}
use Rattle.rules.specs.Questions.{Question}
use Rattle.rules.specs.Rules.{never, always, three_occurrences}

-- the rule of each name
abbrev pub named : Rule → Question → Bool
named Never = never
named ThreeOccurrences = three_occurrences
named Always = always
