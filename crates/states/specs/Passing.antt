-- The tests that the new rows of an input, a gate and a latch have in common, and what a call that makes tests answers.
use Rattle.std.specs.Prelude.{◌≡◌, ℕ, Bool, not, List, [], ◌∷◌, Some, None, Ok, Err, Option, Result}
use Rattle.refusals.specs.declared.Refusal.{Refusal}
use Rattle.refusals.specs.declared.Refusal.TheVariants.{Phase, Span, Figure}
use Rattle.schedule.specs.Clock.{Clock, has_phase}
use Rattle.design.specs.Rows.{any_above}
use Rattle.design.specs.Tests.{is_reversed}

-- the tests of a new row: a phase that the clock does not have, a span that falls, a figure above its limit
abbrev pub row_tests : Clock → ℕ → ℕ → ℕ → ℕ → List ℕ → List (Refusal × Bool)
row_tests clock phase from to limit figures =
    (Phase, not (has_phase clock phase))
    ∷ (Span, is_reversed from to)
    ∷ (Figure, any_above limit figures)
    ∷ []

-- passed where no test applies, and else refused with the refusal of the first that does
abbrev pub Passed : Option Refusal → Result Unit Refusal → Type 0
Passed o (Ok _) = o ≡ None
Passed o (Err why) = o ≡ Some why
