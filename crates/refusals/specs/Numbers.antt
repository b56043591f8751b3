-- The number of each refusal.
use Rattle.std.specs.Prelude.{ℕ}
use Rattle.refusals.specs.declared.Refusal.{Refusal}
use Rattle.refusals.specs.declared.Refusal.TheVariants.{Full, Phase, Span, Figure, Fan, Node, Pair, Assist, Clock, Unfed, Short, Digits, Frame, Order}

-- the number of a refusal
abbrev pub number_of : Refusal → ℕ
number_of Full = 1
number_of Phase = 2
number_of Span = 3
number_of Figure = 4
number_of Fan = 5
number_of Node = 6
number_of Pair = 7
number_of Assist = 8
number_of Clock = 9
number_of Unfed = 10
number_of Short = 11
number_of Digits = 12
number_of Frame = 13
number_of Order = 14
