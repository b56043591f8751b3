-- Which layer gives a refusal, and what the fault of a whole text names.
use Rattle.std.specs.Prelude.{ℕ}
use Rattle.refusals.specs.declared.Refusal.{Refusal}
use Rattle.refusals.specs.declared.Refusal.TheVariants.{Full, Phase, Span, Figure, Fan, Node, Pair, Assist, Clock, Unfed, Short, Digits, Frame, Order}
use Rattle.refusals.specs.declared.Layer.{Layer}
use Rattle.refusals.specs.declared.Layer.TheVariants.{Digits as DigitsLayer, Frame as FrameLayer, Book}
use Rattle.refusals.specs.declared.Fault.{Fault}

-- test 12 is made on the digits of a line, test 13 on its frame, and every other on the book
abbrev pub layer_of : Refusal → Layer
layer_of Full = Book
layer_of Phase = Book
layer_of Span = Book
layer_of Figure = Book
layer_of Fan = Book
layer_of Node = Book
layer_of Pair = Book
layer_of Assist = Book
layer_of Clock = Book
layer_of Unfed = Book
layer_of Short = Book
layer_of Digits = DigitsLayer
layer_of Frame = FrameLayer
layer_of Order = Book

-- the fault of a refusal at a line, counted from 1
abbrev pub fault_of : ℕ → Refusal → Fault
fault_of line why = record { line = line; layer = layer_of why; refusal = why }
