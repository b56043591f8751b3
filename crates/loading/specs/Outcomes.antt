-- What a line of a text does to a table, and the answer: digits first, then the frame, then the book.
use Rattle.std.specs.Prelude.{ℕ, List, Some, None, Ok, Err, Option, Result}
use Rattle.refusals.specs.declared.Refusal.{Refusal}
use Rattle.refusals.specs.declared.Refusal.TheVariants.{Order}
use Rattle.frames.specs.Frames.{Content}
use Rattle.reading.specs.Line.{line_frame}
use Rattle.design.specs.declared.calls.Answer.{Answer}
use Rattle.design.specs.Table.{Table, Lent, is_open}
use Rattle.design.specs.Calls.{Ask}
use Rattle.design.specs.Tests.{refusal}
use Rattle.design.specs.Effects.{given, step, answer_to}
use Rattle.loading.specs.Asking.{asks}

-- the answer to a line, and the table after it
pub record Outcome : Type 0 where
  pub answer : Result Answer Refusal
  pub table : Table

-- a refused line leaves the table as it was
abbrev pub refused : Table → Refusal → Outcome
refused t why = record { answer = Err why; table = t }

-- a call put to the book; a frame that asks for none is refused
abbrev pub called : Lent → Table → Option Ask → Outcome
called l t None = refused t Order
called l t (Some c) = record { answer = answer_to (refusal l t c) (given t c); table = step l t c }

-- a frame put to the book; where a line has none, that is the answer
abbrev pub framed : Lent → Table → Result Content Refusal → Outcome
framed l t (Ok f) = called l t (asks (is_open t.state) f)
framed l t (Err why) = refused t why

-- a line put to the book
abbrev pub line_outcome : Lent → Table → List ℕ → Outcome
line_outcome l t line = framed l t (line_frame line)
