-- Where no line is left, all are counted.
use Rattle.std.proofs.Common.{ap, arith}
use Rattle.text.specs.Lines.{lines_of}
use Rattle.printing.specs.Room.{room_of}
use Rattle.printing.proofs.room.room_for.Goals as goal

pub returns : goal.returns
returns c = omega (arith, c.loop-line.invariant.counted, c.loop-line.invariant.low, ap (λ l. room_of (lines_of l)) c.in-None.ensures.steps.0)
