-- What is read has the output of the whole text.
use Rattle.clockmark.proofs.Reading.{read_enough}
use Rattle.clockmark.proofs.answers.mark.Goals as goal

pub returns : goal.returns
returns g c =
    read_enough (g.R.Read.remaining c.args.input) c.read_to_end.new.buf.items c.print_output.result (g.W.Write.contents c.args.out.now) (g.W.Write.contents c.print_output.new.out)
    (rw (c.take.ensures.limit, c.take.ensures.inner, c.new-text.ensures.items) at c.in_ok-read_to_end.ensures.bytes)
    (rw c.as_slice.ensures.value at c.print_output.ensures)
