-- What a layer refuses goes up as it is.
use Rattle.std.proofs.lemmas.Result.{err_from_is_err_and}
use Rattle.reading.proofs.Layers.{undecoded, unframed}
use Rattle.reading.proofs.line.read_line.Goals as goal

pub returns-in_err-count : goal.returns-in_err-count
returns-in_err-count c =
    let p = err_from_is_err_and c.from_residual.result c.from_residual.ensures.1 in
    rw p.1 (undecoded c.args.line.now _ _ c.in_err-count.field-0.0 p.0 c.in_err-count.ensures p.2)

pub returns-in_err-read : goal.returns-in_err-read
returns-in_err-read c =
    let p = err_from_is_err_and c.from_residual-in_err-read.result c.from_residual-in_err-read.ensures.1 in
    rw p.1 (unframed c.args.line.now _ c.decode.new.room c.in_ok-count.count p.0 c.in_ok-count.ensures c.in_err-read.ensures p.2)
