-- The answers to what the check asks of `spell`.
use Rattle.std.proofs.Common.{◌+◌, ◌*◌, ◌-◌, take, arith}
use Rattle.std.proofs.lemmas.List.{length-take-le}
use Rattle.text.specs.Digits.{spelled}
use Rattle.text.proofs.Buffers.{some_more}
use Rattle.text.proofs.Spelled.{spelled-more, length-spelled}
use Rattle.text.proofs.spelling.spell.Goals as goal

pub loop-k-preserved : goal.loop-k-preserved
loop-k-preserved c =
    let bs = c.args.bytes.now in
    let k = c.loop-k.k in
    let longer = spelled-more bs k c.loop-k-test.true in
    let put = some_more (spelled (take k bs)) c.copy_from_slice.new.self c.args.out.now c.loop-k.out (2 * k) (2 * k + 2 - 2 * k) (2 * (k + 1)) c.loop-k.invariant (omega (arith, length-spelled (take k bs), length-take-le k bs (omega arith))) (omega arith) in
    cc
