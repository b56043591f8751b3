-- The answers to what the check asks of `decode`.
use Rattle.std.proofs.Common.{◌+◌, ◌*◌, ◌/◌, ◌<◌, length, take, arith}
use Rattle.std.proofs.lemmas.List.{take_more, length-take-le}
use Rattle.std.proofs.lemmas.Bool.Decides.{nat_tests}
use Rattle.std.proofs.lemmas.Grind.{common_steps}
use Rattle.text.specs.Digits.{bytes_of}
use Rattle.text.proofs.Buffers.{one_more}
use Rattle.text.proofs.Hex.{bytes_length, pair_digits, pair_byte, spelled_back}
use Rattle.text.proofs.digits.decode.Goals as goal

pub returns-then-pairs-gt-LONGEST : goal.returns-then-pairs-gt-LONGEST
returns-then-pairs-gt-LONGEST c = grind (arith, nat_tests, bytes_length c.args.line.now)

pub digit_value-requires : goal.digit_value-requires
digit_value-requires c = grind (arith, pair_digits c.args.line.now (length c.args.line.now / 2) c.loop-k.k)

pub digit_value-requires-in-loop-k : goal.digit_value-requires-in-loop-k
digit_value-requires-in-loop-k c = grind (arith, pair_digits c.args.line.now (length c.args.line.now / 2) c.loop-k.k)

pub loop-k-preserved : goal.loop-k-preserved
loop-k-preserved c =
    let bytes = bytes_of c.args.line.now in
    let k = c.loop-k.k in
    let within : k < length bytes = omega (arith, bytes_length c.args.line.now) in
    let byte = pair_byte c.args.line.now (length c.args.line.now / 2) k (omega arith) (omega arith) in
    let longer = take_more bytes k 0 within in
    let put = one_more (take k bytes) c.args.room.now k (c.digit_value.result * 16 + c.digit_value-in-loop-k.result) (length-take-le k bytes (omega arith)) (omega arith) in
    cc

pub returns : goal.returns
returns c = grind (arith, common_steps, nat_tests, bytes_length, spelled_back)
