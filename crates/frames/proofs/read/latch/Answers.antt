-- A latch from its eighteen bytes.
use Rattle.std.proofs.Common.{◌≡◌, ℕ, List, length, get_or, Some, arith}
use Rattle.std.proofs.lemmas.Bool.Decides.{nat_tests}
use Rattle.std.proofs.lemmas.List.{drop_all}
use Rattle.frames.specs.declared.kinds.Kind.TheVariants.{Latch}
use Rattle.frames.specs.Frames.{Content, number_at, apart, frame_as}
use Rattle.frames.proofs.read.latch.Goals as goal

of_length : (bs : List ℕ) (f : Content) → length bs ≡ 18 → apart Latch bs ≡ f → frame_as (Some Latch) bs ≡ Some f
of_length bs f long e = grind (arith, nat_tests)

pub returns : goal.returns
returns c =
    let phase : number_at 1 1 c.args.bytes.now ≡ get_or c.args.bytes.now 1 0 = omega arith in
    let least : number_at 4 2 c.args.bytes.now ≡ c.from_be_bytes.result = omega arith in
    let greatest : number_at 4 6 c.args.bytes.now ≡ c.from_be_bytes-2.result = omega arith in
    let setup : number_at 4 10 c.args.bytes.now ≡ c.from_be_bytes-3.result = omega arith in
    let hold : number_at 4 14 c.args.bytes.now ≡ c.from_be_bytes-4.result = omega arith in
    let none = drop_all 18 c.args.bytes.now (omega arith) in
    of_length c.args.bytes.now _ (omega arith) (cc)
