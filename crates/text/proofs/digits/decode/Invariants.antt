-- What the loops of `decode` keep.
use Rattle.std.proofs.Common.{◌≡◌, ◌++◌, take, drop}
use Rattle.text.specs.Digits.{bytes_of}
use Rattle.text.proofs.digits.decode.Given as goal

abbrev pub invariant-loop-k : goal.invariant-loop-k
invariant-loop-k l = l.room ≡ take l.k (bytes_of l.line) ++ drop l.k l.initial.room
