-- What the loops of `spell` keep.
use Rattle.std.proofs.Common.{◌≡◌, ◌*◌, ◌++◌, take, drop}
use Rattle.text.specs.Digits.{spelled}
use Rattle.text.proofs.spelling.spell.Given as goal

abbrev pub invariant-loop-k : goal.invariant-loop-k
invariant-loop-k l = l.out ≡ spelled (take l.k l.bytes) ++ drop (2 * l.k) l.initial.out
