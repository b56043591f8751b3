-- What the loops of `list_sources` keep.
use Rattle.std.proofs.Common.{◌≡◌, length, take}
use Rattle.loading.specs.Asking.{sources_listed}
use Rattle.loading.proofs.calls.list_sources.Given as goal

abbrev pub invariant-loop-k : goal.invariant-loop-k
invariant-loop-k l = (length l.room ≡ 255) × (take l.k l.room ≡ sources_listed l.k l.bytes)
