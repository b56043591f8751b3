-- What the loops of `bytes_of_sources` keep.
use Rattle.std.proofs.Common.{◌≡◌, map, length, take}
use Rattle.frames.specs.Frames.{bytes_in}
use Rattle.listing.proofs.lines.bytes_of_sources.Given as goal

abbrev pub invariant-loop-k : goal.invariant-loop-k
invariant-loop-k l = (length l.bytes ≡ 4) × (take l.k l.bytes ≡ map (bytes_in 2) (take l.k l.sources))
