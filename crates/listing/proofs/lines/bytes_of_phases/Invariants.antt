-- What the loops of `bytes_of_phases` keep.
use Rattle.std.proofs.Common.{◌≡◌, [], ◌∷◌, map, length, take, slice_index}
use Rattle.std.specs.List.{range_with_len}
use Rattle.frames.specs.Frames.{bytes_in}
use Rattle.listing.proofs.lines.bytes_of_phases.Given as goal

abbrev pub invariant-loop-k : goal.invariant-loop-k
invariant-loop-k l =
    (length l.bytes ≡ 16)
    × (take l.k l.bytes ≡ map (λ k. bytes_in 4 (slice_index l.figures.starts k) ∷ bytes_in 4 (slice_index l.figures.widths k) ∷ []) (range_with_len 0 l.k))
