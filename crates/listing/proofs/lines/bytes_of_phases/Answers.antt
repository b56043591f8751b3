-- The answers to what the check asks of `bytes_of_phases`.
use Rattle.std.proofs.Common.{[], ◌∷◌, get_or, ◌∙◌, arith}
use Rattle.std.proofs.lemmas.List.{length-set, take_more_set}
use Rattle.std.proofs.lemmas.List.FromFn.{map-range_with_len_more}
use Rattle.frames.specs.Frames.{bytes_in}
use Rattle.listing.proofs.Bytes.{four_bytes}
use Rattle.listing.proofs.lines.bytes_of_phases.Goals as goal

pub loop-k-preserved : goal.loop-k-preserved
loop-k-preserved c =
    let k = c.loop-k.k in
    let figures = c.args.figures.now in
    let start = c.to_be_bytes.ensures ∙ four_bytes (get_or figures.starts k 0) in
    let width = c.to_be_bytes-in-loop-k.ensures ∙ four_bytes (get_or figures.widths k 0) in
    let put = take_more_set c.loop-k.bytes k (c.to_be_bytes.result ∷ c.to_be_bytes-in-loop-k.result ∷ []) (omega arith) in
    let more = map-range_with_len_more (λ k. bytes_in 4 (get_or figures.starts k 0) ∷ bytes_in 4 (get_or figures.widths k 0) ∷ []) 0 k k (omega arith) in
    (simp length-set c.loop-k.invariant.0, cc)
