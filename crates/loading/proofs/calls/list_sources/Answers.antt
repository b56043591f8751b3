-- One source more is listed.
use Rattle.std.proofs.Common.{◌*◌, arith}
use Rattle.std.proofs.lemmas.List.FromFn.{map-range_with_len_more}
use Rattle.std.proofs.lemmas.Grind.{common_steps}
use Rattle.frames.specs.Frames.{number_at}
use Rattle.loading.proofs.calls.list_sources.Goals as goal

pub loop-k-preserved : goal.loop-k-preserved
loop-k-preserved c = let more = map-range_with_len_more (λ j. number_at 2 (2 * j) c.args.bytes.now) 0 c.loop-k.k c.loop-k.k (omega arith) in grind (arith, common_steps)
