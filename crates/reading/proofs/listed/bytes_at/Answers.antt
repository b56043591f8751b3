-- Each place of the array has its byte.
use Rattle.std.proofs.Common.{rules, ◌+◌, slice_index}
use Rattle.std.proofs.lemmas.List.{get_or-drop}
use Rattle.reading.proofs.Calls.{filled_by}
use Rattle.reading.proofs.listed.bytes_at.Goals as goal

pub returns : goal.returns
returns g c = filled_by _ (λ k. slice_index c.args.bytes.now (c.args.place + k)) _ _ g.row.N 0 (λ k y q low high h. search (rules, get_or-drop)) c.from_fn.ensures.items
