-- One more field behind those that are written.
use Rattle.std.proofs.Common.{ℕ, List, [], arith, Bor}
use Rattle.std.specs.List.{flat_map}
use Rattle.std.proofs.lemmas.Grind.{common_steps}
use Rattle.std.proofs.lemmas.List.{at_drop_more}
use Rattle.std.proofs.lemmas.Slice.{take-put_mid, drop-put_mid}
use Rattle.frames.proofs.write.put.Goals as goal

abbrev none : Bor (List ℕ)
none = record { ref_ptr = (0, 0); now = [] }

pub loop-field-preserved : goal.loop-field-preserved
loop-field-preserved c =
    let next = at_drop_more (flat_map (λ field. field.now)) c.args.fields.now c.loop-field.field-index none (omega arith) in
    grind (arith, common_steps, take-put_mid {X = ℕ}, drop-put_mid {X = ℕ})
