-- The places before the next field hold the fields so far, and the others are as they were.
use Rattle.std.proofs.Common.{◌≡◌, ◌≤◌, ◌++◌, length, take, drop}
use Rattle.std.specs.List.{flat_map}
use Rattle.frames.proofs.write.put.Given as goal

abbrev pub invariant-loop-field : goal.invariant-loop-field
invariant-loop-field l =
    (take l.place l.out ++ flat_map (λ field. field.now) (drop l.field-index l.fields) ≡ flat_map (λ field. field.now) l.fields)
    × (drop l.place l.out ≡ drop l.place l.initial.out)
    × (l.place ≤ length l.out)
