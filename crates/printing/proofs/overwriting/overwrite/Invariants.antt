-- The rows of the records so far are written.
use Rattle.std.proofs.Common.{◌≡◌, take}
use Rattle.std.specs.Prelude.{fold}
use Rattle.printing.specs.Overwriting.{nodes_with, couplings_with}
use Rattle.printing.proofs.overwriting.overwrite.Given as goal

abbrev pub invariant-loop-bytes : goal.invariant-loop-bytes
invariant-loop-bytes l = record {
  nodes : l.nodes ≡ fold (λ ys r. nodes_with r ys) l.initial.nodes (take l.bytes-index l.records);
  couplings : l.couplings ≡ fold (λ ys r. couplings_with r ys) l.initial.couplings (take l.bytes-index l.records);
}
