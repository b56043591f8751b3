-- The answers to what the check asks of `latest_arrived`.
use Rattle.std.proofs.Common.{◌≡◌, ◌<◌, length, ap, ◌∙◌, ⊎_elim, arith}
use Rattle.std.proofs.lemmas.List.{get_or-set_same, get_or-set_other, length-set, drop-set-lt}
use Rattle.kinds.specs.declared.arrival.Arrival.TheVariants.{NoPath}
use Rattle.windows.proofs.Blocking.{below_next}
use Rattle.windows.proofs.rounds.latest_arrived.Goals as goal

pub loop-v-preserved : goal.loop-v-preserved
loop-v-preserved c =
    let circuit = c.args.circuit.now in
    let column = c.loop-v.column in
    let v = c.loop-v.v in
    let x = c.arrived.result.latest in
    let before = c.loop-v.invariant in
    let within : v < length column = omega (arith, c.loop-v-test.true, c.requires.column_fits, before.long) in
    record {
      long = length-set column v x ∙ before.long;
      beyond = drop-set-lt (length circuit.nodes.now) column v x c.loop-v-test.true ∙ before.beyond;
      at = λ u lt.
          ⊎_elim
          (λ (l : u < v). get_or-set_other column v u x NoPath (λ (e : u ≡ v). omega arith) ∙ before.at u l)
          (λ (e : u ≡ v). rw e (get_or-set_same column v x NoPath within ∙ ap (λ a. a.latest) c.arrived.ensures))
          (below_next u v lt);
    }
