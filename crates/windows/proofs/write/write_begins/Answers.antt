-- The answers to what the check asks of `write_begins`.
use Rattle.std.proofs.Common.{◌≡◌, ◌<◌, length, pos, ap, ◌∙◌, ⊎_elim, arith, rules}
use Rattle.std.proofs.lemmas.List.{get_or-set_same, get_or-set_other, length-set, drop-set-lt}
use Rattle.std.proofs.lemmas.Bool.{cases_eq}
use Rattle.timing.specs.declared.windows.Window.{Window}
use Rattle.windows.proofs.Blocking.{below_next}
use Rattle.windows.proofs.write.write_begins.Goals as goal

-- no window
none : Window
none = record { begins = pos 0; ends = pos 0 }

pub loop-v-preserved : goal.loop-v-preserved
unfolding none
loop-v-preserved c =
    let windows = c.loop-v.windows in
    let v = c.loop-v.v in
    let new = c.with_begins.result in
    let before = c.loop-v.invariant in
    let within : v < length windows = omega (arith, c.loop-v-test.true, c.requires, before.long) in
    let at_edge : c.with_begins.result.begins ≡ c.begins.result = search rules in
    record {
      long = length-set windows v new ∙ before.long;
      beyond = drop-set-lt (length c.args.circuit.now.nodes.now) windows v new c.loop-v-test.true ∙ before.beyond;
      begins = λ u lt.
          ⊎_elim
          (λ (l : u < v). ap (λ w. w.begins) (get_or-set_other windows v u new none (λ (e : u ≡ v). omega arith)) ∙ before.begins u l)
          (λ (e : u ≡ v). rw e (ap (λ w. w.begins) (get_or-set_same windows v new none within) ∙ (at_edge ∙ c.begins.ensures)))
          (below_next u v lt);
      ends = λ u lt.
          ⊎_elim
          (λ (e : u ≡ v). rw e (ap (λ w. w.ends) (get_or-set_same windows v new none within) ∙ (c.with_begins.ensures.1 ∙ before.ends v c.loop-v-test.true)))
          (λ (e : u ≡ v → ⊥). ap (λ w. w.ends) (get_or-set_other windows v u new none e) ∙ before.ends u lt)
          (cases_eq u v);
    }
