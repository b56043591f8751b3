-- The answers to what the check asks of `write_windows`.
use Rattle.std.proofs.Common.{◌≡◌, ◌<◌, length, pos, ◌∙◌, ⊎_elim, arith}
use Rattle.std.proofs.lemmas.List.{get_or-set_same, get_or-set_other, length-set, drop-set-lt}
use Rattle.timing.specs.declared.windows.Window.{Window}
use Rattle.windows.proofs.Blocking.{below_next}
use Rattle.windows.proofs.carried.Carried.write_windows.Goals as goal

-- no window
none : Window
none = record { begins = pos 0; ends = pos 0 }

pub loop-v-preserved : goal.loop-v-preserved
unfolding none
loop-v-preserved g c =
    let windows = c.loop-v.windows in
    let v = c.loop-v.v in
    let new = c.window.result in
    let before = c.loop-v.invariant in
    let within : v < length windows = omega (arith, c.loop-v-test.true, c.requires, before.long) in
    record {
      long = length-set windows v new ∙ before.long;
      beyond = drop-set-lt (length c.args.self.now.rows.nodes.now) windows v new c.loop-v-test.true ∙ before.beyond;
      at = λ u lt.
          ⊎_elim
          (λ (l : u < v). get_or-set_other windows v u new none (λ (e : u ≡ v). omega arith) ∙ before.at u l)
          (λ (e : u ≡ v). rw e (get_or-set_same windows v new none within ∙ c.window.ensures))
          (below_next u v lt);
    }
