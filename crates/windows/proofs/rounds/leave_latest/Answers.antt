-- The answers to what the check asks of `leave_latest`.
use Rattle.std.proofs.Common.{◌≡◌, ◌<◌, length, ap, ◌∙◌, ⊎_elim, arith}
use Rattle.std.proofs.lemmas.List.{get_or-set_same, get_or-set_other, length-set}
use Rattle.kinds.specs.declared.both.Arrivals.{Arrivals}
use Rattle.kinds.specs.Both.{both_kind}
use Rattle.windows.specs.Seen.{figure_at}
use Rattle.windows.proofs.Blocking.{below_next}
use Rattle.windows.proofs.rounds.leave_latest.Goals as goal

pub loop-v-preserved : goal.loop-v-preserved
loop-v-preserved c =
    let leaves = c.loop-v.leaves in
    let v = c.loop-v.v in
    let x : Arrivals = record { latest = c.leaving.result; earliest = (figure_at both_kind.no_path leaves v).earliest } in
    let before = c.loop-v.invariant in
    let within : v < length leaves = omega (arith, c.loop-v-test.true, c.requires, before.long) in
    record {
      long = length-set leaves v x ∙ before.long;
      found = λ u lt.
          ⊎_elim
          (λ (l : u < v). ap (λ a. a.latest) (get_or-set_other leaves v u x both_kind.no_path (λ (e : u ≡ v). omega arith)) ∙ before.found u l)
          (λ (e : u ≡ v). rw e (ap (λ a. a.latest) (get_or-set_same leaves v x both_kind.no_path within) ∙ c.leaving.ensures))
          (below_next u v lt);
      kept = λ u lt.
          ⊎_elim
          (λ (l : u < v). ap (λ a. a.earliest) (get_or-set_other leaves v u x both_kind.no_path (λ (e : u ≡ v). omega arith)) ∙ before.kept u l)
          (λ (e : u ≡ v). rw e (ap (λ a. a.earliest) (get_or-set_same leaves v x both_kind.no_path within) ∙ ap (λ a. a.earliest) (before.rest v (omega arith))))
          (below_next u v lt);
      rest = λ u le. get_or-set_other leaves v u x both_kind.no_path (λ (e : u ≡ v). omega arith) ∙ before.rest u (omega arith);
    }
