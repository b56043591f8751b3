-- The answers to what the check asks of `is_late`.
use Rattle.std.proofs.Common.{◌≡◌, true, refl, sym, ap, ◌∙◌}
use Rattle.design.specs.Rows.{is_latch}
use Rattle.timing.specs.Connections.{row, network, late_bound}
use Rattle.timing.specs.Figures.{late}
use Rattle.timing.specs.Windows.{setup_of}
use Rattle.paths.specs.Sweeps.{arrives}
use Rattle.kinds.specs.declared.arrival.Arrival.TheVariants.{NoEnd}
use Rattle.rings.specs.Found.{IsLatest}
use Rattle.windows.proofs.Reading.{arrives_by_step}
use Rattle.windows.proofs.edges.is_late.Goals as goal

pub returns-in-Latch-NoEnd-clause-late : goal.returns-in-Latch-NoEnd-clause-late
returns-in-Latch-NoEnd-clause-late c t S v clock node h =
    let latch : is_latch (row t.nodes v) ≡ true = sym (ap is_latch node) ∙ ap is_latch c.in-Latch-NoEnd.is-0 in
    let unbounded : IsLatest {n = network t.nodes} {v = v} (late t S) arrives NoEnd = rw c.in-Latch-NoEnd.is-1 at h in
    let r = unbounded (late_bound t.clock (setup_of (row t.nodes v))) in
    (λ _. (latch, (r.0, sym (arrives_by_step {n = network t.nodes} {v = v} latch r.0) ∙ r.1, r.2)), λ _. refl)
