-- The answers to what the check asks of `finish`.
use Rattle.std.proofs.Common.{◌∙◌}
use Rattle.windows.proofs.Rounding.{shows_carried, at_rest_carried, round_written}
use Rattle.windows.proofs.carried.Carried.finish.Goals as goal

pub returns : goal.returns
returns g c =
    let s = c.args.self.now in
    let circuit = c.circuit-circuit.result in
    let is = c.circuit-circuit.ensures in
    let late = c.latest_arrived in
    let early = c.earliest_arrived in
    let said = c.write_windows.ensures in (
      (said.long, said.beyond),
      (early.ensures.long ∙ late.ensures.long, rw is.1 at (early.ensures.beyond ∙ late.ensures.beyond)),
      λ t S stands carries none.
          round_written t S circuit stands (shows_carried t S s circuit carries is) s.leaves (at_rest_carried t S s circuit carries is stands none) c.args.column.now late.new.column late.new.column early.new.column late.ensures early.ensures
          c.args.windows.now c.write_windows.new.windows c.late_latch-late.result c.early_latch-early.result c.late_latch-late.ensures c.early_latch-early.ensures (rw is.1 said),
    )
