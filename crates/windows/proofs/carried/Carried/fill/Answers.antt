-- The answers to what the check asks of `fill`.
use Rattle.std.proofs.Common.{length, refl, ap, ◌∙◌, inr, arith}
use Rattle.timing.specs.Connections.{network}
use Rattle.windows.proofs.Acting.{leads_all, carries_first}
use Rattle.windows.proofs.carried.Carried.fill.Goals as goal

pub returns : goal.returns
returns g c =
    let s = c.args.self.now in
    let is = c.circuit-circuit.ensures in
    record {
      carries = λ t stands rows.
          carries_first t _ stands rows
          (omega (arith, ap length rows.1, s.fits))
          (rw rows.1 at (leads_all (network s.rows.nodes.now) s.leads s.led))
          (λ v. rw rows.1 at (c.fill.ensures.delays v))
          (λ v. rw (is.0, is.1, rows.0, rows.1) at (c.open_latches.ensures.latches v))
          (λ v lt l. c.open_latches.ensures.rest v (inr (rw (is.1, rows.1) l)) ∙ c.requires.leaves v)
          c.requires.stale;
      rows = (refl, refl, refl);
    }
