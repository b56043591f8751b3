-- The answers to what the check asks of `fill_latches`.
use Rattle.std.proofs.Common.{sym, ap, ◌∙◌, arith}
use Rattle.std.proofs.lemmas.Bool.{true≢false}
use Rattle.design.specs.Rows.{is_latch}
use Rattle.windows.proofs.Sweeping.{one_written, one_as_it_is}
use Rattle.windows.proofs.sweep.fill_latches.Goals as goal
use Rattle.windows.proofs.sweep.fill_latches.Goals.{then-is_latch, else-is_latch}

pub loop-v-preserved : goal.loop-v-preserved
loop-v-preserved g c =
    elim c.if-is_latch.branch [
      | then-is_latch w ↦
          rw w.column-is
          (one_written _ _ _ _ c.loop-v.invariant (omega arith) (omega arith) c.requires.fits (sym (ap is_latch c.row.ensures) ∙ (sym c.is_latch.ensures ∙ w.if-is_latch.true)) _ w.arrival.ensures)
      | else-is_latch w ↦
          rw w.column-is
          (one_as_it_is _ _ _ _ c.loop-v.invariant
          (λ l. absurd (true≢false (sym l ∙ (sym (ap is_latch c.row.ensures) ∙ (sym c.is_latch.ensures ∙ w.if-is_latch.false))))))
    ]
