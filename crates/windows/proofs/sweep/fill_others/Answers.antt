-- The answers to what the check asks of `fill_others`.
use Rattle.std.proofs.Common.{sym, ap, ◌∙◌, arith}
use Rattle.std.proofs.lemmas.Bool.{true≢false}
use Rattle.std.proofs.lemmas.List.{get_or_read}
use Rattle.design.specs.Rows.{is_latch}
use Rattle.windows.proofs.Sweeping.{one_written, one_as_it_is}
use Rattle.windows.proofs.sweep.fill_others.Goals as goal
use Rattle.windows.proofs.sweep.fill_others.Goals.{then-not-is_latch+then-not-same, then-not-is_latch+else-not-same, else-not-is_latch}

pub loop-v-preserved : goal.loop-v-preserved
loop-v-preserved g c =
    elim c.if-not-is_latch.branch [
      | then-not-is_latch+then-not-same w ↦
          rw (w.column-is, w.changed-is)
          (record {
            filled = one_written _ _ _ _ c.loop-v.invariant.filled (omega arith) (omega arith) c.requires.fits (sym (ap is_latch c.row.ensures) ∙ (sym c.is_latch.ensures ∙ w.if-not-is_latch.true)) _ w.arrival-figure.ensures;
            same = λ e. absurd (true≢false e);
          })
      | then-not-is_latch+else-not-same w ↦
          rw (w.column-is, w.changed-is)
          (record {
            filled = one_as_it_is _ _ _ _ c.loop-v.invariant.filled
                (λ l. sym (get_or_read c.loop-v.column _ _ (omega arith) w.index-column-v.is g.K.DelayKind.kind.no_path) ∙ (sym (w.same.ensures.0 w.if-not-same.false) ∙ w.arrival-figure.ensures));
            same = c.loop-v.invariant.same;
          })
      | else-not-is_latch w ↦
          rw (w.column-is, w.changed-is)
          (record {
            filled = one_as_it_is _ _ _ _ c.loop-v.invariant.filled
                (λ l. absurd (true≢false (sym (sym (ap is_latch c.row.ensures) ∙ (sym c.is_latch.ensures ∙ w.if-not-is_latch.false)) ∙ l)));
            same = c.loop-v.invariant.same;
          })
    ]
