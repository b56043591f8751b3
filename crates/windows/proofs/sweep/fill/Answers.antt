-- The answers to what the check asks of `fill`.
use Rattle.std.proofs.Common.{ap}
use Rattle.windows.specs.Seen.{figure_at}
use Rattle.windows.proofs.Blocking.{here_next}
use Rattle.windows.proofs.Sweeping.{others_filled, others_changed, latches_filled, others_passed, latches_passed}
use Rattle.windows.proofs.sweep.fill.Goals as goal
use Rattle.windows.proofs.sweep.fill.Goals.{then-fill_others, else-fill_others}

pub loop-next-preserved : goal.loop-next-preserved
loop-next-preserved g c =
    let before = rw c.in-Some.is at c.loop-next.invariant in
    record {
      filling = others_passed _ _ _ _ _ _ _ c.next-next-in-Some.ensures
          (elim c.if-fill_others.branch [
            | then-fill_others w ↦
                rw w.stale-is
                (others_changed _ _ _ _ c.args.circuit.now.leads.now _ c.requires.few c.requires.leads before.filling before.here.1 c.fill_others.ensures.filled w.wake.ensures)
            | else-fill_others w ↦
                rw w.stale-is
                (others_filled _ _ _ _ _ before.filling before.here.1 c.fill_others.ensures.filled (λ a h. h)
                (λ k v lk lv d e h. ap (λ column. figure_at g.K.DelayKind.kind.no_path column k) (c.fill_others.ensures.same w.if-fill_others.false)))
          ]);
      here = here_next _ _ _ _ c.next-next-in-Some.ensures;
    }

pub loop-next-2-preserved : goal.loop-next-2-preserved
loop-next-2-preserved g c =
    let before = rw c.in-Some-next.is at c.loop-next-2.invariant in
    record {
      filling = latches_passed _ _ _ _ _ _ _ c.next-next-in-Some-next.ensures
          (latches_filled _ _ _ _ _ before.filling before.here.1 c.fill_latches.ensures);
      here = here_next _ _ _ _ c.next-next-in-Some-next.ensures;
    }
