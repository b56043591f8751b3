-- The answers to what the check asks of `pass`.
use Rattle.std.proofs.Common.{refl, ◌∙◌, arith}
use Rattle.rings.specs.InPlace.{unvisited}
use Rattle.windows.proofs.Blocking.{here_next, next_behind}
use Rattle.windows.proofs.Visiting.{visits_more, rest_changed, rest_unchanged}
use Rattle.windows.proofs.in_place.pass.Goals as goal
use Rattle.windows.proofs.in_place.pass.Goals.{then-visit_block, else-visit_block}

pub loop-next-init : goal.loop-next-init
loop-next-init g c =
    record {
      rest = λ sound rest. rest;
      visits = (0, omega arith, unvisited (λ v lt. refl));
      long = refl;
      here = here_next _ _ _ _ c.next-next.ensures;
    }

pub loop-next-preserved : goal.loop-next-preserved
loop-next-preserved g c =
    let before = rw c.in-Some.is at c.loop-next.invariant in
    let more = visits_more _ _ _ _ before.visits.2 c.visit_block.ensures.visits.2 in
    let behind = next_behind _ _ _ _ c.next-next-in-Some.ensures (omega (arith, before.here.0)) in
    record {
      rest = λ sound rest.
          elim c.if-visit_block.branch [
            | then-visit_block w ↦
                rw w.stale-is
                (rest_changed _ _ _ _ g.met.K.DelayKind.restart_rests c.loop-next.stale c.remove.new.self _ c.args.circuit.now.leads.now c.in-Some.block c.requires.few c.requires.leads sound c.visit_block.ensures c.remove.ensures w.wake.ensures (before.rest sound rest))
            | else-visit_block w ↦
                rw w.stale-is
                (rest_unchanged _ _ _ _ g.met.K.DelayKind.restart_rests c.loop-next.stale c.remove.new.self c.in-Some.block c.visit_block.ensures w.if-visit_block.false c.remove.ensures (before.rest sound rest))
          ];
      visits = (more.0, omega (arith, more.1, before.visits.1, c.visit_block.ensures.visits.1, behind), more.2);
      long = c.visit_block.ensures.long ∙ before.long;
      here = here_next _ _ _ _ c.next-next-in-Some.ensures;
    }
