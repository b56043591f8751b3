-- The answers to what the check asks of `approach`.
use Rattle.std.proofs.Common.{refl, ◌∙◌, arith}
use Rattle.rings.specs.InPlace.{unvisited}
use Rattle.windows.proofs.Visiting.{visits_more}
use Rattle.windows.proofs.in_place.approach.Goals as goal

pub loop-blocks-init : goal.loop-blocks-init
loop-blocks-init g c =
    record {
      rest = λ sound rest. rest;
      visits = (0, omega arith, unvisited (λ v lt. refl));
      long = refl;
      made = omega arith;
    }

pub loop-blocks-preserved : goal.loop-blocks-preserved
loop-blocks-preserved g c =
    let before = c.loop-blocks.invariant in
    let more = visits_more _ _ _ _ before.visits.2 c.pass.ensures.visits.2 in
    record {
      rest = λ sound rest. c.pass.ensures.rest sound (before.rest sound rest);
      visits = (more.0, omega (arith, more.1, before.visits.1, c.pass.ensures.visits.1), more.2);
      long = c.pass.ensures.long ∙ before.long;
      made = omega (arith, before.made, c.if-passes-eq-PASSES.false);
    }
