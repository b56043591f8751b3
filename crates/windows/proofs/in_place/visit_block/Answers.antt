-- The answers to what the check asks of `visit_block`.
use Rattle.std.proofs.Common.{sym, ◌∙◌, arith}
use Rattle.std.proofs.lemmas.List.{get_or_read}
use Rattle.windows.proofs.Visiting.{none_visited, one_the_same, one_visited}
use Rattle.windows.proofs.in_place.visit_block.Goals as goal
use Rattle.windows.proofs.in_place.visit_block.Goals.{then-not-same, else-not-same}

pub loop-v-init : goal.loop-v-init
loop-v-init g c = none_visited _ _ _ _ _ _ _ (sym c.nodes_before-v.ensures)

pub loop-v-preserved : goal.loop-v-preserved
loop-v-preserved g c =
    elim c.if-not-same.branch [
      | then-not-same w ↦
          rw (w.leaves-is, w.changed-is)
          (one_visited _ _ _ _ c.loop-v.invariant (omega arith) (omega arith) c.requires.fits _ c.visited-figure.ensures)
      | else-not-same w ↦
          rw (w.leaves-is, w.changed-is)
          (one_the_same _ _ _ _ c.loop-v.invariant (omega arith)
          (sym (get_or_read c.loop-v.leaves _ _ (omega arith) c.index-leaves-v.is g.K.DelayKind.kind.no_path) ∙ (sym (c.same.ensures.0 w.if-not-same.false) ∙ c.visited-figure.ensures)))
    ]
