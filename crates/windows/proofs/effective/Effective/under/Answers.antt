-- The answers to what the check asks of `under`.
use Rattle.std.proofs.Common.{arith, sym, ◌∙◌}
use Rattle.timing.specs.Connections.{row}
use Rattle.timing.specs.Delays.{chosen}
use Rattle.windows.specs.Delays.{delays_at}
use Rattle.windows.specs.Effective.{is_flagged}
use Rattle.windows.proofs.Disturbing.{summed_own, summed_more, summed_past, summed_all}
use Rattle.windows.proofs.effective.Effective.under.Goals as goal
use Rattle.windows.proofs.effective.Effective.under.Goals.{then-is_flagged, else-is_flagged}

pub loop-k-init : goal.loop-k-init
loop-k-init g c =
    λ few v lt.
    summed_own (row c.args.nodes.now v) (chosen (is_flagged c.args.flags.now) c.args.couplings.now) v (delays_at c.fill.new.self.places v) (c.fill.ensures.delays v lt) (c.fill.ensures.small v)

pub loop-k-preserved : goal.loop-k-preserved
loop-k-preserved g c =
    let flags = is_flagged c.args.flags.now in
    let ks = c.args.couplings.now in
    let k = c.loop-k.k in
    λ few v lt.
    let before = c.loop-k.invariant few v lt in
    let d = delays_at c.loop-k.effective.places v in
    let own = row c.args.nodes.now v in
    elim c.if-is_flagged.branch [
      | then-is_flagged w ↦
          rw (w.effective-is, w.add.ensures.delays v lt)
          (summed_more g.row.N flags ks own v k d few c.loop-k-test.true lt (sym c.is_flagged.ensures ∙ w.if-is_flagged.true) w.add.ensures.small before)
      | else-is_flagged w ↦ rw w.effective-is (summed_past flags ks own v k d c.loop-k-test.true (sym c.is_flagged.ensures ∙ w.if-is_flagged.false) before)
    ]

pub returns : goal.returns
returns g c = λ few v lt. summed_all (is_flagged c.args.flags.now) c.args.nodes.now c.args.couplings.now v c.loop-k.k (delays_at c.loop-k.effective.places v) (omega arith) (c.loop-k.invariant few v lt)
