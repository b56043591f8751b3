-- The answers to what the check asks of `settle`.
use Rattle.std.proofs.Common.{ap, ℕ, ◌*◌, ◌≤◌, ◌∙◌, refl, arith, length}
use Rattle.paths.specs.Networks.{latch_count}
use Rattle.windows.specs.Seen.{figure_at, network_of}
use Rattle.windows.proofs.Waking.{fresh_next, still_next, still_kept, fresh_at_first, still_at_first}
use Rattle.windows.proofs.Settles.{climbing_few, nearer, once_more, before_sweeps}
use Rattle.windows.proofs.settle.settle.Goals as goal

-- a product of numbers that are not above others
product_few : (a b x y : ℕ) → a ≤ x → b ≤ y → a * b ≤ x * y
product_few a b x y h k = grind arith

pub loop-stale-init : goal.loop-stale-init
loop-stale-init g c =
    let figures : c.FIGURES.result ≤ 255 = omega (arith, c.FIGURES.type_inv) in
    let limit : c.count_latches.result * c.from.result ≤ 4096 * 255 = product_few c.count_latches.result c.from.result 4096 255 (omega (arith, c.count_latches.ensures.few, c.requires.few)) (omega (arith, figures, c.from.ensures)) in
    let few = climbing_few g.K.DelayKind.can_climb (λ x. omega (arith, g.met.K.DelayKind.climbs_at_most x, figures, c.FIGURES.ensures)) (length c.args.circuit.now.nodes.now) (figure_at g.K.DelayKind.kind.no_path c.start_all.new.starts) in
    record {
      limited = ap (λ m. m * c.from.result) c.count_latches.ensures.value ∙ ap (λ m. latch_count (network_of c.args.circuit.now) * m) (c.from.ensures ∙ c.FIGURES.ensures);
      restarted = λ sound. before_sweeps _ _ _ _ _ _ c.args.starts.now c.start_all.new.starts sound c.start_all.ensures;
      fresh = λ sound. fresh_at_first _ c.all-stale.ensures _ c.requires.few _ _ _ _;
      still = still_at_first _ c.all-stale.ensures _ c.requires.few _ _ _;
      bounded = omega (arith, limit, few, c.requires.few);
      starts_long = c.start_all.ensures.long;
      same_slice = refl;
      same_length = refl;
      beyond = refl;
    }

-- what is left falls
fewer : goal.loop-stale-smaller
fewer g c =
    nearer g.K.DelayKind.kind.no_path g.K.DelayKind.can_climb
    g.K.DelayKind.restarts
    (record { restarts = g.met.K.DelayKind.restart_climbs; ends = g.met.K.DelayKind.without_end_climbs })
    (network_of c.args.circuit.now) c.loop-stale.made _ c.sweep.new.self.figures.now c.loop-stale.starts c.pass_on.new.starts c.pass_on.result c.if-not-pass_on.false c.pass_on.ensures.passed

pub loop-stale-smaller : goal.loop-stale-smaller
loop-stale-smaller g c = fewer g c

pub loop-stale-preserved : goal.loop-stale-preserved
loop-stale-preserved g c =
    record {
      limited = c.loop-stale.invariant.limited;
      restarted = λ sound. once_more _ _ _ _ _ _ c.loop-stale.made c.sweep.new.self.figures.now c.loop-stale.starts c.pass_on.new.starts _ c.if-not-pass_on.false sound (c.loop-stale.invariant.restarted sound) (c.sweep.ensures.swept sound (c.loop-stale.invariant.fresh sound)) c.pass_on.ensures.passed;
      fresh = λ sound. fresh_next _ _ _ _ _ _ _ _ _ _ _ c.pass_on.ensures.passed c.pass_on.ensures.woken _ _ c.requires.few c.requires.leads sound (c.sweep.ensures.swept sound (c.loop-stale.invariant.fresh sound));
      still = still_next _ _ _ _ _ _ _ _ _ _ _ c.pass_on.ensures.passed c.pass_on.ensures.woken;
      bounded = omega (arith, c.loop-stale.invariant.bounded, fewer g c);
      starts_long = c.pass_on.ensures.passed.long ∙ c.loop-stale.invariant.starts_long;
      same_slice = c.sweep.ensures.same_slice ∙ c.loop-stale.invariant.same_slice;
      same_length = c.sweep.ensures.same_length ∙ c.loop-stale.invariant.same_length;
      beyond = c.sweep.ensures.beyond ∙ c.loop-stale.invariant.beyond;
    }

pub pass_on-requires-clause-still : goal.pass_on-requires-clause-still
pass_on-requires-clause-still g c = still_kept _ _ _ _ _ _ _ _ c.loop-stale.invariant.still c.sweep.ensures.kept
