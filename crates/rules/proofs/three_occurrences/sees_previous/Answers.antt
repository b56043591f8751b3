use Rattle.std.proofs.Common.{rules, refl, ◌≡◌, ◌<◌, ◌^◌, FitsSigned, w64}
use Rattle.rules.proofs.Exact.{previous_ends, ends_after}
use Rattle.rules.proofs.three_occurrences.sees_previous.Goals as goal

pub returns-then-begins-from : goal.returns-then-begins-from
returns-then-begins-from c =
    let begins_fits : FitsSigned w64 c.args.victim.now.window.begins = search rules in
    let ends_fits : FitsSigned w64 c.args.aggressor.now.window.ends = search rules in
    let nearest_fits : FitsSigned w64 c.nearest_between.result = search rules in
    let forward_fits : FitsSigned w64 c.forward_between.result = search rules in
    let period_fits : c.period.result < 2 ^ 32 = search rules in
    let proximity_fits : c.proximity.result < 2 ^ 32 = search rules in
    let begins : c.from-begins.result ≡ c.args.victim.now.window.begins = search rules in
    let ends : c.from-ends.result ≡ c.args.aggressor.now.window.ends = search rules in
    let nearest : c.from-nearest.result ≡ c.nearest_between.result = search rules in
    let forward : c.from-forward.result ≡ c.forward_between.result = search rules in
    let exact = rw (previous_ends _ _ _ _ _ ends_fits nearest_fits begins_fits period_fits proximity_fits) at rw (begins, ends, nearest, c.from.ensures, c.from-2.ensures) at c.if-begins-from.true in
    let holds = rw (c.nearest_between.ensures, c.period.ensures.value, c.proximity.ensures) at exact in
    rw (holds, begins, ends, forward) (rw (ends_after _ _ _ ends_fits forward_fits begins_fits) (rw c.forward_between.ensures refl))

pub returns-else-begins-from : goal.returns-else-begins-from
returns-else-begins-from c =
    let begins_fits : FitsSigned w64 c.args.victim.now.window.begins = search rules in
    let ends_fits : FitsSigned w64 c.args.aggressor.now.window.ends = search rules in
    let nearest_fits : FitsSigned w64 c.nearest_between.result = search rules in
    let period_fits : c.period.result < 2 ^ 32 = search rules in
    let proximity_fits : c.proximity.result < 2 ^ 32 = search rules in
    let begins : c.from-begins.result ≡ c.args.victim.now.window.begins = search rules in
    let ends : c.from-ends.result ≡ c.args.aggressor.now.window.ends = search rules in
    let nearest : c.from-nearest.result ≡ c.nearest_between.result = search rules in
    let exact = rw (previous_ends _ _ _ _ _ ends_fits nearest_fits begins_fits period_fits proximity_fits) at rw (begins, ends, nearest, c.from.ensures, c.from-2.ensures) at c.if-begins-from.false in
    let fails = rw (c.nearest_between.ensures, c.period.ensures.value, c.proximity.ensures) at exact in
    rw fails c.if-begins-from.false
