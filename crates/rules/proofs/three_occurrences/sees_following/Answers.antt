use Rattle.std.proofs.Common.{rules, refl, ◌≡◌, ◌<◌, ◌^◌, FitsSigned, w64}
use Rattle.rules.proofs.Exact.{following_begins, begins_before}
use Rattle.rules.proofs.three_occurrences.sees_following.Goals as goal

pub returns-then-begins-nearest : goal.returns-then-begins-nearest
returns-then-begins-nearest c =
    let begins_fits : FitsSigned w64 c.args.aggressor.now.window.begins = search rules in
    let ends_fits : FitsSigned w64 c.args.victim.now.window.ends = search rules in
    let nearest_fits : FitsSigned w64 c.nearest_between.result = search rules in
    let forward_fits : FitsSigned w64 c.forward_between.result = search rules in
    let period_fits : c.period.result < 2 ^ 32 = search rules in
    let proximity_fits : c.proximity.result < 2 ^ 32 = search rules in
    let begins : c.from-begins.result ≡ c.args.aggressor.now.window.begins = search rules in
    let ends : c.from-ends.result ≡ c.args.victim.now.window.ends = search rules in
    let nearest : c.from-nearest.result ≡ c.nearest_between.result = search rules in
    let forward : c.from-forward.result ≡ c.forward_between.result = search rules in
    let exact = rw (following_begins _ _ _ _ _ begins_fits nearest_fits ends_fits period_fits proximity_fits) at rw (begins, ends, nearest, c.from.ensures, c.from-2.ensures) at c.if-begins-nearest.true in
    let holds = rw (c.nearest_between.ensures, c.period.ensures.value, c.proximity.ensures) at exact in
    rw (holds, begins, ends, forward) (rw (begins_before _ _ _ begins_fits forward_fits ends_fits) (rw c.forward_between.ensures refl))

pub returns-else-begins-nearest : goal.returns-else-begins-nearest
returns-else-begins-nearest c =
    let begins_fits : FitsSigned w64 c.args.aggressor.now.window.begins = search rules in
    let ends_fits : FitsSigned w64 c.args.victim.now.window.ends = search rules in
    let nearest_fits : FitsSigned w64 c.nearest_between.result = search rules in
    let period_fits : c.period.result < 2 ^ 32 = search rules in
    let proximity_fits : c.proximity.result < 2 ^ 32 = search rules in
    let begins : c.from-begins.result ≡ c.args.aggressor.now.window.begins = search rules in
    let ends : c.from-ends.result ≡ c.args.victim.now.window.ends = search rules in
    let nearest : c.from-nearest.result ≡ c.nearest_between.result = search rules in
    let exact = rw (following_begins _ _ _ _ _ begins_fits nearest_fits ends_fits period_fits proximity_fits) at rw (begins, ends, nearest, c.from.ensures, c.from-2.ensures) at c.if-begins-nearest.false in
    let fails = rw (c.nearest_between.ensures, c.period.ensures.value, c.proximity.ensures) at exact in
    rw fails c.if-begins-nearest.false
