use Rattle.std.proofs.Common.{rules, refl, ◌≡◌, ◌<◌, ◌^◌, pos, FitsSigned, w64}
use Rattle.rules.proofs.Exact.{greatest, least_more}
use Rattle.rules.proofs.three_occurrences.come_close.Goals as goal

pub returns : goal.returns
returns c =
    let fits_1 : FitsSigned w64 c.args.victim.now.window.begins = search rules in
    let fits_2 : FitsSigned w64 c.args.aggressor.now.window.begins = search rules in
    let fits_3 : FitsSigned w64 c.args.victim.now.window.ends = search rules in
    let fits_4 : FitsSigned w64 c.args.aggressor.now.window.ends = search rules in
    let proximity_fits : c.args.schedule.now.proximity < 2 ^ 32 = search rules in
    let shift : c.from-shift.result ≡ c.args.shift = search rules in
    let is_1 : c.from.result ≡ c.args.victim.now.window.begins = search rules in
    let is_2 : c.from-2.result ≡ c.args.aggressor.now.window.begins = search rules in
    let is_3 : c.from-3.result ≡ c.args.victim.now.window.ends = search rules in
    let is_4 : c.from-4.result ≡ c.args.aggressor.now.window.ends = search rules in
    let proximity : c.from-5.result ≡ pos c.args.schedule.now.proximity = search rules in
    let begins = greatest _ _ _ fits_1 fits_2 c.ranges.shift in
    let ends = least_more _ _ _ _ fits_3 fits_4 c.ranges.shift proximity_fits in
    rw (c.max-begins.ensures.value, c.min-ends.ensures.value) (rw (shift, is_1, is_2, is_3, is_4, proximity) (rw (begins, ends) refl))
