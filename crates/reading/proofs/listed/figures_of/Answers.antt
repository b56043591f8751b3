-- Each place of the two arrays has its number.
use Rattle.std.proofs.Common.{rules, ◌≡◌, ◌+◌, ◌*◌}
use Rattle.frames.specs.Frames.{number_at}
use Rattle.reading.specs.Clocks.{starts_in, widths_in}
use Rattle.reading.proofs.Calls.{filled_by}
use Rattle.reading.proofs.listed.figures_of.Goals as goal

pub returns : goal.returns
returns c =
    let starts : c.from_fn.result ≡ starts_in c.args.phases.now =
    filled_by _ (λ k. number_at 4 (8 * k) c.args.phases.now) _ _ 16 0 (λ k y q low high h. search rules) c.from_fn.ensures.items in
    let widths : c.from_fn-2.result ≡ widths_in c.args.phases.now =
    filled_by _ (λ k. number_at 4 (8 * k + 4) c.args.phases.now) _ _ 16 0 (λ k y q low high h. search rules) c.from_fn-2.ensures.items in
    cc
