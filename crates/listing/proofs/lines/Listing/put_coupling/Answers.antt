-- The answers to what the check asks of `put_coupling`.
use Rattle.std.proofs.Common.{arith}
use Rattle.listing.proofs.Sizes.{couple_lines}
use Rattle.listing.proofs.lines.Listing.put_coupling.Goals as goal

pub returns-clause-near : goal.returns-clause-near
returns-clause-near c = omega (arith, c.put_line.ensures.no_further, couple_lines c.args.coupling.now)
