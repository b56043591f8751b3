-- The answers to what the check asks of `put_feed`.
use Rattle.std.proofs.Common.{rules, arith}
use Rattle.loading.specs.Writing.{feed_frame}
use Rattle.listing.specs.Appending.{Appends}
use Rattle.listing.proofs.Sizes.{feed_lines}
use Rattle.listing.proofs.lines.Listing.put_feed.Goals as goal

pub returns-in-Latch-default-default-default-default-default-Some : goal.returns-in-Latch-default-default-default-default-default-Some
returns-in-Latch-default-default-default-default-default-Some c =
    let lines : Appends (feed_frame c.args.latch c.args.node.now) c.args.self.now c.put_line.new.self = search rules in
    record { lines = lines; near = omega (arith, lines.no_further, feed_lines c.args.latch c.args.node.now) }
