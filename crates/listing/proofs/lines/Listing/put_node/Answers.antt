-- The answers to what the check asks of `put_node`.
use Rattle.std.proofs.Common.{rules, arith}
use Rattle.loading.specs.Writing.{node_frame}
use Rattle.listing.specs.Appending.{Appends}
use Rattle.listing.proofs.Bytes.{flattened_is}
use Rattle.listing.proofs.Sizes.{FewSources, node_lines}
use Rattle.listing.proofs.lines.Listing.put_node.Goals as goal

pub returns-in-Input : goal.returns-in-Input
returns-in-Input c =
    let lines : Appends (node_frame c.args.node.now) c.args.self.now c.put_line.new.self = search rules in
    let few : FewSources c.args.node.now = search (rules, arith) in
    record { lines = lines; near = omega (arith, lines.no_further, node_lines c.args.node.now few); few = few }

pub returns-in-Gate : goal.returns-in-Gate
returns-in-Gate c =
    let flat = flattened_is _ _ c.bytes_of_sources-bytes.ensures in
    let lines : Appends (node_frame c.args.node.now) c.args.self.now c.put_line-in-Gate.new.self = search rules in
    let few : FewSources c.args.node.now = search (rules, arith) in
    record { lines = lines; near = omega (arith, lines.no_further, node_lines c.args.node.now few); few = few }

pub returns-in-Latch : goal.returns-in-Latch
returns-in-Latch c =
    let lines : Appends (node_frame c.args.node.now) c.args.self.now c.put_line-in-Latch.new.self = search rules in
    let few : FewSources c.args.node.now = search (rules, arith) in
    record { lines = lines; near = omega (arith, lines.no_further, node_lines c.args.node.now few); few = few }
