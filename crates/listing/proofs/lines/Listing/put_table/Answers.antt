-- The answers to what the check asks of `put_table`.
use Rattle.std.proofs.Common.{map, subst, arith}
use Rattle.std.specs.List.{All, flat_map}
use Rattle.std.proofs.lemmas.List.{take_all, map_more}
use Rattle.std.proofs.lemmas.List.Elements.{All-nil, All-more}
use Rattle.design.specs.declared.nodes.Node.TheVariants.{Free}
use Rattle.design.specs.Rows.{no_coupling}
use Rattle.loading.specs.Writing.{node_frame, feed_frames, couple_frame}
use Rattle.listing.specs.Appending.{Appends}
use Rattle.listing.proofs.Joins.{items_more, feeds_more, appends_none, appends_then, appends_more}
use Rattle.listing.proofs.Sizes.{FewSources, rows_lines, couplings_lines}
use Rattle.listing.proofs.lines.Listing.put_table.Goals as goal

pub loop-node-init : goal.loop-node-init
loop-node-init c = (appends_none c.put_schedule.new.self, All-nil FewSources)

pub loop-node-preserved : goal.loop-node-preserved
loop-node-preserved c =
    let xs = c.args.nodes.now in
    let k = c.loop-node.node-index in (
      appends_more (items_more node_frame xs k Free c.loop-node-test.true) c.loop-node.invariant.0 c.put_node.ensures.lines,
      All-more FewSources xs k Free c.loop-node-test.true c.loop-node.invariant.1 c.put_node.ensures.few,
    )

pub loop-k-preserved : goal.loop-k-preserved
loop-k-preserved c = appends_more (feeds_more c.args.nodes.now c.loop-k.k Free c.loop-k-test.true) c.loop-k.invariant c.put_feed.ensures.lines

pub loop-coupling-preserved : goal.loop-coupling-preserved
loop-coupling-preserved c = appends_more (map_more couple_frame c.args.couplings.now c.loop-coupling.coupling-index no_coupling c.loop-coupling-test.true) c.loop-coupling.invariant c.put_coupling.ensures.lines

pub returns : goal.returns
returns c =
    let xs = c.args.nodes.now in
    let ks = c.args.couplings.now in
    let all = take_all c.loop-node.node-index xs c.loop-node-test.false in
    let nodes = subst (λ l. Appends (flat_map node_frame l) c.put_schedule.new.self c.loop-node.self) all c.loop-node.invariant.0 in
    let few = subst (All FewSources) all c.loop-node.invariant.1 in
    let feeds = subst (λ l. Appends (feed_frames 0 l) c.loop-node.self c.loop-k.self) (take_all c.loop-k.k xs c.loop-k-test.false) c.loop-k.invariant in
    let couplings = subst (λ l. Appends (map couple_frame l) c.loop-k.self c.loop-coupling.self) (take_all c.loop-coupling.coupling-index ks c.loop-coupling-test.false) c.loop-coupling.invariant in
    record {
      lines = appends_then c.put_schedule.ensures.lines (appends_then nodes (appends_then feeds couplings));
      near = omega (arith, c.put_schedule.ensures.near, nodes.no_further, feeds.no_further, couplings.no_further, rows_lines 0 xs few, couplings_lines ks);
    }
