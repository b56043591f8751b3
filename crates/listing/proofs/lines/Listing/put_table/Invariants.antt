-- What the loops of `put_table` keep.
use Rattle.std.proofs.Common.{map, take}
use Rattle.std.specs.List.{All, flat_map}
use Rattle.loading.specs.Writing.{node_frame, feed_frames, couple_frame}
use Rattle.listing.specs.Appending.{Appends}
use Rattle.listing.proofs.Sizes.{FewSources}
use Rattle.listing.proofs.lines.Listing.put_table.Given as goal

abbrev pub invariant-loop-node : goal.invariant-loop-node
invariant-loop-node l = Appends (flat_map node_frame (take l.node-index l.nodes)) l.initial.self l.self × All FewSources (take l.node-index l.nodes)

abbrev pub invariant-loop-k : goal.invariant-loop-k
invariant-loop-k l = Appends (feed_frames 0 (take l.k l.nodes)) l.initial.self l.self

abbrev pub invariant-loop-coupling : goal.invariant-loop-coupling
invariant-loop-coupling l = Appends (map couple_frame (take l.coupling-index l.couplings)) l.initial.self l.self
