-- The answers to what the check asks of `act`.
use Rattle.std.proofs.Common.{◌≡◌, ◌<◌, length, get_or, refl, ap, arith}
use Rattle.design.specs.Rows.{no_coupling}
use Rattle.windows.specs.Blocks.{block_of}
use Rattle.windows.proofs.Acting.{carries_more, woken_by}
use Rattle.windows.proofs.carried.Carried.act.Goals as goal

pub returns-then-block-lt-BLOCKS-clause-acts : goal.returns-then-block-lt-BLOCKS-clause-acts
returns-then-block-lt-BLOCKS-clause-acts g c t S T stands lt clear one h =
    let k = c.in-Some.coupling.now in
    let is : k ≡ get_or t.couplings c.args.place no_coupling = (rw h.rows.2 at c.in-Some.ensures.lookup).3.1 no_coupling in
    let here = c.from-block.ensures in
    carries_more t S T c.args.place c.args.self.now _ k stands lt clear one is (omega (arith, ap length h.rows.1, c.args.self.now.fits)) h
    (refl, refl, refl) refl refl c.add.ensures.delays
    (woken_by c.args.self.now.leads (block_of k.victim) c.args.self.now.stale c.add-then-block-lt-BLOCKS.new.self _ (rw here at c.add-then-block-lt-BLOCKS.ensures) (rw here at c.wake.ensures))

pub returns-else-block-lt-BLOCKS-clause-acts : goal.returns-else-block-lt-BLOCKS-clause-acts
returns-else-block-lt-BLOCKS-clause-acts g c t S T stands lt clear one h =
    let k = c.in-Some.coupling.now in
    let is : k ≡ get_or t.couplings c.args.place no_coupling = (rw h.rows.2 at c.in-Some.ensures.lookup).3.1 no_coupling in
    let within : k.victim < length t.nodes = rw is ((stands.pairs c.args.place lt).0) in
    absurd (omega (arith, within, stands.node_count.0, stands.node_count.1, c.from-block.ensures))
