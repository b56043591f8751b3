-- The answers to what the check asks of `gate`.
use Rattle.std.proofs.Common.{arith}
use Rattle.design.specs.Rows.{is_node}
use Rattle.design.specs.Table.{draft}
use Rattle.states.specs.Views.{loan_of}
use Rattle.states.proofs.Seen.{table, any_other_seen}
use Rattle.states.proofs.rows.Draft.gate.Goals as goal

pub returns-then-any_other : goal.returns-then-any_other
returns-then-any_other c =
    let other = any_other_seen is_node draft c.args.self.now.counts (loan_of c.args.schedule.now c.args.nodes.now c.args.couplings.now) c.args.row.sources.now in
    grind (arith, table, other)

pub returns : goal.returns
returns c =
    let other = any_other_seen is_node draft c.args.self.now.counts (loan_of c.args.schedule.now c.args.nodes.now c.args.couplings.now) c.args.row.sources.now in
    grind (arith, table, other)
