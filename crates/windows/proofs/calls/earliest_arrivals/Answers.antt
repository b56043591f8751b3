-- The answers to what the check asks of `earliest_arrivals`.
use Rattle.std.proofs.Common.{refl, rules, ap, ◌∙◌}
use Rattle.states.specs.Views.{loan_of, open_table}
use Rattle.windows.specs.Delays.{delays_at}
use Rattle.windows.proofs.Answering.{earliest_answered}
use Rattle.windows.proofs.calls.earliest_arrivals.Goals as goal

pub returns : goal.returns
returns g c =
    let found = c.find_earliest in
    earliest_answered (open_table g.S.Stage.state c.args.book.now) (loan_of c.args.schedule.now c.args.nodes.now c.args.couplings.now) c.args.flags.now _ c.in_ok-rows.rows c.in_ok-rows.ensures _
    (record { clock = c.circuit-circuit.ensures.0; nodes = c.circuit-circuit.ensures.1; delays = λ v lt. ap (λ d. delays_at d v) c.circuit-circuit.ensures.2 ∙ c.under-delays.ensures c.in_ok-rows.ensures.5 v lt })
    c.args.column.now found.new.column.figures.now _ refl found.ensures.found found.ensures.same_length found.ensures.beyond (search rules)
