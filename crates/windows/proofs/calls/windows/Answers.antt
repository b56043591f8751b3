-- The answers to what the check asks of `windows`.
use Rattle.std.proofs.Common.{◌≡◌, rules, ap, ◌∙◌}
use Rattle.states.specs.Views.{loan_of, open_table}
use Rattle.windows.specs.declared.found.Ends.TheVariants.{All}
use Rattle.windows.specs.Delays.{delays_at}
use Rattle.windows.proofs.Answering.{unended_answered, windows_answered}
use Rattle.windows.proofs.calls.windows.Goals as goal

pub returns-in-NoneAt : goal.returns-in-NoneAt
returns-in-NoneAt g c =
    let found = c.find_latest-found in
    unended_answered (open_table g.S.Stage.state c.args.book.now) (loan_of c.args.schedule.now c.args.nodes.now c.args.couplings.now) c.args.flags.now _ c.in_ok-rows.rows c.in_ok-rows.ensures _
    (record { clock = c.circuit-circuit.ensures.0; nodes = c.circuit-circuit.ensures.1; delays = λ v lt. ap (λ d. delays_at d v) c.circuit-circuit.ensures.2 ∙ c.under-delays.ensures c.in_ok-rows.ensures.5 v lt })
    c.args.windows.now c.args.column.now found.new.column.figures.now _ found.new.starts c.in-NoneAt.latch _ c.min-places.ensures found.ensures.found (rw c.in-NoneAt.is at found.ensures.ends)
    found.ensures.same_length found.ensures.beyond (search rules) (search rules)

pub returns : goal.returns
returns g c =
    let found = c.find_latest-found in
    let all : found.result.ends ≡ All = search rules in
    windows_answered (open_table g.S.Stage.state c.args.book.now) (loan_of c.args.schedule.now c.args.nodes.now c.args.couplings.now) c.args.flags.now _ c.in_ok-rows.rows c.in_ok-rows.ensures _
    (record { clock = c.circuit-circuit.ensures.0; nodes = c.circuit-circuit.ensures.1; delays = λ v lt. ap (λ d. delays_at d v) c.circuit-circuit.ensures.2 ∙ c.under-delays.ensures c.in_ok-rows.ensures.5 v lt })
    c.args.windows.now c.write_ends.new.windows c.write_begins.new.windows c.args.column.now found.new.column.figures.now c.find_earliest.new.column.figures.now _ found.new.starts _ _ c.min-places.ensures
    found.ensures.found (rw all at found.ensures.ends) c.late_latch-late.ensures c.write_ends.ensures c.find_earliest.ensures.found c.early_latch-early.ensures c.write_begins.ensures
    (search rules) (search rules) (search rules)
