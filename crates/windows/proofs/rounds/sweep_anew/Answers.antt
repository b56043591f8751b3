-- The answers to what the check asks of `sweep_anew`.
use Rattle.std.proofs.Common.{◌≡◌, rules}
use Rattle.windows.specs.declared.found.Ends.TheVariants.{All}
use Rattle.windows.proofs.Rounding.{swept_left, swept_without}
use Rattle.windows.proofs.rounds.sweep_anew.Goals as goal

pub returns-in-NoneAt-clause-anew : goal.returns-in-NoneAt-clause-anew
returns-in-NoneAt-clause-anew c t S stands shows =
    let found = c.find_latest-found in
    rw c.in-NoneAt.is
    (swept_without t S c.args.circuit.now stands shows found.new.starts found.new.column.figures.now (found.ensures.found t S stands shows) c.in-NoneAt.latch (rw c.in-NoneAt.is at found.ensures.ends))

pub returns-clause-anew : goal.returns-clause-anew
returns-clause-anew c t S stands shows =
    let found = c.find_latest-found in
    let all : found.result.ends ≡ All = search rules in
    rw all
    (swept_left t S c.args.circuit.now stands shows found.new.starts found.new.column.figures.now (found.ensures.found t S stands shows) c.find_earliest.new.starts c.find_earliest.new.column.figures.now
    c.args.leaves.now c.leave_latest.new.leaves c.leave_earliest.new.leaves (rw all at found.ensures.ends) found.ensures.swept found.ensures.still c.leave_latest.ensures
    c.find_earliest.ensures.swept c.find_earliest.ensures.opens c.leave_earliest.ensures)
