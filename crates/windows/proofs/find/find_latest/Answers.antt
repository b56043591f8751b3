-- The answers to what the check asks of `find_latest`.
use Rattle.windows.specs.Seen.{figure_at}
use Rattle.windows.proofs.Agreeing.{shown_sound, latest_shown, latest_of}
use Rattle.kinds.specs.declared.arrival.Arrival.TheVariants.{NoPath}
use Rattle.windows.proofs.find.find_latest.Goals as goal

pub returns-clause-found : goal.returns-clause-found
returns-clause-found c t couplings stands shows =
    let s = c.settle-sweeps.ensures.settled (shown_sound t couplings c.args.circuit.now stands shows) in
    latest_of t couplings c.args.circuit.now stands shows s.0 _ _ s.2

pub returns-clause-sweeps : goal.returns-clause-sweeps
returns-clause-sweeps c t couplings stands shows =
    let s = c.settle-sweeps.ensures.settled (shown_sound t couplings c.args.circuit.now stands shows) in
    (s.0, s.1, (figure_at NoPath c.settle-sweeps.new.starts, latest_shown t couplings c.args.circuit.now stands shows s.0 _ _ s.2))

pub returns-clause-swept : goal.returns-clause-swept
returns-clause-swept c sound = (c.settle-sweeps.ensures.settled sound).2.swept

pub returns-clause-still : goal.returns-clause-still
returns-clause-still c sound = (c.settle-sweeps.ensures.settled sound).2.still
