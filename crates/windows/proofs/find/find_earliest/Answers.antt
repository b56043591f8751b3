-- The answers to what the check asks of `find_earliest`.
use Rattle.windows.proofs.Agreeing.{shown_sound, earliest_of, opened_still}
use Rattle.windows.proofs.find.find_earliest.Goals as goal

pub returns-clause-found : goal.returns-clause-found
returns-clause-found c t couplings stands shows =
    let s = c.settle.ensures.settled (shown_sound t couplings c.args.circuit.now stands shows) in
    earliest_of t couplings c.args.circuit.now stands shows _ s.0 _ _ s.2

pub returns-clause-swept : goal.returns-clause-swept
returns-clause-swept c sound = (c.settle.ensures.settled sound).2.swept

pub returns-clause-opens : goal.returns-clause-opens
returns-clause-opens c sound v l = opened_still (c.settle.ensures.settled sound).2.restarted v l
