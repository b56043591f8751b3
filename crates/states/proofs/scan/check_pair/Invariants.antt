-- What the loop of `check_pair` keeps.
use Rattle.std.proofs.Common.{◌≡◌, ◌+◌, ◌*◌, ◌≤◌, drop}
use Rattle.design.specs.Rows.{is_coupled, assisting_of}
use Rattle.states.proofs.scan.check_pair.Given as goal

abbrev pub invariant-loop-coupling : goal.invariant-loop-coupling
invariant-loop-coupling l = record {
  clear : is_coupled (drop l.coupling-index l.couplings) l.victim l.aggressor ≡ is_coupled l.couplings l.victim l.aggressor;
  summed : l.sum + assisting_of (drop l.coupling-index l.couplings) l.victim ≡ assisting_of l.couplings l.victim;
  small : l.sum ≤ l.coupling-index * 4294967295;
}
