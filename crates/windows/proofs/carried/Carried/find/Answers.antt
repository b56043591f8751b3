-- The answers to what the check asks of `find`.
use Rattle.std.proofs.Common.{refl}
use Rattle.windows.proofs.Rounding.{shows_carried, approached_carried, carried_on}
use Rattle.windows.proofs.carried.Carried.find.Goals as goal

pub returns-then-approach : goal.returns-then-approach
returns-then-approach g c =
    let s = c.args.self.now in
    let circuit = c.circuit-circuit.result in
    let is = c.circuit-circuit.ensures in
    let visits = c.approach in
    let none = visits.ensures.none c.if-approach.true in (
      (refl, refl, refl),
      (refl, refl),
      λ t S stands carries.
          carried_on t S s circuit carries is stands _ refl refl refl (approached_carried t S s circuit carries is stands visits.new.leaves visits.new.stale visits.ensures.rest visits.ensures.visits none) none,
    )

pub returns-in-All : goal.returns-in-All
returns-in-All g c =
    let s = c.args.self.now in
    let circuit = c.circuit-circuit.result in
    let is = c.circuit-circuit.ensures in
    let anew = c.sweep_anew-ends in (
      (refl, refl, refl),
      rw is.1 at anew.ensures.column,
      λ t S stands carries.
          let rest = rw c.in-All.is at (anew.ensures.anew t S stands (shows_carried t S s circuit carries is)) in
          rw c.in-All.is (carried_on t S s circuit carries is stands _ refl refl refl rest c.none-self.ensures),
    )

pub returns-in_default : goal.returns-in_default
returns-in_default g c =
    let s = c.args.self.now in
    let circuit = c.circuit-circuit.result in
    let is = c.circuit-circuit.ensures in
    let anew = c.sweep_anew-ends in (
      (refl, refl, refl),
      rw is.1 at anew.ensures.column,
      λ t S stands carries. rw c.in_default.is (rw c.in_default.is at (anew.ensures.anew t S stands (shows_carried t S s circuit carries is))),
    )
