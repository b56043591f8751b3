-- The answers to what the check asks of `add`.
use Rattle.std.proofs.Common.{rules, arith, ◌<◌, length}
use Rattle.windows.proofs.Disturbing.{disturbed_victim, disturbed_beyond}
use Rattle.windows.proofs.effective.Effective.add.Goals as goal

pub returns-then-victim : goal.returns-then-victim
returns-then-victim g c =
    record {
      small = λ lt. c.disturbed.ensures.small;
      delays = λ v lt.
          let within : c.args.coupling.now.victim < length c.args.self.now.places = search rules in
          rw (c.disturbed.ensures.delays, c.from-victim.ensures) (disturbed_victim c.args.self.now.places c.args.coupling.now within v);
    }

pub returns-else-victim : goal.returns-else-victim
returns-else-victim g c =
    record {
      small = λ lt. absurd (omega arith);
      delays = disturbed_beyond g.row.N c.args.self.now.places c.args.coupling.now (omega arith);
    }
