-- What a coupling rule is asked, and when it is lawful.
use Rattle.std.specs.Prelude.{◌≡◌, Bool, true}
use Rattle.schedule.specs.Clock.{Clock}
use Rattle.design.specs.SoFar.{Held}
use Rattle.timing.specs.Windows.{Includes}
use Rattle.rules.specs.declared.wire.Wire.{Wire}

-- a question to a rule: the clock, and the wires of the victim and of the aggressor
pub record Question : Type 0 where
  pub clock : Clock
  pub victim : Wire
  pub aggressor : Wire

-- the question about these wires
abbrev pub question : Clock → Wire → Wire → Question
question clock victim aggressor = record { clock = clock; victim = victim; aggressor = aggressor }

-- a wire whose window includes that of another, which is otherwise the same
pub record Wider (wide narrow : Wire) : Type 0 where
  pub node : wide.node ≡ narrow.node
  pub phase : wide.phase ≡ narrow.phase
  pub window : Includes wide.window narrow.window

-- a question about the same pair with wider windows
pub record Widened (wide narrow : Question) : Type 0 where
  pub clock : wide.clock ≡ narrow.clock
  pub victim : Wider wide.victim narrow.victim
  pub aggressor : Wider wide.aggressor narrow.aggressor

-- a lawful rule: under every clock that a schedule may hold, a pair that is seen stays seen when either window widens
abbrev pub Lawful : (Question → Bool) → Type 0
Lawful sees = (narrow wide : Question) → Held narrow.clock → Widened wide narrow → sees narrow ≡ true → sees wide ≡ true
