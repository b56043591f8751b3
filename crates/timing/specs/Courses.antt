-- How a kind of delay sees the rows of a design: what paths start with, and what each connection is to it.
use Rattle.std.specs.Prelude.{ℕ, List, ℤ}
use Rattle.schedule.specs.Clock.{Clock}
use Rattle.design.specs.declared.nodes.Node.{Node}
use Rattle.paths.specs.Sweeps.{Course}
use Rattle.kinds.specs.declared.timings.Start.{Start}
use Rattle.kinds.specs.declared.timings.Delays.{Delays}
use Rattle.timing.specs.Connections.{row, shift_between, start_at}

-- the course of a kind over rows, where each node has these delays
abbrev pub course_over : {F S : Type 0} → (Start → F) → (Delays → Delays → ℤ → S) → Clock → List Node → (ℕ → Delays) → Course F S
course_over starts_with between clock nodes delays =
    record {
      start = λ v. starts_with (start_at clock (row nodes v));
      step = λ k v. between (delays k) (delays v) (shift_between clock (row nodes k) (row nodes v));
    }
