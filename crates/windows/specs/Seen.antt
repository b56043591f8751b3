-- What a sweep sees of the rows and delays that are lent to it.
use Rattle.std.specs.Prelude.{ℕ, List, ℤ, slice_index_or}
use Rattle.kinds.specs.declared.timings.Start.{Start}
use Rattle.kinds.specs.declared.timings.Delays.{Delays}
use Rattle.paths.specs.Networks.{Network}
use Rattle.paths.specs.Sweeps.{Course}
use Rattle.timing.specs.Connections.{network}
use Rattle.timing.specs.Courses.{course_over}
use Rattle.windows.specs.declared.circuit.Circuit.{Circuit}
use Rattle.windows.specs.Delays.{delays_at}

-- the figure at a place of a column; a place that it lacks reads as one without a path
abbrev pub figure_at : {F : Type 0} → F → List F → ℕ → F
figure_at no_path figures v = slice_index_or figures v no_path

-- the network of a circuit's rows
abbrev pub network_of : Circuit → Network
network_of c = network c.nodes.now

-- how a kind sees a circuit
abbrev pub course_of : {F S : Type 0} → (Start → F) → (Delays → Delays → ℤ → S) → Circuit → Course F S
course_of starts_with between c = course_over starts_with between c.schedule.now c.nodes.now (delays_at c.delays.now)
