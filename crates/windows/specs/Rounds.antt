-- What a round finds, and what is written from it.
use Rattle.std.specs.Prelude.{◌≡◌, ℕ, ◌<◌, Bool, true, List, length, drop, cond}
use Rattle.design.specs.Rows.{is_latch}
use Rattle.design.specs.Table.{Table}
use Rattle.kinds.specs.declared.arrival.Arrival.{Arrival}
use Rattle.kinds.specs.declared.arrival.Arrival.TheVariants.{NoPath, At}
use Rattle.kinds.specs.declared.both.Arrivals.{Arrivals}
use Rattle.kinds.specs.Both.{both_kind, both_start, both_between, both_restarts}
use Rattle.rings.specs.InPlace.{comes, Near, Rests}
use Rattle.timing.specs.declared.windows.Window.{Window}
use Rattle.timing.specs.Breaches.{Lowest, EndlessLatch}
use Rattle.timing.specs.Connections.{row, network}
use Rattle.timing.specs.Courses.{course_over}
use Rattle.timing.specs.Figures.{late_start, late_gain, early_start}
use Rattle.windows.specs.declared.circuit.Circuit.{Circuit}
use Rattle.windows.specs.declared.found.Ends.{Ends}
use Rattle.windows.specs.declared.found.Ends.TheVariants.{All, NoneAt}
use Rattle.windows.specs.Delays.{delays_at}
use Rattle.windows.specs.Seen.{figure_at, network_of, course_of}
use Rattle.windows.specs.Written.{window_at}

-- so many places of a column are filled as a function says, and those past them are as they were
pub record FilledBy (count : ℕ) (says : ℕ → Arrival) (old new : List Arrival) : Type 0 where
  pub long : length new ≡ length old
  pub beyond : drop count new ≡ drop count old
  pub at : (v : ℕ) → v < count → figure_at NoPath new v ≡ says v

-- and so many places of a window table, likewise
pub record WindowsSaid (count : ℕ) (says : ℕ → Window) (old new : List Window) : Type 0 where
  pub long : length new ≡ length old
  pub beyond : drop count new ≡ drop count old
  pub at : (v : ℕ) → v < count → window_at new v ≡ says v

-- the latest figure with which a node is left
abbrev pub late_in : List Arrivals → ℕ → Arrival
late_in leaves v = (figure_at both_kind.no_path leaves v).latest

-- and the earliest
abbrev pub early_in : List Arrivals → ℕ → Arrival
early_in leaves v = (figure_at both_kind.no_path leaves v).earliest

-- what arrives at a node where all are at rest: at a latch what comes to it, and elsewhere what the node is left with
abbrev pub arriving : Circuit → List Arrivals → ℕ → Arrivals
arriving c leaves v = cond (is_latch (row c.nodes.now v)) (comes both_kind (network_of c) (course_of both_start both_between c) (figure_at both_kind.no_path leaves) v) (figure_at both_kind.no_path leaves v)

-- so many nodes are left with these latest and these earliest figures
pub record LeftWith (count : ℕ) (latest earliest : ℕ → Arrival) (old new : List Arrivals) : Type 0 where
  pub long : length new ≡ length old
  pub late : (v : ℕ) → v < count → late_in new v ≡ latest v
  pub early : (v : ℕ) → v < count → early_in new v ≡ earliest v

-- Figures with which nodes are left over a circuit, all of them at rest: the late ones are near those of the paths of a table, and the early one of a latch is its opening edge.
pub record AtRest (t : Table) (S : ℕ → Bool) (c : Circuit) (leaves : List Arrivals) : Type 0 where
  pub near : Near (network t.nodes) (late_start t) (late_gain t S) 0 (late_in leaves)
  pub opened : (v : ℕ) → is_latch (row t.nodes v) ≡ true → early_in leaves v ≡ At (early_start t v)
  pub rests : (v : ℕ) → v < length t.nodes → Rests both_kind (network t.nodes) (course_over both_start both_between t.clock t.nodes (delays_at c.delays.now)) both_restarts (figure_at both_kind.no_path leaves) v

-- all nodes are at rest; or the lowest latch is named whose window has no end
abbrev pub SweptAnew : Table → (ℕ → Bool) → Circuit → List Arrivals → Ends → Type 0
SweptAnew t S c leaves All = AtRest t S c leaves
SweptAnew t S c leaves (NoneAt latch) = Lowest t (EndlessLatch t S) latch
