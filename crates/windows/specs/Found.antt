-- What sweeps over the rows of a table find of its paths.
use Rattle.std.specs.Prelude.{◌≡◌, ℕ, ◌+◌, ◌<◌, Bool, true, List, length}
use Rattle.design.specs.declared.nodes.Node.{Node}
use Rattle.design.specs.Rows.{is_latch}
use Rattle.kinds.specs.declared.arrival.Arrival.{Arrival}
use Rattle.kinds.specs.declared.arrival.Arrival.TheVariants.{NoPath, At, NoEnd}
use Rattle.design.specs.Table.{Table}
use Rattle.kinds.specs.Arrivals.{latest_kind, latest_start, latest_between}
use Rattle.paths.specs.Networks.{latch_count}
use Rattle.paths.specs.Sweeps.{arrives, arrives_short}
use Rattle.rings.specs.Settling.{Settled}
use Rattle.kinds.specs.Arrivals.{latest_restarts}
use Rattle.rings.specs.Found.{IsLatest, IsEarliest}
use Rattle.timing.specs.Connections.{row, network}
use Rattle.timing.specs.Delays.{delays_under}
use Rattle.timing.specs.Figures.{late_start, late, early}
use Rattle.timing.specs.Courses.{course_over}
use Rattle.windows.specs.declared.circuit.Circuit.{Circuit}
use Rattle.windows.specs.Delays.{delays_at}
use Rattle.windows.specs.declared.found.Ends.{Ends}
use Rattle.windows.specs.declared.found.Ends.TheVariants.{All, NoneAt}
use Rattle.windows.specs.Seen.{figure_at}

-- a latch that starts without an end
abbrev pub StartsWithoutEnd : List Node → List Arrival → ℕ → Type 0
StartsWithoutEnd nodes starts v = (v < length nodes) × (is_latch (row nodes v) ≡ true) × (figure_at NoPath starts v ≡ NoEnd)

-- the lowest latch that starts without an end, or none
abbrev pub EndsBy : List Node → List Arrival → Ends → Type 0
EndsBy nodes starts All = (v : ℕ) → StartsWithoutEnd nodes starts v → ⊥
EndsBy nodes starts (NoneAt latch) = StartsWithoutEnd nodes starts latch × ((v : ℕ) → v < latch → StartsWithoutEnd nodes starts v → ⊥)

-- a circuit that shows a table under a set of couplings: its clock, its nodes, and the delays that they have under the set
pub record Shows (t : Table) (S : ℕ → Bool) (c : Circuit) : Type 0 where
  pub clock : c.schedule.now ≡ t.clock
  pub nodes : c.nodes.now ≡ t.nodes
  pub delays : (v : ℕ) → v < length t.nodes → delays_at c.delays.now v ≡ delays_under t.nodes t.couplings S v

-- So many sweeps of the latest kind were made: the last filled the column and left no latch climbing, and each before it left one that climbs.
abbrev pub MadeSweeps : Table → (ℕ → Bool) → List Arrival → ℕ → Type 0
MadeSweeps t S column sweeps =
    (made : ℕ)
    × (sweeps ≡ made + 1)
    × ((starts : ℕ → Arrival)
    × Settled latest_kind (network t.nodes) (course_over latest_start latest_between t.clock t.nodes (delays_under t.nodes t.couplings S)) latest_restarts (latch_count (network t.nodes)) (λ v. At (late_start t v)) made starts (figure_at NoPath column))

-- the latest arrival at each node: the greatest late figure of the paths that arrive there
abbrev pub LateFound : Table → (ℕ → Bool) → List Arrival → Type 0
LateFound t S column = (v : ℕ) → v < length t.nodes → IsLatest {n = network t.nodes} {v = v} (late t S) arrives (figure_at NoPath column v)

-- the earliest arrival at each node: the least early figure of the short paths that arrive there
abbrev pub EarlyFound : Table → (ℕ → Bool) → List Arrival → Type 0
EarlyFound t S column = (v : ℕ) → v < length t.nodes → IsEarliest {n = network t.nodes} {v = v} (early t S) arrives_short (figure_at NoPath column v)
