-- Windows as they are written from what sweeps found.
use Rattle.std.specs.Prelude.{◌≡◌, ℕ, ◌<◌, cond, List, length, drop, ℤ, pos, slice_index_or}
use Rattle.design.specs.Rows.{is_latch}
use Rattle.kinds.specs.declared.arrival.Arrival.{Arrival}
use Rattle.kinds.specs.declared.arrival.Arrival.TheVariants.{NoPath, At, NoEnd}
use Rattle.paths.specs.Networks.{Network}
use Rattle.paths.specs.Sweeps.{leaving}
use Rattle.timing.specs.declared.windows.Window.{Window}
use Rattle.timing.specs.Connections.{row, start_at}
use Rattle.windows.specs.declared.circuit.Circuit.{Circuit}

-- the tick of an arrival; 0 for one without a path or without an end
abbrev pub tick_of : Arrival → ℤ
tick_of NoPath = pos 0
tick_of (At tick) = tick
tick_of NoEnd = pos 0

-- the window at a place of a window table; a place that is not there reads as one of zeros
abbrev pub window_at : List Window → ℕ → Window
window_at windows v = slice_index_or windows v (record { begins = pos 0; ends = pos 0 })

-- the ends of windows written for each node, and no row past them
pub record EndsWritten (n : Network) (starts column : ℕ → Arrival) (old new : List Window) : Type 0 where
  pub long : length new ≡ length old
  pub beyond : drop n.size new ≡ drop n.size old
  pub ends : (v : ℕ) → v < n.size → (window_at new v).ends ≡ tick_of (leaving n starts column v)

-- when the window of a node begins: at the opening edge of a latch, and elsewhere with what came to the node
abbrev pub begins_with : Circuit → (ℕ → Arrival) → ℕ → ℤ
begins_with c column v = cond (is_latch (row c.nodes.now v)) (start_at c.schedule.now (row c.nodes.now v)).earliest (tick_of (column v))

-- the beginnings of windows written for each node, with their ends as they were, and no row past them
pub record BeginsWritten (c : Circuit) (column : ℕ → Arrival) (old new : List Window) : Type 0 where
  pub long : length new ≡ length old
  pub beyond : drop (length c.nodes.now) new ≡ drop (length c.nodes.now) old
  pub begins : (v : ℕ) → v < length c.nodes.now → (window_at new v).begins ≡ begins_with c column v
  pub ends : (v : ℕ) → v < length c.nodes.now → (window_at new v).ends ≡ (window_at old v).ends
