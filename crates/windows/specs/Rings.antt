-- What latches start from, before the first sweep and between two sweeps.
use Rattle.std.specs.Prelude.{◌≡◌, ℕ, ◌<◌, ◌≤◌, Bool, true, false, cond, ◌⊎◌, List, length}
use Rattle.design.specs.Rows.{is_latch}
use Rattle.kinds.specs.declared.both.Arrivals.{Arrivals}
use Rattle.kinds.specs.Both.{both_kind, both_start}
use Rattle.kinds.specs.declared.timings.Start.{Start}
use Rattle.paths.specs.Networks.{Network}
use Rattle.paths.specs.Kinds.{Restarts}
use Rattle.rings.specs.Settling.{next_start}
use Rattle.timing.specs.Connections.{row, start_at}
use Rattle.windows.specs.declared.circuit.Circuit.{Circuit}
use Rattle.windows.specs.Seen.{figure_at}

-- the figure of a path that has only started at a node
abbrev pub first_of : {F : Type 0} → (Start → F) → Circuit → ℕ → F
first_of starts_with c v = starts_with (start_at c.schedule.now (row c.nodes.now v))

-- each of so many nodes starts as `opening` says
pub record Started {F : Type 0} (no_path : F) (opening : ℕ → F) (count : ℕ) (old new : List F) : Type 0 where
  pub long : length new ≡ length old
  pub opens : (v : ℕ) → v < count → figure_at no_path new v ≡ opening v

-- each latch below a number is left with its opening edge, and every other node as before
pub record OpenedLatches (c : Circuit) (count : ℕ) (old new : List Arrivals) : Type 0 where
  pub long : length new ≡ length old
  pub latches : (v : ℕ) → v < count → is_latch (row c.nodes.now v) ≡ true → figure_at both_kind.no_path new v ≡ both_start (start_at c.schedule.now (row c.nodes.now v))
  pub rest : (v : ℕ) → (count ≤ v) ⊎ (is_latch (row c.nodes.now v) ≡ false) → figure_at both_kind.no_path new v ≡ figure_at both_kind.no_path old v

-- Each latch from one number up to another starts from what is next for it after so many sweeps, and every other node as before. Whether any of these latches climbs is told.
pub record PassedOn {F : Type 0} (no_path : F) (r : Restarts F) (n : Network) (made limit from to : ℕ) (column old new : List F) (climbs : Bool) : Type 0 where
  pub long : length new ≡ length old
  pub next : (v : ℕ) → from ≤ v → v < to → figure_at no_path new v ≡ cond (n.is_latch v) (next_start r limit made (figure_at no_path old v) (figure_at no_path column v)) (figure_at no_path old v)
  pub rest : (v : ℕ) → (v < from) ⊎ (to ≤ v) → figure_at no_path new v ≡ figure_at no_path old v
  pub kept : climbs ≡ false → new ≡ old
  pub none : climbs ≡ false → (v : ℕ) → from ≤ v → v < to → n.is_latch v ≡ true → r.climbs (figure_at no_path old v) (figure_at no_path column v) ≡ false
  pub some : climbs ≡ true → (v : ℕ) × (from ≤ v) × (v < to) × (n.is_latch v ≡ true) × (r.climbs (figure_at no_path old v) (figure_at no_path column v) ≡ true)
