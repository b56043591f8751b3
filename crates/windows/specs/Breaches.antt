-- Latches that are late or early by what stands in a column: the lowest of them, and by how much.
use Rattle.std.specs.Prelude.{◌≡◌, ℕ, ◌<◌, Bool, true, ℤ, Some, None, Option}
use Rattle.kinds.specs.declared.arrival.Arrival.{Arrival}
use Rattle.timing.specs.Connections.{row}
use Rattle.windows.specs.declared.checked.Breach.{Breach}
use Rattle.windows.specs.declared.circuit.Circuit.{Circuit}
use Rattle.windows.specs.Edges.{is_late, is_early, late_excess, early_excess}

-- a latch that is late by the latest arrivals in a column
abbrev pub late_at : Circuit → (ℕ → Arrival) → ℕ → Bool
late_at c column v = is_late c.schedule.now (row c.nodes.now v) (column v)

-- how far the latest arrival at a latch is after its late bound
abbrev pub late_excess_at : Circuit → (ℕ → Arrival) → ℕ → ℤ
late_excess_at c column v = late_excess c.schedule.now (row c.nodes.now v) (column v)

-- a latch that is early by the earliest arrivals in a column
abbrev pub early_at : Circuit → (ℕ → Arrival) → ℕ → Bool
early_at c column v = is_early (row c.nodes.now v) (column v)

-- how far the earliest arrival at a latch is before its early bound
abbrev pub early_excess_at : Circuit → (ℕ → Arrival) → ℕ → ℤ
early_excess_at c column v = early_excess (row c.nodes.now v) (column v)

-- the lowest of so many latches that fails a check, and by how much; or none does
abbrev pub LowestBreach : ℕ → (ℕ → Bool) → (ℕ → ℤ) → Option Breach → Type 0
LowestBreach n fails excess None = (v : ℕ) → v < n → fails v ≡ true → ⊥
LowestBreach n fails excess (Some b) =
    (b.latch < n)
    × (fails b.latch ≡ true)
    × (b.excess ≡ excess b.latch)
    × ((v : ℕ) → v < b.latch → fails v ≡ true → ⊥)
