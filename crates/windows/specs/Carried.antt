-- What one round of a verdict leaves to the next.
use Rattle.std.specs.Prelude.{◌≡◌, ℕ, ◌<◌, ◌⊎◌, Bool, true, false, List, length, Ok, Err, Result}
use Rattle.refusals.specs.declared.Refusal.{Refusal}
use Rattle.refusals.specs.declared.Refusal.TheVariants.{Short}
use Rattle.design.specs.Rows.{is_latch}
use Rattle.design.specs.Table.{Table}
use Rattle.design.specs.SoFar.{Stands}
use Rattle.kinds.specs.declared.arrival.Arrival.{Arrival}
use Rattle.kinds.specs.declared.arrival.Arrival.TheVariants.{At}
use Rattle.kinds.specs.declared.both.Arrivals.{Arrivals}
use Rattle.kinds.specs.Both.{both_kind, both_start, both_between, both_restarts}
use Rattle.rings.specs.InPlace.{Near}
use Rattle.timing.specs.declared.windows.Window.{Window}
use Rattle.timing.specs.Breaches.{Lowest, EndlessLatch}
use Rattle.timing.specs.Connections.{row, network}
use Rattle.timing.specs.Courses.{course_over}
use Rattle.timing.specs.Delays.{delays_under}
use Rattle.timing.specs.Figures.{late_start, late_gain, early_start}
use Rattle.timing.specs.Windows.{IsWindow}
use Rattle.windows.specs.declared.carried.Carried.{Carried}
use Rattle.windows.specs.declared.checked.Checked.{Checked}
use Rattle.windows.specs.declared.checked.Checked.TheVariants.{Ended, NoEnd}
use Rattle.windows.specs.declared.found.Ends.{Ends}
use Rattle.windows.specs.declared.found.Ends.TheVariants.{All, NoneAt}
use Rattle.windows.specs.declared.rows.Rows.{Rows}
use Rattle.windows.specs.Answers.{KeptBeyond, WindowsFound}
use Rattle.windows.specs.Blocks.{AllLeads}
use Rattle.windows.specs.Delays.{delays_at}
use Rattle.windows.specs.InPlace.{RestBut, NoneStale}
use Rattle.windows.specs.Seen.{figure_at}
use Rattle.windows.specs.Written.{tick_of}

-- rows that are those of a table
abbrev pub AreRowsOf : Table → Rows → Type 0
AreRowsOf t rows = (rows.schedule.now ≡ t.clock) × (rows.nodes.now ≡ t.nodes) × (rows.couplings.now ≡ t.couplings)

-- rows that are the same
abbrev pub SameRows : Rows → Rows → Type 0
SameRows old new = (new.schedule.now ≡ old.schedule.now) × (new.nodes.now ≡ old.nodes.now) × (new.couplings.now ≡ old.couplings.now)

-- what nodes are left with by what is carried
abbrev pub carried_at : {N : ℕ} → Carried N → ℕ → Arrivals
carried_at c v = figure_at both_kind.no_path c.leaves v

-- What is carried of a table under a set of couplings: the delays that nodes have under it, and figures with which nodes are left. The late ones are near those of paths, the early one of a latch is its opening edge, and all nodes but those of stale blocks are at rest.
pub record Carries {N : ℕ} (t : Table) (S : ℕ → Bool) (c : Carried N) : Type 0 where
  pub rows : AreRowsOf t c.rows
  pub leads : AllLeads (network t.nodes) c.leads
  pub delays : (v : ℕ) → v < length t.nodes → delays_at c.delays.places v ≡ delays_under t.nodes t.couplings S v
  pub near : Near (network t.nodes) (late_start t) (late_gain t S) 0 (λ v. (carried_at c v).latest)
  pub opened : (v : ℕ) → is_latch (row t.nodes v) ≡ true → (carried_at c v).earliest ≡ At (early_start t v)
  pub rest : RestBut both_kind (network t.nodes) (course_over both_start both_between t.clock t.nodes (delays_at c.delays.places)) both_restarts (carried_at c) c.stale

-- the window of a node by what is carried: from the earliest with which it is left to the latest
abbrev pub window_in : {N : ℕ} → Carried N → ℕ → Window
window_in c v = record { begins = tick_of (carried_at c v).earliest; ends = tick_of (carried_at c v).latest }

-- what is carried before the first round, with room for so many nodes; or refused where there are more
abbrev pub CarriedBegun : Rows → (N : ℕ) → Result (Carried N) Refusal → Type 0
CarriedBegun rows room (Ok c) = SameRows rows c.rows × ((t : Table) → Stands t → AreRowsOf t rows → Carries t (λ k. false) c)
CarriedBegun rows room (Err why) = ((room < length rows.nodes.now) ⊎ (4096 < length rows.nodes.now)) × (why ≡ Short)

-- a set of couplings with one more
abbrev pub WithOne : ℕ → (ℕ → Bool) → (ℕ → Bool) → Type 0
WithOne k S T = (T k ≡ true) × ((c : ℕ) → (c ≡ k → ⊥) → T c ≡ S c)

-- every window has an end and is what is carried, and nothing is stale; or the lowest latch is named whose window has no end
abbrev pub CarriedEnds : {N : ℕ} → Table → (ℕ → Bool) → Carried N → Ends → Type 0
CarriedEnds t S c All = Carries t S c × NoneStale c.stale × ((v : ℕ) → v < length t.nodes → IsWindow t S v (window_in c v))
CarriedEnds t S c (NoneAt latch) = Lowest t (EndlessLatch t S) latch

-- what a round finds under the set of what is carried; or refused where the column has fewer places than there are nodes
abbrev pub RoundFound : {N : ℕ} → Carried N → Carried N → List Arrival → List Arrival → Result Ends Refusal → Type 0
RoundFound old new column column' (Ok ends) = SameRows old.rows new.rows × KeptBeyond (length old.rows.nodes.now) column column' × ((t : Table) (S : ℕ → Bool) → Stands t → Carries t S old → CarriedEnds t S new ends)
RoundFound old new column column' (Err why) = (length column < length old.rows.nodes.now) × (why ≡ Short) × (column' ≡ column)

-- The windows that are carried, written where nothing is stale, with the lowest latches that are late and early; or refused where places are lacking.
abbrev pub RoundWritten : {N : ℕ} → Carried N → List Window → List Window → List Arrival → List Arrival → Result Checked Refusal → Type 0
RoundWritten c windows windows' column column' (Ok (Ended late early)) =
    KeptBeyond (length c.rows.nodes.now) windows windows'
    × KeptBeyond (length c.rows.nodes.now) column column'
    × ((t : Table) (S : ℕ → Bool) → Stands t → Carries t S c → NoneStale c.stale → WindowsFound t S windows' (Ended late early))
RoundWritten c windows windows' column column' (Ok (NoEnd latch)) = ⊥
RoundWritten c windows windows' column column' (Err why) = ((length windows < length c.rows.nodes.now) ⊎ (length column < length c.rows.nodes.now)) × (why ≡ Short) × (windows' ≡ windows) × (column' ≡ column)
