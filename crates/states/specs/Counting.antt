-- The counts of a book, with one row more, and lent tables that have fewer rows.
use Rattle.std.specs.Prelude.{◌≡◌, ℕ, ◌+◌, ◌<◌, Bool, true, false, List, length, Ok, Err, Result, slice_set}
use Rattle.refusals.specs.declared.Refusal.{Refusal}
use Rattle.refusals.specs.declared.Refusal.TheVariants.{Full, Short}
use Rattle.design.specs.declared.nodes.Node.{Node}
use Rattle.design.specs.declared.couplings.Coupling.{Coupling}
use Rattle.design.specs.Tests.{fewer}
use Rattle.states.specs.declared.counts.Counts.{Counts}

-- a lent table has fewer rows than are counted
abbrev pub too_few : Counts → List Node → List Coupling → Bool
too_few n nodes couplings = fewer (record { nodes = length nodes; couplings = length couplings }) n.nodes n.couplings

-- one node more, or refused where as many are granted as the book takes
abbrev pub OneNodeMore : Counts → Result Counts Refusal → Type 0
OneNodeMore n (Ok m) = (n.nodes < n.node_room) × (m.nodes ≡ n.nodes + 1) × (m.couplings ≡ n.couplings) × (m.node_room ≡ n.node_room) × (m.coupling_room ≡ n.coupling_room)
OneNodeMore n (Err why) = (n.nodes ≡ n.node_room) × (why ≡ Full)

-- one coupling more, or refused where as many are granted as the book takes
abbrev pub OneCouplingMore : Counts → Result Counts Refusal → Type 0
OneCouplingMore n (Ok m) = (n.couplings < n.coupling_room) × (m.nodes ≡ n.nodes) × (m.couplings ≡ n.couplings + 1) × (m.node_room ≡ n.node_room) × (m.coupling_room ≡ n.coupling_room)
OneCouplingMore n (Err why) = (n.couplings ≡ n.coupling_room) × (why ≡ Full)

-- a row added behind those of the granted nodes, or refused where a lent table has fewer rows than are counted with it
abbrev pub Added : Counts → List Node → List Coupling → Node → Counts → Counts → List Node → Result ℕ Refusal → Type 0
Added old rows couplings x counts new rows' (Ok k) = (too_few counts rows couplings ≡ false) × (k ≡ old.nodes) × (rows' ≡ slice_set rows old.nodes x) × (new ≡ counts)
Added old rows couplings x counts new rows' (Err why) = (too_few counts rows couplings ≡ true) × (why ≡ Short) × (rows' ≡ rows) × (new ≡ old)
