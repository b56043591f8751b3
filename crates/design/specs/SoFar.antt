-- What every table so far satisfies: each table that a list of calls makes of a newly opened one.
use Rattle.std.specs.Prelude.{◌≡◌, ℕ, ◌<◌, ◌≤◌, true, false, ◌⊎◌, List, length, Some, None, Option, ◌≢◌, slice_index, slice_index_or}
use Rattle.schedule.specs.Clock.{Clock, lawful, cleared, has_phase}
use Rattle.design.specs.declared.nodes.Node.{Node}
use Rattle.design.specs.declared.nodes.Node.TheVariants.{Free, Input, Gate, Latch}
use Rattle.design.specs.declared.couplings.Coupling.{Coupling}
use Rattle.design.specs.Rows.{greatest_time, greatest_delay, sources_in, has_fan, gathered, is_victim, is_unfed, least_delay, no_coupling, is_pair, assisting_of}
use Rattle.design.specs.Table.{draft, sealed, Table, most_nodes, most_couplings}

-- a phase of the clock, and a least delay no greater than the greatest, which is within its limit
abbrev pub Delayed : Clock → ℕ → ℕ → ℕ → Type 0
Delayed clock phase least greatest = (has_phase clock phase ≡ true) × (least ≤ greatest) × (greatest ≤ greatest_delay)

-- the source of a latch, where it has one, is below a count
abbrev pub Fed : ℕ → Option ℕ → Type 0
Fed count None = Unit {0}
Fed count (Some source) = source < count

-- Row k of a table of so many nodes. A gate's sources stand before it, so that gates alone make no ring.
abbrev pub RowStands : Clock → ℕ → ℕ → Node → Type 0
RowStands clock count k Free = ⊥
RowStands clock count k (Input phase earliest latest) = (has_phase clock phase ≡ true) × (earliest ≤ latest) × (latest ≤ greatest_time)
RowStands clock count k (Gate phase least greatest sources) =
    Delayed clock phase least greatest
    × (has_fan (sources_in sources) ≡ true)
    × (sources ≡ gathered (sources_in sources))
    × ((i : ℕ) → i < length (sources_in sources) → slice_index (sources_in sources) i < k)
RowStands clock count k (Latch phase least greatest setup hold source) =
    Delayed clock phase least greatest
    × (setup ≤ greatest_delay)
    × (hold ≤ greatest_delay)
    × Fed count source

-- a coupling is of two nodes that are there, the victim one that can be disturbed, and its amounts are within their limit
abbrev pub CouplingStands : List Node → Coupling → Type 0
CouplingStands nodes k =
    (k.victim < length nodes)
    × (k.aggressor < length nodes)
    × (is_victim (slice_index_or nodes k.victim Free) ≡ true)
    × (k.victim ≢ k.aggressor)
    × (k.assisting ≤ greatest_delay)
    × (k.opposing ≤ greatest_delay)

-- no victim has an aggressor twice
abbrev pub NoPairTwice : List Coupling → Type 0
NoPairTwice ks = (i j : ℕ) → i < j → j < length ks → is_pair (slice_index_or ks i no_coupling).victim (slice_index_or ks i no_coupling).aggressor (slice_index_or ks j no_coupling) ≡ false

-- the assisting amounts of no node exceed its least delay
abbrev pub NoneOver : List Node → List Coupling → Type 0
NoneOver nodes ks = (v : ℕ) → assisting_of ks v ≤ least_delay (slice_index_or nodes v Free)

-- a clock as a schedule record holds it
abbrev pub Held : Clock → Type 0
Held clock = (lawful clock ≡ true) × (cleared clock ≡ clock)

-- A table that stands: a lawful clock with nothing past its last phase, no more rows than the book takes, each row and coupling sound, and no unfed latch where it is sealed.
pub record Stands (t : Table) : Type 0 where
  pub opened : (t.state ≡ draft) ⊎ (t.state ≡ sealed)
  pub held : Held t.clock
  pub node_count : (length t.nodes ≤ t.node_room) × (t.node_room ≤ most_nodes)
  pub coupling_count : (length t.couplings ≤ t.coupling_room) × (t.coupling_room ≤ most_couplings)
  pub rows : (k : ℕ) → k < length t.nodes → RowStands t.clock (length t.nodes) k (slice_index_or t.nodes k Free)
  pub pairs : (k : ℕ) → k < length t.couplings → CouplingStands t.nodes (slice_index_or t.couplings k no_coupling)
  pub once : NoPairTwice t.couplings
  pub within : NoneOver t.nodes t.couplings
  pub fed : t.state ≡ sealed → (k : ℕ) → k < length t.nodes → is_unfed (slice_index_or t.nodes k Free) ≡ false
