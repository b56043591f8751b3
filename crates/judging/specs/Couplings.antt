-- Which couplings are seen under a set of them, and the system that a table makes with a coupling rule.
use Rattle.std.specs.Prelude.{◌≡◌, ℕ, ◌<◌, Bool, true, List, length, slice_index_or}
use Rattle.closing.specs.Sets.{Flags}
use Rattle.closing.specs.Systems.{System}
use Rattle.design.specs.declared.nodes.Node.{Node}
use Rattle.design.specs.declared.couplings.Coupling.{Coupling}
use Rattle.design.specs.Rows.{no_coupling, phase_of}
use Rattle.design.specs.Table.{Table}
use Rattle.timing.specs.declared.windows.Window.{Window}
use Rattle.timing.specs.Connections.{row}
use Rattle.timing.specs.Windows.{HasNoEnd, IsWindow}
use Rattle.timing.specs.Breaches.{AllEnd}
use Rattle.rules.specs.declared.wire.Wire.{Wire}
use Rattle.rules.specs.Questions.{Question, question}

-- the coupling of a number
abbrev pub coupling_at : Table → ℕ → Coupling
coupling_at t c = slice_index_or t.couplings c no_coupling

-- the wire of a node that has this window
abbrev pub wire_of : List Node → ℕ → Window → Wire
wire_of nodes v w = record { node = v; phase = phase_of (row nodes v); window = w }

-- what a rule is asked about a coupling whose victim and aggressor have these windows
abbrev pub asked_about : Table → Coupling → Window → Window → Question
asked_about t k w x = question t.clock (wire_of t.nodes k.victim w) (wire_of t.nodes k.aggressor x)

-- a coupling that the rule sees when it is asked with the windows of its victim and its aggressor under a set
abbrev pub IsSeen : Table → (Question → Bool) → Flags → ℕ → Type 0
IsSeen t sees S c =
    (w : Window) × (x : Window)
    × IsWindow t S (coupling_at t c).victim w
    × IsWindow t S (coupling_at t c).aggressor x
    × (sees (asked_about t (coupling_at t c) w x) ≡ true)

-- some window has no end
abbrev pub SomeWithoutEnd : Table → Flags → Type 0
SomeWithoutEnd t S = (v : ℕ) × (v < length t.nodes) × HasNoEnd t S v

-- The system of a table and a rule has a flag for each granted coupling. A set is bounded where all windows under it have an end. So a set is closed if all windows under it have an end and the rule, asked with these windows, sees no coupling outside it.
abbrev pub system_of : Table → (Question → Bool) → System
system_of t sees = record { size = length t.couplings; Bounded = AllEnd t; Endless = SomeWithoutEnd t; Sees = IsSeen t sees }
