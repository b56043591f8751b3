-- The table: what a book says together with its schedule and its lent rows.
use Rattle.std.specs.Prelude.{◌≡◌, ℕ, zero, suc, min, Bool, true, false, List, [], ◌∷◌, length, take}
use Rattle.schedule.specs.Clock.{Clock}
use Rattle.design.specs.declared.nodes.Node.{Node}
use Rattle.design.specs.declared.couplings.Coupling.{Coupling}
use Rattle.design.specs.declared.tables.Tables.{Tables}

-- the state of a book
pub data State : Type 0 where
  unopened : State
  draft : State
  sealed : State

-- the states of a book that is open
abbrev pub is_open : State → Bool
is_open unopened = false
is_open draft = true
is_open sealed = true

-- The clock, the state, the rows granted so far in the order of their numbers, and how many rows the book takes.
pub record Table : Type 0 where
  pub clock : Clock
  pub state : State
  pub nodes : List Node
  pub couplings : List Coupling
  pub node_room : ℕ
  pub coupling_room : ℕ

-- how many rows the tables have that are lent to a call
pub record Lent : Type 0 where
  pub nodes : ℕ
  pub couplings : ℕ

-- the most nodes that a book takes
abbrev pub most_nodes : ℕ
most_nodes = 4096

-- the most couplings that a book takes
abbrev pub most_couplings : ℕ
most_couplings = 1024

-- the table of a book that is not opened: nothing is granted, and nothing can be
abbrev pub unopened_table : Clock → Table
unopened_table clock = record { clock = clock; state = unopened; nodes = []; couplings = []; node_room = 0; coupling_room = 0 }

-- The table of a book newly opened: an empty draft. It takes as many rows as the tables have that are lent at opening, up to the most.
abbrev pub opening : Clock → Lent → Table
opening clock lent = record { clock = clock; state = draft; nodes = []; couplings = []; node_room = min lent.nodes most_nodes; coupling_room = min lent.couplings most_couplings }

-- the granted nodes whose rows the lent table has
abbrev pub lent_nodes : Lent → Table → List Node
lent_nodes lent t = take lent.nodes t.nodes

-- the granted couplings whose rows the lent table has
abbrev pub lent_couplings : Lent → Table → List Coupling
lent_couplings lent t = take lent.couplings t.couplings

-- what a call is lent beside the book: the schedule record, and the contents of the node table and the coupling table
pub record Loan : Type 0 where
  pub schedule : Clock
  pub nodes : List Node
  pub couplings : List Coupling

-- the loan that lent tables make as they stand
abbrev pub loan_in : Tables → Loan
loan_in t = record { schedule = t.schedule.now; nodes = t.nodes.now; couplings = t.couplings.now }

-- how many rows the tables of a loan have
abbrev pub lent_in : Loan → Lent
lent_in loan = record { nodes = length loan.nodes; couplings = length loan.couplings }

-- The first n rows of a lent table. A row that the table does not have reads as d, so that n rows are always n.
abbrev pub first : {X : Type 0} → X → ℕ → List X → List X
first d zero xs = []
first d (suc n) [] = d ∷ first d n []
first d (suc n) (x ∷ xs) = x ∷ first d n xs

-- the tables that were lent before, with as many rows, whatever they hold now
abbrev pub SameTables : Tables → Tables → Type 0
SameTables t t' =
    (t'.schedule.ghost_name ≡ t.schedule.ghost_name)
    × (t'.nodes.ghost_name ≡ t.nodes.ghost_name)
    × (t'.couplings.ghost_name ≡ t.couplings.ghost_name)
    × (lent_in (loan_in t') ≡ lent_in (loan_in t))
