-- The table that a draft or a sealed table says together with what is lent to its calls.
use Rattle.std.specs.Prelude.{List}
use Rattle.schedule.specs.Clock.{Clock}
use Rattle.design.specs.declared.nodes.Node.{Node}
use Rattle.design.specs.declared.nodes.Node.TheVariants.{Free}
use Rattle.design.specs.declared.couplings.Coupling.{Coupling}
use Rattle.design.specs.Rows.{no_coupling}
use Rattle.design.specs.Table.{State, draft, sealed, Table, Loan, first}
use Rattle.states.specs.declared.counts.Counts.{Counts}
use Rattle.states.specs.declared.OpenBook.{OpenBook}
use Rattle.states.specs.declared.stages.Editable.{Editable}
use Rattle.states.specs.declared.stages.Frozen.{Frozen}

-- a loan of a schedule and of tables that hold these rows
abbrev pub loan_of : Clock → List Node → List Coupling → Loan
loan_of schedule nodes couplings = record { schedule = schedule; nodes = nodes; couplings = couplings }

-- The counts say which of the lent rows are granted. A granted row that the lent table does not have reads as free, or as a coupling of nothing.
abbrev pub table_of : State → Counts → Loan → Table
table_of state n loan =
    record {
      clock = loan.schedule;
      state = state;
      nodes = first Free n.nodes loan.nodes;
      couplings = first no_coupling n.couplings loan.couplings;
      node_room = n.node_room;
      coupling_room = n.coupling_room;
    }

-- how many rows an open book has granted, and how many it takes
abbrev pub counts_in : {S : Type 0} → OpenBook S → Counts
counts_in b = b.counts

-- the table that an open book says in a state
abbrev pub open_table : {S : Type 0} → State → OpenBook S → Loan → Table
open_table state b loan = table_of state (counts_in b) loan

-- the table that a draft says
abbrev pub draft_table : OpenBook Editable → Loan → Table
draft_table = open_table draft

-- the table that a sealed table says
abbrev pub sealed_table : OpenBook Frozen → Loan → Table
sealed_table = open_table sealed
