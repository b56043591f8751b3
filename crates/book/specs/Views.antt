-- The table that a book says in whichever state.
use Rattle.std.specs.Prelude.{Some, None, Option}
use Rattle.design.specs.Table.{State, unopened, draft, sealed, Table, Loan, unopened_table}
use Rattle.states.specs.declared.counts.Counts.{Counts}
use Rattle.states.specs.Views.{counts_in, draft_table, sealed_table}
use Rattle.book.specs.declared.Book.{Book}
use Rattle.book.specs.declared.Book.TheVariants.{Unopened, Draft, Sealed}

-- the state that a book is in
abbrev pub state_of : Book → State
state_of Unopened = unopened
state_of (Draft d) = draft
state_of (Sealed s) = sealed

-- the counts of a book that is open
abbrev pub counts_of : Book → Option Counts
counts_of Unopened = None
counts_of (Draft d) = Some (counts_in d)
counts_of (Sealed s) = Some (counts_in s)

-- an unopened book has granted nothing, whatever the schedule record and the tables hold
abbrev pub book_table : Book → Loan → Table
book_table Unopened loan = unopened_table loan.schedule
book_table (Draft d) loan = draft_table d loan
book_table (Sealed s) loan = sealed_table s loan
