-- What is lent to a call beside the book and its tables: a flag for each coupling, and places for what the call writes of each node.
use Rattle.std.specs.Prelude.{◌≡◌, ℕ, ◌≤◌, Bool, true, false, ◌||◌, List, length, Ok, Err, Result, nat_lt}
use Rattle.refusals.specs.declared.Refusal.{Refusal}
use Rattle.refusals.specs.declared.Refusal.TheVariants.{Short}
use Rattle.design.specs.Table.{Table, Lent, Loan, lent_in}
use Rattle.design.specs.Tests.{is_short}
use Rattle.kinds.specs.declared.timings.Delays.{Delays}
use Rattle.windows.specs.declared.blocks.Leads.{Leads}
use Rattle.windows.specs.declared.circuit.Circuit.{Circuit}
use Rattle.windows.specs.declared.rows.Rows.{Rows}

-- a lent table has fewer rows than are granted, or there are fewer flags than couplings, or fewer places than nodes
abbrev pub lacks_rows : Lent → Table → ℕ → ℕ → Bool
lacks_rows l t flags places = is_short l t 0 0 || nat_lt flags (length t.couplings) || nat_lt places (length t.nodes)

-- the rows of the table that a book says with what is lent, for so many flags and places; or refused where rows are lacking
abbrev pub RowsOf : (Loan → Table) → Loan → ℕ → ℕ → Result Rows Refusal → Type 0
RowsOf view loan flags places (Ok rows) =
    (lacks_rows (lent_in loan) (view loan) flags places ≡ false)
    × (rows.schedule.now ≡ (view loan).clock)
    × (rows.nodes.now ≡ (view loan).nodes)
    × (rows.couplings.now ≡ (view loan).couplings)
    × (length rows.nodes.now ≤ 4096)
    × (length rows.couplings.now ≤ 1024)
    × (length rows.nodes.now ≤ places)
    × (length rows.couplings.now ≤ flags)
RowsOf view loan flags places (Err why) = (lacks_rows (lent_in loan) (view loan) flags places ≡ true) × (why ≡ Short)

-- the circuit of rows with these delays and leads
abbrev pub IsCircuit : Rows → List Delays → Leads → Circuit → Type 0
IsCircuit rows delays leads c = (c.schedule.now ≡ rows.schedule.now) × (c.nodes.now ≡ rows.nodes.now) × (c.delays.now ≡ delays) × (c.leads.now ≡ leads)
