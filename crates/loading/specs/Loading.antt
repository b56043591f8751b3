-- Loading a whole text: line by line until one is refused.
use Rattle.std.specs.Prelude.{ℕ, ◌+◌, List, [], ◌∷◌, Ok, Err, Result}
use Rattle.refusals.specs.declared.Refusal.{Refusal}
use Rattle.refusals.specs.declared.Fault.{Fault}
use Rattle.refusals.specs.Layers.{fault_of}
use Rattle.text.specs.Lines.{lines_of}
use Rattle.schedule.specs.Clock.{Clock}
use Rattle.design.specs.declared.calls.Answer.{Answer}
use Rattle.design.specs.Table.{Table, Lent, unopened_table}
use Rattle.loading.specs.Outcomes.{line_outcome}

-- the table that loading leaves, and how many lines were granted, or the fault of the line that was not
pub record Loaded : Type 0 where
  pub table : Table
  pub result : Result ℕ Fault

-- a refused line, whose number is given, ends the loading with the table as it was before; a granted one lets it go on
abbrev pub unless_refused : Result Answer Refusal → ℕ → Table → Loaded → Loaded
unless_refused (Ok a) line t rest = rest
unless_refused (Err why) line t rest = record { table = t; result = Err (fault_of line why) }

-- loading goes on with lines after so many that were granted
abbrev pub load_from : Lent → ℕ → Table → List (List ℕ) → Loaded
load_from l count t [] = record { table = t; result = Ok count }
load_from l count t (line ∷ others) = unless_refused (line_outcome l t line).answer (count + 1) t (load_from l (count + 1) (line_outcome l t line).table others)

-- a text loaded into a book that is not opened
abbrev pub loaded : Lent → Clock → List ℕ → Loaded
loaded l clock text = load_from l 0 (unopened_table clock) (lines_of text)
