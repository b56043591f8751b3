-- What holds of all texts.
use Rattle.std.specs.Prelude.{◌≡◌, ℕ, List}
use Rattle.schedule.specs.Clock.{Clock}
use Rattle.design.specs.Table.{Table}
use Rattle.calling.specs.Requests.{LentRows, of_book}
use Rattle.loading.specs.Outcomes.{line_outcome}
use Rattle.session.specs.Printing.{OutputOf}
use Rattle.session.specs.Replies.{IsSoFar}

-- a text has no more than one output
abbrev pub OneOutput : Type 0
OneOutput = (l : LentRows) (clock : Clock) (text first second : List ℕ) → OutputOf l clock text first → OutputOf l clock text second → first ≡ second

-- every line leaves a table so far a table so far
abbrev pub LinesKeepSoFar : Type 0
LinesKeepSoFar = (l : LentRows) (t : Table) (line : List ℕ) → IsSoFar t → IsSoFar (line_outcome (of_book l) t line).table
