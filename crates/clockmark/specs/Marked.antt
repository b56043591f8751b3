-- What the program prints for a text, to a writer whose bytes are known.
use Rattle.std.specs.Prelude.{ℕ, List, Option}
use Rattle.std.specs.Io.KnownBytes.{Appends}
use Rattle.schedule.specs.Made.{blank}
use Rattle.text.specs.Lines.{lines_of}
use Rattle.design.specs.Table.{unopened_table}
use Rattle.calling.specs.Requests.{LentRows}
use Rattle.session.specs.Printing.{PrintsAll, OutputOf}

-- the rows of the program's tables: as many as a text may enter, and a flag, a window and a place of the column for each
abbrev pub program_rows : LentRows
program_rows = record { nodes = 256; couplings = 256; flags = 256; windows = 256; column = 256 }

-- the bytes of a writer grow by what is printed for the lines of a text, put to a book that is not opened
abbrev pub AnswersPrinted : List ℕ → Option (List ℕ) → Option (List ℕ) → Type 0
AnswersPrinted text old new = (printed : List ℕ) × PrintsAll program_rows (unopened_table blank) (lines_of text) printed × Appends old new printed

-- the bytes of a writer grow by the output of a text
abbrev pub OutputPrinted : List ℕ → Option (List ℕ) → Option (List ℕ) → Type 0
OutputPrinted text old new = (printed : List ℕ) × OutputOf program_rows blank text printed × Appends old new printed
