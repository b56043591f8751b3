-- How many bytes the output of a text may have.
use Rattle.std.specs.Prelude.{ℕ, List, sum_by, Some, None, Option}
use Rattle.text.specs.Lines.{lines_of}
use Rattle.frames.specs.declared.rules.Rule.{Rule}
use Rattle.reading.specs.Line.{line_frame}
use Rattle.design.specs.Table.{most_nodes, most_couplings}
use Rattle.reporting.specs.Report.{report_length}
use Rattle.session.specs.Printing.{rule_asked}

-- the longest reply: the report of a verdict on as many nodes and couplings as a book takes
abbrev pub most_reply : ℕ
most_reply = report_length most_nodes most_couplings

-- a line that asks for a verdict has a report at most, and any other one three bytes in digits and a line feed
abbrev pub most_asked : Option Rule → ℕ
most_asked None = 7
most_asked (Some rule) = most_reply

-- the most bytes that are printed for a line
abbrev pub most_printed : List ℕ → ℕ
most_printed line = most_asked (rule_asked (line_frame line))

-- the most bytes that are printed for lines one after another
abbrev pub room_of : List (List ℕ) → ℕ
room_of lines = sum_by most_printed lines

-- the most bytes that the output of a text has
abbrev pub room_for : List ℕ → ℕ
room_for text = room_of (lines_of text)
