-- What is printed for a line, for lines one after another, and for a whole text.
use Rattle.std.specs.Prelude.{◌≡◌, ℕ, ◌≤◌, Bool, true, false, List, [], ◌∷◌, ◌++◌, length, take, Some, None, Ok, Err, Option, Result, nat_le}
use Rattle.refusals.specs.declared.Refusal.{Refusal}
use Rattle.refusals.specs.declared.Refusal.TheVariants.{Full}
use Rattle.refusals.specs.Numbers.{number_of}
use Rattle.schedule.specs.Clock.{Clock}
use Rattle.text.specs.Lines.{lines_of}
use Rattle.text.specs.Spelling.{line_for}
use Rattle.frames.specs.declared.kinds.Kind.{Kind}
use Rattle.frames.specs.declared.kinds.Kind.TheVariants.{Schedule, Input, Gate, Latch, Feed, Couple, Verify, Seal, Reopen}
use Rattle.frames.specs.declared.rules.Rule.{Rule}
use Rattle.frames.specs.Rules.{rule_of}
use Rattle.frames.specs.Frames.{Content, bytes_in}
use Rattle.reading.specs.Line.{line_frame}
use Rattle.design.specs.declared.calls.Answer.{Answer}
use Rattle.design.specs.declared.calls.Answer.TheVariants.{Done, Node, Coupling}
use Rattle.design.specs.Table.{Table, unopened_table}
use Rattle.timing.specs.declared.windows.Window.{Window}
use Rattle.windows.specs.declared.flags.Flag.{Flag}
use Rattle.rules.specs.Questions.{Question}
use Rattle.rules.specs.Named.{named}
use Rattle.judging.specs.declared.verdict.Judgement.{Judgement}
use Rattle.verifying.specs.Answers.{JudgedRight}
use Rattle.reporting.specs.Report.{report_of}
use Rattle.calling.specs.Requests.{LentRows, of_book, verify_refusal}
use Rattle.loading.specs.Asking.{field}
use Rattle.loading.specs.Outcomes.{line_outcome}

-- The bytes that answer a call on the table: 0 where it is granted, and the number of a node or coupling in two bytes; else the number of the refusal.
abbrev pub bytes_for : Result Answer Refusal → List ℕ
bytes_for (Ok Done) = 0 ∷ []
bytes_for (Ok (Node k)) = 0 ∷ bytes_in 2 k
bytes_for (Ok (Coupling k)) = 0 ∷ bytes_in 2 k
bytes_for (Err why) = number_of why ∷ []

-- the line of an answer
abbrev pub answer_line : Result Answer Refusal → List ℕ
answer_line answer = line_for (bytes_for answer)

-- the line of a refusal
abbrev pub refusal_line : Refusal → List ℕ
refusal_line why = line_for (number_of why ∷ [])

-- the report of a judgement of a table: of the windows those of its nodes, of the flags those of its couplings
abbrev pub report_on : Table → Judgement → List Flag → List Window → List ℕ
report_on t j flags windows = report_of j (take (length t.nodes) windows) (take (length t.couplings) flags)

-- the rule that a frame of a kind asks to judge the table under: only a verify does
abbrev pub rule_in : Kind → Content → Option Rule
rule_in Schedule f = None
rule_in Input f = None
rule_in Gate f = None
rule_in Latch f = None
rule_in Feed f = None
rule_in Couple f = None
rule_in Verify f = rule_of (field f 0)
rule_in Seal f = None
rule_in Reopen f = None

-- the rule of a line that is a verify
abbrev pub rule_asked : Result Content Refusal → Option Rule
rule_asked (Ok f) = rule_in f.kind f
rule_asked (Err why) = None

-- What is printed for a verify of a table: the number of the refusal; or else the report of a judgement that is right, with a flag for each coupling and a window for each node.
abbrev pub PrintsVerdict : Option Refusal → Table → (Question → Bool) → List ℕ → Type 0
PrintsVerdict (Some why) t sees printed = printed ≡ refusal_line why
PrintsVerdict None t sees printed =
    (j : Judgement) × (flags : List Flag) × (windows : List Window)
    × (length t.couplings ≤ length flags)
    × (length t.nodes ≤ length windows)
    × JudgedRight t sees j flags windows
    × (printed ≡ report_on t j flags windows)

-- what is printed for a line that asks for a verdict under a rule, or for none
abbrev pub PrintsAs : Option Rule → LentRows → Table → List ℕ → List ℕ → Type 0
PrintsAs None l t line printed = printed ≡ answer_line (line_outcome (of_book l) t line).answer
PrintsAs (Some rule) l t line printed = PrintsVerdict (verify_refusal l t) t (named rule) printed

-- What is printed for a line on a table: the verdict for a verify, and for any other line the answer.
abbrev pub Prints : LentRows → Table → List ℕ → List ℕ → Type 0
Prints l t line printed = PrintsAs (rule_asked (line_frame line)) l t line printed

-- What is printed for lines one after another, each on the table that the one before it leaves; a verify leaves it as it is.
abbrev pub PrintsAll : LentRows → Table → List (List ℕ) → List ℕ → Type 0
PrintsAll l t [] printed = printed ≡ []
PrintsAll l t (line ∷ others) printed =
    (first : List ℕ) × (rest : List ℕ)
    × (printed ≡ first ++ rest)
    × Prints l t line first
    × PrintsAll l (line_outcome (of_book l) t line).table others rest

-- how many bytes a text may have
abbrev pub greatest_text : ℕ
greatest_text = 65536

-- what is printed for a text, by whether it is short enough to be read
abbrev pub OutputIf : Bool → LentRows → Clock → List ℕ → List ℕ → Type 0
OutputIf true l clock text printed = PrintsAll l (unopened_table clock) (lines_of text) printed
OutputIf false l clock text printed = printed ≡ refusal_line Full

-- What is printed for a text whose lines are put to a book that is not opened. A text that is too long is refused whole.
abbrev pub OutputOf : LentRows → Clock → List ℕ → List ℕ → Type 0
OutputOf l clock text printed = OutputIf (nat_le (length text) greatest_text) l clock text printed
