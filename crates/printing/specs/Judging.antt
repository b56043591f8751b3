-- The table that a text leaves, judged and written as a text.
use Rattle.std.specs.Prelude.{◌≡◌, ℕ, ◌<◌, ◌≤◌, Bool, true, false, List, [], ◌∷◌, ◌++◌, length, drop, Some, None, Option, Ok, Err, Result, nat_lt}
use Rattle.refusals.specs.declared.Refusal.{Refusal}
use Rattle.refusals.specs.declared.Refusal.TheVariants.{Short, Frame, Order}
use Rattle.refusals.specs.declared.Fault.{Fault}
use Rattle.schedule.specs.Made.{blank}
use Rattle.frames.specs.declared.rules.Rule.{Rule}
use Rattle.frames.specs.Rules.{rule_of}
use Rattle.design.specs.Table.{State, unopened, draft, sealed, most_nodes, most_couplings, Table, Loan}
use Rattle.timing.specs.declared.windows.Window.{Window}
use Rattle.windows.specs.declared.flags.Flag.{Flag}
use Rattle.windows.specs.Answers.{ForSoFar}
use Rattle.rules.specs.Named.{named}
use Rattle.judging.specs.declared.verdict.Judgement.{Judgement}
use Rattle.verifying.specs.Answers.{JudgedRight}
use Rattle.reporting.specs.Report.{verdict_bytes}
use Rattle.calling.specs.Requests.{of_book}
use Rattle.loading.specs.Loading.{Loaded, loaded}
use Rattle.loading.specs.Writing.{text_of}
use Rattle.printing.specs.Outputs.{full_rows}

-- a text loaded into a book that is not opened, with tables of as many rows as a book takes
abbrev pub loaded_full : List ℕ → Loaded
loaded_full text = loaded (of_book full_rows) blank text

-- tables with as many rows as a book takes
abbrev pub HasRows : Loan → Type 0
HasRows loan = (most_nodes ≤ length loan.nodes) × (most_couplings ≤ length loan.couplings)

-- the first refusal of a list, if there is one
abbrev pub first_refusal : List (Option Refusal) → Option Refusal
first_refusal [] = None
first_refusal (None ∷ others) = first_refusal others
first_refusal (Some why ∷ others) = Some why

-- refused where no rule has the byte
abbrev pub unknown_rule : Option Rule → Option Refusal
unknown_rule None = Some Frame
unknown_rule (Some rule) = None

-- refused as the line is that was not granted
abbrev pub faulty : Result ℕ Fault → Option Refusal
faulty (Ok count) = None
faulty (Err fault) = Some fault.refusal

-- refused where the table is not sealed
abbrev pub unsealed : State → Option Refusal
unsealed unopened = Some Order
unsealed draft = Some Order
unsealed sealed = None

-- refused where this is so
abbrev pub short_if : Bool → Option Refusal
short_if true = Some Short
short_if false = None

-- how many bytes the line of a verdict spells
abbrev pub verdict_length : ℕ
verdict_length = 15

-- what a judgement of a text is refused with, if it is: the rule's byte is tested first, then the lines, the state of the table, and the room for the verdict
abbrev pub judge_refusal : List ℕ → ℕ → ℕ → Option Refusal
judge_refusal text byte room =
    first_refusal
    (unknown_rule (rule_of byte)
    ∷ faulty (loaded_full text).result
    ∷ unsealed (loaded_full text).table.state
    ∷ short_if (nat_lt room verdict_length)
    ∷ [])

-- a judgement that is right of a table under a rule, with flags and windows
abbrev pub IsRight : Table → Rule → Judgement → Type 0
IsRight t rule j = (flags : List Flag) × (windows : List Window) × JudgedRight t (named rule) j flags windows

-- of a table so far
abbrev pub JudgedSoFar : Table → Rule → Judgement → Type 0
JudgedSoFar t rule j = ForSoFar t (λ t. IsRight t rule j)

-- a judgement under the rule of a byte, which there is, and its verdict written
abbrev pub VerdictWritten : Option Rule → Table → List ℕ → List ℕ → Type 0
VerdictWritten None t old new = ⊥
VerdictWritten (Some rule) t old new = (j : Judgement) × IsRight t rule j × (new ≡ verdict_bytes j ++ drop verdict_length old)

-- The table that a text leaves, judged under the rule of a byte, and the bytes of its verdict written into the first places of a buffer; or refused, with the buffer as it was.
abbrev pub JudgedText : List ℕ → ℕ → List ℕ → List ℕ → Result ℕ Refusal → Type 0
JudgedText text byte old new (Ok n) =
    (judge_refusal text byte (length old) ≡ None)
    × (n ≡ verdict_length)
    × VerdictWritten (rule_of byte) (loaded_full text).table old new
JudgedText text byte old new (Err why) = (judge_refusal text byte (length old) ≡ Some why) × (new ≡ old)

-- the text of a table in a state; that of a book which is not opened has none
abbrev pub text_as : State → Table → List ℕ
text_as unopened t = []
text_as draft t = text_of t
text_as sealed t = text_of t

-- the text of a table
abbrev pub text_in : Table → List ℕ
text_in t = text_as t.state t

-- a text written into the first places of a buffer, or refused where the buffer is shorter, with the buffer as it was
abbrev pub TextPut : List ℕ → List ℕ → List ℕ → Result ℕ Refusal → Type 0
TextPut text old new (Ok n) = (length text ≤ length old) × (n ≡ length text) × (new ≡ text ++ drop n old)
TextPut text old new (Err why) = (length old < length text) × (why ≡ Short) × (new ≡ old)

-- the text of the table that a text leaves
abbrev pub text_left : List ℕ → List ℕ
text_left text = text_in (loaded_full text).table

-- what rebuilding a text is refused with, if it is
abbrev pub rebuild_refusal : List ℕ → ℕ → Option Refusal
rebuild_refusal text room = first_refusal (faulty (loaded_full text).result ∷ short_if (nat_lt room (length (text_left text))) ∷ [])

-- The text of the table that a text leaves, written into the first places of a buffer; or refused, with the buffer as it was.
abbrev pub RebuiltText : List ℕ → List ℕ → List ℕ → Result ℕ Refusal → Type 0
RebuiltText text old new (Ok n) = (rebuild_refusal text (length old) ≡ None) × (n ≡ length (text_left text)) × (new ≡ text_left text ++ drop n old)
RebuiltText text old new (Err why) = (rebuild_refusal text (length old) ≡ Some why) × (new ≡ old)
