-- What the functions of this crate answer and write.
use Rattle.std.specs.Prelude.{◌≡◌, ℕ, ◌<◌, ◌≤◌, ◌⊎◌, List, ◌∷◌, ◌++◌, length, take, drop, Some, None, Ok, Err, Option, Result, ◌↔◌}
use Rattle.refusals.specs.declared.Refusal.{Refusal}
use Rattle.refusals.specs.declared.Refusal.TheVariants.{Full, Short}
use Rattle.schedule.specs.Clock.{Clock}
use Rattle.text.specs.declared.lines.Lines.{Lines}
use Rattle.text.specs.Lines.{lines_of, Reads}
use Rattle.frames.specs.declared.rules.Rule.{Rule}
use Rattle.reading.specs.Line.{line_frame}
use Rattle.design.specs.declared.calls.Answer.{Answer}
use Rattle.design.specs.Table.{Table, Lent, Loan, unopened_table, opening}
use Rattle.design.specs.Calls.{Ask}
use Rattle.design.specs.Effects.{after}
use Rattle.design.specs.SoFar.{Held}
use Rattle.rules.specs.Named.{named}
use Rattle.reporting.specs.Report.{report_length}
use Rattle.book.specs.declared.Book.{Book}
use Rattle.book.specs.Views.{book_table}
use Rattle.calling.specs.declared.request.Reply.{Reply}
use Rattle.calling.specs.declared.request.Reply.TheVariants.{Changed, Judged}
use Rattle.calling.specs.Requests.{verify, LentRows, changed}
use Rattle.calling.specs.Applied.{ResultRows, lent_rows, Applied}
use Rattle.loading.specs.Loads.{LineTaken}
use Rattle.session.specs.Printing.{answer_line, report_on, rule_asked, PrintsAll, greatest_text, refusal_line, OutputOf}

-- Admitting a text hands out its reader, and its output is what is printed for its lines; or it is refused, and the refusal is its output.
abbrev pub Admitted : List ℕ → Result Lines Refusal → Type 0
Admitted text (Ok lines) =
    (length text ≤ greatest_text)
    × Reads text lines
    × ((l : LentRows) (clock : Clock) (printed : List ℕ) → OutputOf l clock text printed ↔ PrintsAll l (unopened_table clock) (lines_of text) printed)
Admitted text (Err why) =
    (greatest_text < length text)
    × (why ≡ Full)
    × ((l : LentRows) (clock : Clock) (printed : List ℕ) → OutputOf l clock text printed ↔ (printed ≡ refusal_line why))

-- How many bytes the longest reply to a line has: the report of a verdict on a table with all its windows.
abbrev pub longest_reply : Table → ℕ
longest_reply t = report_length (length t.nodes) (length t.couplings)

-- what is printed for the reply to a call on a table, with what then stands in the flag table and the window table
abbrev pub text_for : Table → ResultRows → Result Reply Refusal → List ℕ
text_for t rows (Ok (Changed a)) = answer_line (Ok a)
text_for t rows (Ok (Judged j)) = report_on t j rows.flags rows.windows
text_for t rows (Err why) = answer_line (Err why)

-- a text written into the first places of a buffer that is long enough for it, or refused
abbrev pub Put : List ℕ → List ℕ → List ℕ → Result ℕ Refusal → Type 0
Put text old new (Ok n) = (n ≡ length text) × (new ≡ text ++ drop n old)
Put text old new (Err why) = length old < length text

-- What a line does to a book, its tables and those lent for verdicts, and its reply: a verify is put to the book as a call under its rule, and any other line does what loading says.
abbrev pub LineDone : Option Rule → Book → Loan → ResultRows → List ℕ → Book → Loan → ResultRows → Result Reply Refusal → Type 0
LineDone None b loan rows line b' loan' rows' r =
    (a : Result Answer Refusal) × (r ≡ changed a) × LineTaken b loan line b' loan' a × (rows' ≡ rows)
LineDone (Some rule) b loan rows line b' loan' rows' r = Applied b loan rows (verify (named rule)) b' loan' rows' r

-- a verify put to the book as a call, and what is printed for its reply written
abbrev pub VerdictPut : Rule → Book → Loan → ResultRows → List ℕ → Book → Loan → ResultRows → List ℕ → Result ℕ Refusal → Type 0
VerdictPut rule b loan rows old b' loan' rows' new result =
    (r : Result Reply Refusal)
    × Applied b loan rows (verify (named rule)) b' loan' rows' r
    × Put (text_for (book_table b loan) rows' r) old new result

-- a table so far: that of a book which is not opened, or one that a list of calls makes of a newly opened one
abbrev pub IsSoFar : Table → Type 0
IsSoFar t =
    ((clock : Clock) × (t ≡ unopened_table clock))
    ⊎ ((clock : Clock) × (lent : Lent) × (calls : List (Lent × Ask)) × Held clock × (t ≡ after (opening clock lent) calls))

-- Answering a line. Refused where the buffer has not room for the longest reply, with everything as it was. Else the line is done and what is printed for its reply is written; and of a table so far, this followed by what is printed for other lines on the table then is what is printed for this line and the others.
abbrev pub Replied : Book → Loan → ResultRows → List ℕ → List ℕ → Book → Loan → ResultRows → List ℕ → Result ℕ Refusal → Type 0
Replied b loan rows line old b' loan' rows' new (Ok n) =
    (longest_reply (book_table b loan) ≤ length old)
    × (n ≤ longest_reply (book_table b loan))
    × ((r : Result Reply Refusal)
    × LineDone (rule_asked (line_frame line)) b loan rows line b' loan' rows' r
    × Put (text_for (book_table b loan) rows' r) old new (Ok n))
    × (IsSoFar (book_table b loan)
    → (others : List (List ℕ)) (rest : List ℕ)
    → PrintsAll (lent_rows loan rows) (book_table b' loan') others rest
    → PrintsAll (lent_rows loan rows) (book_table b loan) (line ∷ others) (take n new ++ rest))
Replied b loan rows line old b' loan' rows' new (Err why) =
    (length old < longest_reply (book_table b loan))
    × (why ≡ Short)
    × (new ≡ old)
    × (b' ≡ b)
    × (loan' ≡ loan)
    × (rows' ≡ rows)
