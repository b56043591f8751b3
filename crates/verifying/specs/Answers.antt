-- What verify answers and writes.
use Rattle.std.specs.Prelude.{◌≡◌, ℕ, Bool, true, false, List, length, min, Ok, Err, Result}
use Rattle.refusals.specs.declared.Refusal.{Refusal}
use Rattle.refusals.specs.declared.Refusal.TheVariants.{Short}
use Rattle.design.specs.Table.{Table, Loan, lent_in}
use Rattle.design.specs.SoFar.{Stands}
use Rattle.kinds.specs.declared.arrival.Arrival.{Arrival}
use Rattle.timing.specs.declared.windows.Window.{Window}
use Rattle.rules.specs.Questions.{Question}
use Rattle.judging.specs.declared.verdict.Verdict.{Verdict}
use Rattle.judging.specs.declared.verdict.Verdict.TheVariants.{Pass, Gain, Late, Early}
use Rattle.judging.specs.declared.verdict.Judgement.{Judgement}
use Rattle.judging.specs.Verdicts.{Judged}
use Rattle.judging.specs.Right.{Right}
use Rattle.windows.specs.declared.flags.Flag.{Flag}
use Rattle.windows.specs.declared.rows.Rows.{Rows}
use Rattle.windows.specs.Carried.{AreRowsOf}
use Rattle.windows.specs.Effective.{is_flagged}
use Rattle.windows.specs.Lending.{lacks_rows}
use Rattle.windows.specs.Written.{window_at}
use Rattle.windows.specs.Answers.{ForSoFar, KeptBeyond}

-- A window table that a verdict leaves: on gain it is as it was, and else so are the rows past the nodes.
abbrev pub KeptWindows : Verdict → ℕ → List Window → List Window → Type 0
KeptWindows Pass n old new = KeptBeyond n old new
KeptWindows (Gain latch) n old new = new ≡ old
KeptWindows (Late latch excess) n old new = KeptBeyond n old new
KeptWindows (Early latch excess) n old new = KeptBeyond n old new

-- the judgement of a table, with the flags and the windows that stand in tables: it is the table's, and it is right
abbrev pub JudgedRight : Table → (Question → Bool) → Judgement → List Flag → List Window → Type 0
JudgedRight t sees j flags windows =
    Judged t sees j (is_flagged flags) (window_at windows)
    × Right t sees j (is_flagged flags) (window_at windows)

-- The rows of a table judged. The flags of the couplings and the windows of the nodes are written and nothing past them, and on gain no window; and of a table that stands and has these rows the judgement is right. Nothing is refused.
abbrev pub JudgeAnswered : Rows → (Question → Bool) → List Flag → List Flag → List Window → List Window → List Arrival → List Arrival → Result Judgement Refusal → Type 0
JudgeAnswered rows sees flags flags' windows windows' column column' (Ok j) =
    KeptBeyond (length rows.couplings.now) flags flags'
    × KeptWindows j.verdict (length rows.nodes.now) windows windows'
    × KeptBeyond (length rows.nodes.now) column column'
    × ((t : Table) → Stands t → AreRowsOf t rows → JudgedRight t sees j flags' windows')
JudgeAnswered rows sees flags flags' windows windows' column column' (Err why) = ⊥

-- Verify, on a book that says a table with what is lent. Refused where rows are lacking, and then nothing is written. Else the flags of the couplings and the windows of the nodes are written and nothing past them, and on gain no window; and of a table so far the judgement is right.
abbrev pub VerifyAnswered : (Loan → Table) → Loan → (Question → Bool) → List Flag → List Flag → List Window → List Window → List Arrival → List Arrival → Result Judgement Refusal → Type 0
VerifyAnswered view loan sees flags flags' windows windows' column column' (Ok j) =
    (lacks_rows (lent_in loan) (view loan) (length flags) (min (length windows) (length column)) ≡ false)
    × KeptBeyond (length (view loan).couplings) flags flags'
    × KeptWindows j.verdict (length (view loan).nodes) windows windows'
    × KeptBeyond (length (view loan).nodes) column column'
    × ForSoFar (view loan) (λ t. JudgedRight t sees j flags' windows')
VerifyAnswered view loan sees flags flags' windows windows' column column' (Err why) =
    (lacks_rows (lent_in loan) (view loan) (length flags) (min (length windows) (length column)) ≡ true)
    × (why ≡ Short)
    × (flags' ≡ flags)
    × (windows' ≡ windows)
    × (column' ≡ column)
