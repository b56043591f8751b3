-- What is printed for a reply is what is printed for the line, and the longest reply has room for it.
use Rattle.std.proofs.Common.{◌≡◌, ℕ, ◌≤◌, min, Bool, List, length, take, drop, Some, None, Ok, Err, Option, Result, refl, sym, ap, ◌∙◌, inl, inr, arith}
use Rattle.std.proofs.lemmas.List.{length-take, take_at}
use Rattle.refusals.specs.declared.Refusal.{Refusal}
use Rattle.text.proofs.Spelled.{length_line}
use Rattle.frames.specs.declared.kinds.Kind.{Kind}
use Rattle.frames.specs.declared.kinds.Kind.TheVariants.{Schedule, Input, Gate, Latch, Feed, Couple, Verify, Seal, Reopen}
use Rattle.frames.specs.declared.rules.Rule.{Rule}
use Rattle.frames.specs.declared.rules.Rule.TheVariants.{Never, ThreeOccurrences, Always}
use Rattle.frames.specs.Rules.{rule_byte, rule_of}
use Rattle.frames.specs.declared.Frame.TheVariants.{Verify as VerifyFrame}
use Rattle.frames.specs.Contents.{content_of}
use Rattle.frames.specs.Frames.{Content}
use Rattle.reading.specs.Line.{line_frame}
use Rattle.design.specs.declared.calls.Answer.{Answer}
use Rattle.design.specs.declared.calls.Answer.TheVariants.{Done, Node, Coupling}
use Rattle.design.specs.Table.{sealed, Table, Loan, lent_in}
use Rattle.timing.specs.declared.windows.Window.{Window}
use Rattle.rules.specs.Questions.{Question}
use Rattle.rules.specs.Named.{named}
use Rattle.judging.specs.declared.verdict.Verdict.{Verdict}
use Rattle.judging.specs.declared.verdict.Verdict.TheVariants.{Pass, Gain, Late, Early}
use Rattle.reporting.specs.Report.{windows_with}
use Rattle.reporting.proofs.Joins.{report_long}
use Rattle.book.specs.declared.Book.{Book}
use Rattle.book.specs.declared.Book.TheVariants.{Unopened, Draft, Sealed}
use Rattle.book.specs.Views.{state_of, book_table}
use Rattle.calling.specs.declared.request.Reply.{Reply}
use Rattle.calling.specs.declared.request.Reply.TheVariants.{Changed, Judged}
use Rattle.calling.specs.Requests.{LentRows, of_book, verify_refusal, changed}
use Rattle.calling.specs.Applied.{ResultRows, lent_rows, VerifyApplied}
use Rattle.calling.proofs.Fronts.{windows_long, all_there}
use Rattle.loading.specs.Outcomes.{framed, line_outcome}
use Rattle.loading.specs.Loads.{FrameTaken}
use Rattle.session.specs.Printing.{bytes_for, answer_line, rule_in, rule_asked, PrintsVerdict, PrintsAs}
use Rattle.session.specs.Replies.{longest_reply, text_for, Put, LineDone, VerdictPut, IsSoFar, Replied}

-- an answer has one byte or three
pub few_bytes : (a : Result Answer Refusal) → length (bytes_for a) ≤ 3
few_bytes (Ok Done) = omega arith
few_bytes (Ok (Node k)) = omega arith
few_bytes (Ok (Coupling k)) = omega arith
few_bytes (Err why) = omega arith

-- on gain no windows are shown, and else all
shown_most : (verdict : Verdict) (windows : List Window) → length (windows_with verdict windows) ≤ length windows
shown_most Pass windows = omega arith
shown_most (Gain latch) windows = omega arith
shown_most (Late latch excess) windows = omega arith
shown_most (Early latch excess) windows = omega arith

-- no reply is longer than the longest one
text_fits : (t : Table) (rows : ResultRows) (r : Result Reply Refusal) → length (text_for t rows r) ≤ longest_reply t
text_fits t rows (Ok (Changed a)) = omega (arith, length_line (bytes_for (Ok a)), few_bytes (Ok a))
text_fits t rows (Ok (Judged j)) =
    let windows = take (length t.nodes) rows.windows in
    let flags = take (length t.couplings) rows.flags in
    omega (arith, report_long j windows flags, shown_most j.verdict windows, length-take (length t.nodes) rows.windows, length-take (length t.couplings) rows.flags)
text_fits t rows (Err why) = omega (arith, length_line (bytes_for (Err why)))

-- the state of a book is that of the table that it says
state_said : (b : Book) (loan : Loan) → (book_table b loan).state ≡ state_of b
state_said Unopened loan = refl
state_said (Draft d) loan = refl
state_said (Sealed s) loan = refl

-- a verify leaves the table as it is
kind_keeps : (l : LentRows) (t : Table) (k : Kind) (f : Content) (rule : Rule) → f.kind ≡ k → rule_in k f ≡ Some rule → (framed (of_book l) t (Ok f)).table ≡ t
kind_keeps l t Schedule f rule e is = absurd cc
kind_keeps l t Input f rule e is = absurd cc
kind_keeps l t Gate f rule e is = absurd cc
kind_keeps l t Latch f rule e is = absurd cc
kind_keeps l t Feed f rule e is = absurd cc
kind_keeps l t Couple f rule e is = absurd cc
kind_keeps l t Verify f rule e is = rw e refl
kind_keeps l t Seal f rule e is = absurd cc
kind_keeps l t Reopen f rule e is = absurd cc

frame_keeps : (l : LentRows) (t : Table) (r : Result Content Refusal) (rule : Rule) → rule_asked r ≡ Some rule → (framed (of_book l) t r).table ≡ t
frame_keeps l t (Ok f) rule is = kind_keeps l t f.kind f rule refl is
frame_keeps l t (Err why) rule is = absurd cc

-- what is printed for the reply to a change is its answer
pub changed_line : (t : Table) (rows : ResultRows) (a : Result Answer Refusal) → text_for t rows (changed a) ≡ answer_line a
changed_line t rows (Ok a) = refl
changed_line t rows (Err why) = refl

-- the reply to a verify of a table so far
verdict_printed : (b : Book) (loan : Loan) (sees : Question → Bool) (rows rows' : ResultRows) (r : Result Reply Refusal)
    → VerifyApplied b loan sees rows rows' r → IsSoFar (book_table b loan)
    → PrintsVerdict (verify_refusal (lent_rows loan rows) (book_table b loan)) (book_table b loan) sees (text_for (book_table b loan) rows' r)
verdict_printed b loan sees rows rows' (Ok (Changed a)) h far = absurd h
verdict_printed b loan sees rows rows' (Ok (Judged j)) h (inl (clock, e)) =
    let is : state_of b ≡ sealed = h.0 in
    absurd (grind (arith, state_said b loan))
verdict_printed b loan sees rows rows' (Ok (Judged j)) h (inr (clock, lent, calls, held, e)) =
    let (is, answered) = h in
    let (enough, flagged, windowed, _, so) = answered in
    let t = book_table b loan in
    let there = all_there loan t (length rows.flags) (min (length rows.windows) (length rows.column)) enough in
    let free : verify_refusal (lent_rows loan rows) t ≡ None = grind (arith, state_said b loan) in
    rw free (
      j,
      rows'.flags,
      rows'.windows,
      omega (arith, there.2, flagged.0),
      omega (arith, there.3, windows_long j.verdict (length t.nodes) rows.windows rows'.windows windowed),
      so clock lent calls held e,
      refl,
    )
verdict_printed b loan sees rows rows' (Err why) h far = rw (h.0) refl

-- a line that is done on a table so far: what is printed for it, and the table after it
pub done_printed : (asked : Option Rule) (b b' : Book) (loan loan' : Loan) (rows rows' : ResultRows) (line : List ℕ) (r : Result Reply Refusal)
    → rule_asked (line_frame line) ≡ asked → LineDone asked b loan rows line b' loan' rows' r → IsSoFar (book_table b loan)
    → PrintsAs asked (lent_rows loan rows) (book_table b loan) line (text_for (book_table b loan) rows' r)
    × ((line_outcome (lent_in loan) (book_table b loan) line).table ≡ book_table b' loan')
done_printed None b b' loan loan' rows rows' line r is (a, e, taken, _) far =
    (ap (text_for (book_table b loan) rows') e ∙ (changed_line (book_table b loan) rows' a ∙ ap answer_line taken.0), sym taken.1)
done_printed (Some rule) b b' loan loan' rows rows' line r is h far = (
  verdict_printed b loan (named rule) rows rows' r h.0 far,
  frame_keeps (lent_rows loan rows) (book_table b loan) (line_frame line) rule is ∙ sym (cc),
)

-- A line that is done, and its reply written.
pub replied : (b b' : Book) (loan loan' : Loan) (rows rows' : ResultRows) (line old new : List ℕ) (asked : Option Rule) (r : Result Reply Refusal) (result : Result ℕ Refusal)
    → longest_reply (book_table b loan) ≤ length old
    → rule_asked (line_frame line) ≡ asked
    → LineDone asked b loan rows line b' loan' rows' r
    → Put (text_for (book_table b loan) rows' r) old new result
    → Replied b loan rows line old b' loan' rows' new result
replied b b' loan loan' rows rows' line old new asked r (Ok n) room is done put =
    let t = book_table b loan in
    let text = text_for t rows' r in
    let fits = text_fits t rows' r in
    let first : take n new ≡ text = ap (take n) put.1 ∙ take_at text (drop n old) n (sym put.0) in (
      room,
      omega (arith, put.0),
      (r, rw is done, put),
      λ far others rest h.
          let printed = done_printed asked b b' loan loan' rows rows' line r is done far in
          (take n new, rest, refl, rw (first, is) printed.0, rw printed.1 h),
    )
replied b b' loan loan' rows rows' line old new asked r (Err why) room is done put = absurd (omega (arith, text_fits (book_table b loan) rows' r))

-- a rule is that of its byte
rule_back : (rule : Rule) → rule_of (rule_byte rule) ≡ Some rule
rule_back Never = refl
rule_back ThreeOccurrences = refl
rule_back Always = refl

-- a line that is a verify
pub verify_replied : (b b' : Book) (loan loan' : Loan) (rows rows' : ResultRows) (line old new : List ℕ) (rule : Rule) (result : Result ℕ Refusal)
    → longest_reply (book_table b loan) ≤ length old
    → line_frame line ≡ Ok (content_of (VerifyFrame rule))
    → VerdictPut rule b loan rows old b' loan' rows' new result
    → Replied b loan rows line old b' loan' rows' new result
verify_replied b b' loan loan' rows rows' line old new rule result room is (r, applied, put) =
    replied b b' loan loan' rows rows' line old new (Some rule) r result room (ap rule_asked is ∙ rule_back rule) applied put

-- a line that is another frame
pub frame_replied : (b b' : Book) (loan loan' : Loan) (rows : ResultRows) (line old new : List ℕ) (f : Content) (a : Result Answer Refusal) (result : Result ℕ Refusal)
    → longest_reply (book_table b loan) ≤ length old
    → line_frame line ≡ Ok f
    → rule_asked (Ok f) ≡ None
    → FrameTaken b loan f b' loan' a
    → Put (answer_line a) old new result
    → Replied b loan rows line old b' loan' rows new result
frame_replied b b' loan loan' rows line old new f a result room is none taken put =
    replied b b' loan loan' rows rows line old new None (changed a) result room (ap rule_asked is ∙ none) (a, refl, rw is taken, refl) (rw (changed_line (book_table b loan) rows a) put)

-- a line without a frame
pub refusal_replied : (b : Book) (loan : Loan) (rows : ResultRows) (line old new : List ℕ) (why : Refusal) (result : Result ℕ Refusal)
    → longest_reply (book_table b loan) ≤ length old
    → line_frame line ≡ Err why
    → Put (answer_line (Err why)) old new result
    → Replied b loan rows line old b loan rows new result
refusal_replied b loan rows line old new why result room is put =
    replied b b loan loan rows rows line old new None (Err why) result room (ap rule_asked is) (Err why, refl, rw is (refl, refl, (refl, refl), λ _ _. (refl, refl)), refl) put
