-- Printing answer by answer: where it stands after some lines, and that one more answer brings it on.
use Rattle.std.proofs.Common.{◌≡◌, ℕ, ◌≤◌, List, [], ◌∷◌, ◌++◌, length, get_or, take, Some, None, Ok, Err, Option, Result, refl, sym, ap, ◌∙◌, subst, arith}
use Rattle.std.proofs.lemmas.List.{length-set, length_push, append_assoc, append-nil}
use Rattle.std.specs.Io.KnownBytes.{Appends}
use Rattle.refusals.specs.declared.Refusal.{Refusal}
use Rattle.schedule.specs.Made.{blank}
use Rattle.text.specs.Lines.{lines_of}
use Rattle.frames.specs.declared.rules.Rule.{Rule}
use Rattle.frames.specs.Frames.{Content}
use Rattle.reading.specs.Line.{line_frame}
use Rattle.design.specs.declared.nodes.Node.TheVariants.{Free}
use Rattle.design.specs.Rows.{fed_by}
use Rattle.design.specs.Table.{Table, Lent, Loan, is_open, unopened_table}
use Rattle.design.specs.Calls.{Ask, open_with, input, gate, latch, feed, couple, seal, reopen, retime}
use Rattle.design.specs.Tests.{refusal}
use Rattle.design.specs.Effects.{put, unless}
use Rattle.design.proofs.Granted.{granted, long_enough}
use Rattle.book.specs.declared.Book.{Book}
use Rattle.book.specs.Views.{book_table}
use Rattle.calling.specs.declared.request.Reply.{Reply}
use Rattle.calling.specs.Requests.{LentRows, of_book}
use Rattle.calling.specs.Applied.{ResultRows, lent_rows}
use Rattle.loading.specs.Asking.{asks}
use Rattle.loading.specs.Outcomes.{called, framed, line_outcome}
use Rattle.session.specs.Printing.{PrintsAll, rule_asked}
use Rattle.session.specs.Replies.{LineDone, IsSoFar, Replied}
use Rattle.session.proofs.Reaching.{lines_keep_so_far}
use Rattle.clockmark.specs.Marked.{program_rows, AnswersPrinted}

-- a table has no more rows than are lent
abbrev pub Few : Lent → Table → Type 0
Few l t = (length t.nodes ≤ l.nodes) × (length t.couplings ≤ l.couplings)

put_few : (l : Lent) (t : Table) (c : Ask) → Few l t → refusal l t c ≡ None → Few l (put l t c)
put_few l t (open_with clock) few free = (omega arith, omega arith)
put_few l t (input phase earliest latest) few free =
    let long = long_enough l t 1 0 (granted l t (input phase earliest latest) free).1.1.1.1.1.0 in
    (simp length_push (omega (arith, long.0)), few.1)
put_few l t (gate phase least greatest sources) few free =
    let long = long_enough l t 1 0 (granted l t (gate phase least greatest sources) free).1.1.1.1.1.1.1.0 in
    (simp length_push (omega (arith, long.0)), few.1)
put_few l t (latch phase least greatest setup hold) few free =
    let long = long_enough l t 1 0 (granted l t (latch phase least greatest setup hold) free).1.1.1.1.1.0 in
    (simp length_push (omega (arith, long.0)), few.1)
put_few l t (feed to source) few free = (omega (arith, few.0, length-set t.nodes to (fed_by source (get_or t.nodes to Free))), few.1)
put_few l t (couple victim aggressor assisting opposing) few free =
    let long = long_enough l t 0 1 (granted l t (couple victim aggressor assisting opposing) free).1.1.1.1.1.1.0 in
    (few.0, simp length_push (omega (arith, long.1)))
put_few l t seal few free = few
put_few l t reopen few free = few
put_few l t (retime clock) few free = few

by_unless : (l : Lent) (t new : Table) (o : Option Refusal) → Few l t → (o ≡ None → Few l new) → Few l (unless o new t)
by_unless l t new None few f = f refl
by_unless l t new (Some why) few f = few

called_few : (l : Lent) (t : Table) (o : Option Ask) → Few l t → Few l (called l t o).table
called_few l t None few = few
called_few l t (Some c) few = by_unless l t (put l t c) (refusal l t c) few (put_few l t c few)

framed_few : (l : Lent) (t : Table) (r : Result Content Refusal) → Few l t → Few l (framed l t r).table
framed_few l t (Ok f) few = called_few l t (asks (is_open t.state) f) few
framed_few l t (Err why) few = few

-- no line makes more rows than are lent
line_few : (l : Lent) (t : Table) (line : List ℕ) → Few l t → Few l (line_outcome l t line).table
line_few l t line few = framed_few l t (line_frame line) few

-- a table so far that has no more rows than are lent
abbrev pub Reached : LentRows → Table → Type 0
Reached l t = IsSoFar t × Few (of_book l) t

-- what a line leaves of it is one again
done_reached : (asked : Option Rule) (b b' : Book) (loan loan' : Loan) (rows rows' : ResultRows) (line : List ℕ) (r : Result Reply Refusal)
    → LineDone asked b loan rows line b' loan' rows' r → Reached (lent_rows loan rows) (book_table b loan) → Reached (lent_rows loan rows) (book_table b' loan')
done_reached None b b' loan loan' rows rows' line r (a, is, taken, kept) (far, few) =
    let l = lent_rows loan rows in
    let t = book_table b loan in
    subst (Reached l) (sym taken.1) (lines_keep_so_far l t line far, line_few (of_book l) t line few)
done_reached (Some rule) b b' loan loan' rows rows' line r (applied, sameBook, sameLoan) h = rw (sameBook, sameLoan) h

-- bytes that grow by some and then by others
appends_both : (a b c : Option (List ℕ)) (xs ys : List ℕ) → Appends a b xs → Appends b c ys → Appends a c (xs ++ ys)
appends_both None b c xs ys first next = tt
appends_both (Some x) None c xs ys first next = absurd first
appends_both (Some x) (Some y) None xs ys first next = absurd next
appends_both (Some x) (Some y) (Some z) xs ys first next = next ∙ (ap (λ zs. zs ++ ys) first ∙ append_assoc x xs ys)

-- Of a text some lines are answered, and the lines of `rest` are left: what is printed for them makes what has been printed that of the whole text.
pub record Answering (text : List ℕ) (b : Book) (loan : Loan) (rows : ResultRows) (rest : List ℕ) (old now : Option (List ℕ)) : Type 0 where
  pub lent : lent_rows loan rows ≡ program_rows
  pub reached : Reached program_rows (book_table b loan)
  pub printed : (done : List ℕ)
      × Appends old now done
      × ((more : List ℕ) → PrintsAll program_rows (book_table b loan) (lines_of rest) more → PrintsAll program_rows (unopened_table blank) (lines_of text) (done ++ more))

-- the next line is answered
pub one_more : (text : List ℕ) (b b' : Book) (loan loan' : Loan) (rows rows' : ResultRows) (rest rest' line room room' : List ℕ) (n : ℕ) (old now new : Option (List ℕ))
    → Answering text b loan rows rest old now
    → lines_of rest ≡ line ∷ lines_of rest'
    → Replied b loan rows line room b' loan' rows' room' (Ok n)
    → lent_rows loan' rows' ≡ lent_rows loan rows
    → Appends now new (take n room')
    → Answering text b' loan' rows' rest' old new
one_more text b b' loan loan' rows rows' rest rest' line room room' n old now new so split (enough, few, (r, done, written), prints) same wrote =
    let t = book_table b loan in
    let t' = book_table b' loan' in
    let (before, grown, whole) = so.printed in
    let next = take n room' in
    record {
      lent = same ∙ so.lent;
      reached = subst (λ l. Reached l t') so.lent (done_reached (rule_asked (line_frame line)) b b' loan loan' rows rows' line r done (subst (λ l. Reached l t) (sym so.lent) so.reached));
      printed = (
        before ++ next,
        appends_both old now new before next grown wrote,
        λ more h.
            let left_over : PrintsAll (lent_rows loan rows) t' (lines_of rest') more = subst (λ l. PrintsAll l t' (lines_of rest') more) (sym so.lent) h in
            let with_next : PrintsAll program_rows t (line ∷ lines_of rest') (next ++ more) = subst (λ l. PrintsAll l t (line ∷ lines_of rest') (next ++ more)) so.lent (prints so.reached.0 (lines_of rest') more left_over) in
            let from_here : PrintsAll program_rows t (lines_of rest) (next ++ more) = subst (λ ls. PrintsAll program_rows t ls (next ++ more)) (sym split) with_next in
            subst (PrintsAll program_rows (unopened_table blank) (lines_of text)) (sym (append_assoc before next more)) (whole (next ++ more) from_here),
      );
    }

-- after the last line
pub all_answered : (text : List ℕ) (b : Book) (loan : Loan) (rows : ResultRows) (rest : List ℕ) (old now : Option (List ℕ))
    → Answering text b loan rows rest old now → rest ≡ [] → AnswersPrinted text old now
all_answered text b loan rows rest old now so none =
    let (done, grown, whole) = so.printed in
    let last : PrintsAll program_rows (book_table b loan) (lines_of rest) [] = rw none refl in
    (done, subst (PrintsAll program_rows (unopened_table blank) (lines_of text)) (append-nil done) (whole [] last), grown)
