-- Whole texts: what is printed for two parts of one, and the table that one leaves.
use Rattle.std.proofs.Common.{◌≡◌, ℕ, ◌+◌, ◌≤◌, Bool, ltb, ◌||◌, false, true, List, [], ◌∷◌, ◌++◌, length, take, drop, Some, None, Ok, Err, Option, Result, refl, sym, ap, ◌∙◌, subst, inl, inr, arith}
use Rattle.std.specs.Prelude.{ok_or}
use Rattle.std.proofs.lemmas.Bool.Decides.{nat_tests}
use Rattle.std.proofs.lemmas.List.{take_at, drop_at}
use Rattle.refusals.specs.declared.Refusal.{Refusal}
use Rattle.refusals.specs.declared.Fault.{Fault}
use Rattle.schedule.specs.Made.{blank}
use Rattle.frames.specs.declared.NotAFrame.{NotAFrame}
use Rattle.frames.specs.declared.rules.Rule.{Rule}
use Rattle.frames.specs.Rules.{rule_of, rule_read}
use Rattle.design.specs.declared.calls.Answer.{Answer}
use Rattle.design.specs.Table.{sealed, Table, Lent, Loan}
use Rattle.design.specs.Tests.{is_short}
use Rattle.judging.specs.declared.verdict.Judgement.{Judgement}
use Rattle.reporting.specs.Report.{verdict_bytes}
use Rattle.reporting.proofs.Joins.{written_then}
use Rattle.states.specs.declared.OpenBook.{OpenBook}
use Rattle.states.specs.declared.stages.Frozen.{Frozen}
use Rattle.states.specs.Views.{sealed_table}
use Rattle.book.specs.declared.Book.{Book}
use Rattle.book.specs.declared.Book.TheVariants.{Unopened, Sealed}
use Rattle.book.specs.Views.{book_table}
use Rattle.calling.specs.Requests.{LentRows, of_book}
use Rattle.calling.specs.Applied.{ResultRows}
use Rattle.loading.specs.Outcomes.{line_outcome}
use Rattle.loading.specs.Loading.{Loaded, unless_refused, load_from}
use Rattle.loading.specs.Loads.{LoadedBy}
use Rattle.loading.specs.Writing.{text_of}
use Rattle.listing.specs.Listed.{WrittenTo}
use Rattle.session.specs.Replies.{IsSoFar}
use Rattle.session.proofs.Reaching.{lines_keep_so_far}
use Rattle.text.specs.Lines.{lines_of}
use Rattle.printing.specs.Room.{room_for}
use Rattle.printing.specs.Replies.{TextReplied}
use Rattle.printing.specs.Overwriting.{overwritten}
use Rattle.printing.specs.Outputs.{full_rows, blank_loan, blank_results, PrintedOver}
use Rattle.printing.specs.Judging.{loaded_full, verdict_length, IsRight, JudgedSoFar, VerdictWritten, JudgedText, text_in, TextPut, RebuiltText}

-- both parts of a text are answered
pub printed_over : (text : List ℕ) (place : ℕ) (records old mid new first rest : List ℕ) (b b' : Book) (loan over loan' : Loan) (rows rows' : ResultRows) (end n : ℕ)
    → first ≡ take place text → rest ≡ drop place text → room_for first + room_for rest ≤ length old → length mid ≡ length old → length new ≡ length old
    → TextReplied Unopened blank_loan blank_results first 0 old b loan rows mid end → over ≡ overwritten loan records → TextReplied b over rows rest end mid b' loan' rows' new n
    → PrintedOver text place records old new (Ok n)
printed_over text place records old mid new first rest b b' loan over loan' rows rows' end n front back room same same' (before, few, stands, replies, prints) rewritten (after, few', stands', replies', _) =
    let both = written_then before after 0 end n old mid new same (omega (arith, stands.0, stands'.0)) stands stands' in
    let long = both.0 in (
      rw (← front, ← back) room,
      rw (← front, ← back) (omega (arith, stands.0, stands'.0)),
      (
        b,
        loan,
        rows,
        b',
        loan',
        rows',
        before,
        after,
        rw (← front) replies,
        rw (← front) (prints (inl (blank, refl))),
        rw (← back, ← rewritten) replies',
        ap (take n) both.1 ∙ take_at (before ++ after) (drop n old) n (omega arith),
      ),
      ap (drop n) both.1 ∙ drop_at (before ++ after) (drop n old) n (omega arith),
      same',
    )

-- a text that is loaded leaves a table so far
unless_so_far : (r : Result Answer Refusal) (line : ℕ) (t : Table) (rest : Loaded) → IsSoFar t → IsSoFar rest.table → IsSoFar (unless_refused r line t rest).table
unless_so_far (Ok a) line t rest h far = far
unless_so_far (Err why) line t rest h far = h

loads_so_far : (l : LentRows) (count : ℕ) (t : Table) (lines : List (List ℕ)) → IsSoFar t → IsSoFar (load_from (of_book l) count t lines).table
loads_so_far l count t [] far = far
loads_so_far l count t (line ∷ others) far =
    let done = line_outcome (of_book l) t line in
    unless_so_far done.answer (count + 1) t (load_from (of_book l) (count + 1) done.table others) far (loads_so_far l (count + 1) done.table others (lines_keep_so_far l t line far))

pub loaded_so_far : (text : List ℕ) → IsSoFar (loaded_full text).table
loaded_so_far text = loads_so_far full_rows 0 _ (lines_of text) (inl (blank, refl))

-- a byte that is read as a rule is that of one
rule_there : (o : Option Rule) (rule : Rule) → ok_or {E = NotAFrame} o (record {}) ≡ Ok rule → o ≡ Some rule
rule_there (Some r) rule e = cc
rule_there None rule e = absurd cc

-- a judgement of a sealed table so far is right of it
right_here : (t : Table) (rule : Rule) (j : Judgement) → t.state ≡ sealed → IsSoFar t → JudgedSoFar t rule j → IsRight t rule j
right_here t rule j is (inl (clock, e)) right = absurd (let s = ap (λ t. t.state) e in cc)
right_here t rule j is (inr (clock, lent, calls, held, e)) right = right clock lent calls held e

-- the table that a text leaves is judged
pub judged_text : (text : List ℕ) (byte : ℕ) (old new : List ℕ) (rule : Rule) (s : OpenBook Frozen) (b : Book) (loan : Loan) (count : ℕ) (granted : Result ℕ Fault) (j : Judgement)
    → rule_read byte ≡ Ok rule → LoadedBy blank_loan text loan b granted → granted ≡ Ok count → b ≡ Sealed s → 15 ≤ length old → JudgedSoFar (sealed_table s loan) rule j
    → new ≡ verdict_bytes j ++ drop 15 old → JudgedText text byte old new (Ok 15)
judged_text text byte old new rule s b loan count granted j read loads all is room right put =
    let known : rule_of byte ≡ Some rule = rule_there (rule_of byte) rule read in
    let result : (loaded_full text).result ≡ Ok count = sym loads.0 ∙ all in
    let table : (loaded_full text).table ≡ sealed_table s loan = sym loads.1 ∙ ap (λ b. book_table b loan) is in
    let state : (loaded_full text).table.state ≡ sealed = ap (λ t. t.state) table in
    let enough : ltb (length old) verdict_length ≡ false = grind (arith, nat_tests) in
    let judged : IsRight (loaded_full text).table rule j = right_here (loaded_full text).table rule j state (loaded_so_far text) (subst (λ t. JudgedSoFar t rule j) (sym table) right) in
    (rw (known, result, state, enough) refl, refl, subst (λ o. VerdictWritten o (loaded_full text).table old new) (sym known) (j, judged, put))

-- of two tests of which the first fails the second tells
other_known : (a b : Bool) {c : Bool} → (a || b) ≡ c → a ≡ false → b ≡ c
other_known a b h e = rw e at h

-- the text of an open table is written where there is room for it
pub text_put : (l : Lent) (t : Table) (old new : List ℕ) (r : Result ℕ Refusal) → is_short l t 0 0 ≡ false → WrittenTo l t old new r → TextPut (text_of t) old new r
text_put l t old new (Ok n) there h =
    let room = other_known (is_short l t 0 0) (ltb (length old) (length (text_of t))) h.0 there in
    (grind (arith, nat_tests), h.1, h.2)
text_put l t old new (Err why) there h =
    let room = other_known (is_short l t 0 0) (ltb (length old) (length (text_of t))) h.0 there in
    (grind (arith, nat_tests), h.1, h.2)

-- the text of the table that a text leaves is written
pub rebuilt_text : (text old new : List ℕ) (b : Book) (loan : Loan) (count : ℕ) (granted : Result ℕ Fault) (r : Result ℕ Refusal)
    → LoadedBy blank_loan text loan b granted → granted ≡ Ok count → TextPut (text_in (book_table b loan)) old new r → RebuiltText text old new r
rebuilt_text text old new b loan count granted (Ok n) loads all h =
    let result : (loaded_full text).result ≡ Ok count = sym loads.0 ∙ all in
    let room : ltb (length old) (length (text_in (book_table b loan))) ≡ false = grind (arith, nat_tests) in
    (rw (result, ← loads.1, room) refl, rw (← loads.1) h.1, rw (← loads.1) h.2)
rebuilt_text text old new b loan count granted (Err why) loads all h =
    let result : (loaded_full text).result ≡ Ok count = sym loads.0 ∙ all in
    let room : ltb (length old) (length (text_in (book_table b loan))) ≡ true = grind (arith, nat_tests) in
    (rw (result, ← loads.1, room) (ap Some (sym h.1)), h.2)
