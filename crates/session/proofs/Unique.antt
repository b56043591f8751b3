-- A text has one output: verdicts are one, so each line prints one thing, and so do lines one after another.
use Rattle.std.proofs.Common.{◌≡◌, ℕ, zero, suc, ◌<◌, ◌≤◌, Bool, true, false, List, [], ◌∷◌, ◌++◌, length, get_or, take, leb, Some, None, Option, ◌≢◌, refl, sym, ap, ◌∙◌, inl, inr, subst, arith}
use Rattle.std.specs.List.{flat_map}
use Rattle.refusals.specs.declared.Refusal.{Refusal}
use Rattle.frames.specs.declared.rules.Rule.{Rule}
use Rattle.reading.specs.Line.{line_frame}
use Rattle.schedule.specs.Clock.{Clock}
use Rattle.text.specs.Lines.{lines_of}
use Rattle.text.specs.Spelling.{line_for}
use Rattle.design.specs.Table.{Table, unopened_table}
use Rattle.design.specs.SoFar.{Stands}
use Rattle.design.proofs.Standing.{all_stand}
use Rattle.timing.specs.declared.windows.Window.{Window}
use Rattle.windows.specs.declared.flags.Flag.{Flag}
use Rattle.windows.specs.declared.flags.Flag.TheVariants.{Clear, Set}
use Rattle.windows.specs.Effective.{is_set, is_flagged}
use Rattle.windows.specs.Written.{window_at}
use Rattle.rules.specs.Questions.{Question, Lawful}
use Rattle.rules.specs.Named.{named}
use Rattle.rules.specs.Laws.{named_lawful}
use Rattle.judging.specs.declared.verdict.Verdict.{Verdict}
use Rattle.judging.specs.declared.verdict.Verdict.TheVariants.{Pass, Gain, Late, Early}
use Rattle.judging.specs.declared.verdict.Judgement.{Judgement}
use Rattle.judging.specs.Verdicts.{number_of, Judged}
use Rattle.judging.proofs.Uniqueness.{verdicts_are_one}
use Rattle.reporting.specs.Report.{verdict_bytes, window_line, flag_line, windows_with, report_of}
use Rattle.calling.specs.Requests.{LentRows, of_book, verify_refusal}
use Rattle.loading.specs.Outcomes.{line_outcome}
use Rattle.session.specs.Printing.{report_on, rule_asked, PrintsVerdict, PrintsAs, PrintsAll, OutputIf}
use Rattle.session.specs.Replies.{IsSoFar}
use Rattle.session.specs.Theorems.{OneOutput}
use Rattle.session.proofs.Reaching.{lines_keep_so_far}

-- two lists that agree in their first n places
take_same : {X : Type 0} (d : X) (n : ℕ) (xs ys : List X) → n ≤ length xs → n ≤ length ys → ((i : ℕ) → i < n → get_or xs i d ≡ get_or ys i d) → take n xs ≡ take n ys
take_same d zero xs ys long longToo each = refl
take_same d (suc n) [] ys long longToo each = absurd (omega arith)
take_same d (suc n) (x ∷ xs) [] long longToo each = absurd (omega arith)
take_same d (suc n) (x ∷ xs) (y ∷ ys) long longToo each =
    let head : x ≡ y = each 0 (omega arith) in
    let tail = take_same d n xs ys (omega arith) (omega arith) (λ i h. each (suc i) (omega arith)) in
    cc

-- a flag is known by whether it is set
set_same : (f g : Flag) → is_set f ≡ is_set g → f ≡ g
set_same Clear Clear e = refl
set_same Clear Set e = absurd cc
set_same Set Clear e = absurd cc
set_same Set Set e = refl

-- windows that are the same unless the verdict is gain are shown alike
shown_same : (verdict : Verdict) (xs ys : List Window) → (number_of verdict ≢ 64 → xs ≡ ys) → windows_with verdict xs ≡ windows_with verdict ys
shown_same Pass xs ys e = e (λ z. absurd (omega arith))
shown_same (Gain latch) xs ys e = refl
shown_same (Late latch excess) xs ys e = e (λ z. absurd (omega arith))
shown_same (Early latch excess) xs ys e = e (λ z. absurd (omega arith))

-- two judgements of a table that stands have one report
reports_one : (t : Table) (sees : Question → Bool) (j j' : Judgement) (flags flags' : List Flag) (windows windows' : List Window) → Stands t → Lawful sees
    → length t.couplings ≤ length flags → length t.couplings ≤ length flags' → length t.nodes ≤ length windows → length t.nodes ≤ length windows'
    → Judged t sees j (is_flagged flags) (window_at windows) → Judged t sees j' (is_flagged flags') (window_at windows')
    → report_on t j flags windows ≡ report_on t j' flags' windows'
reports_one t sees j j' flags flags' windows windows' stands lawful long long' wide wide' judged judged' =
    let one = verdicts_are_one t sees j j' (is_flagged flags) (is_flagged flags') (window_at windows) (window_at windows') stands lawful judged judged' in
    let same_flags = take_same Clear (length t.couplings) flags flags' long long' (λ c h. set_same _ _ (one.1 c h)) in
    let same_windows = shown_same j.verdict (take (length t.nodes) windows) (take (length t.nodes) windows') (λ some. take_same _ (length t.nodes) windows windows' wide wide' (one.2 some)) in
    ap (λ ws. line_for (verdict_bytes j) ++ (flat_map window_line ws ++ flat_map flag_line (take (length t.couplings) flags))) same_windows
    ∙ (ap (report_of j (take (length t.nodes) windows')) same_flags
    ∙ ap (λ k. report_of k (take (length t.nodes) windows') (take (length t.couplings) flags')) one.0)

-- a table so far that is sealed stands
sealed_stands : (l : LentRows) (t : Table) → IsSoFar t → verify_refusal l t ≡ None → Stands t
sealed_stands l t (inl (clock, e)) free = absurd cc
sealed_stands l t (inr (clock, lent, calls, held, e)) free = subst Stands (sym e) (all_stand clock lent calls held)

verdict_one : (l : LentRows) (t : Table) (rule : Rule) (refused : Option Refusal) (first second : List ℕ) → verify_refusal l t ≡ refused → IsSoFar t → PrintsVerdict refused t (named rule) first → PrintsVerdict refused t (named rule) second → first ≡ second
verdict_one l t rule (Some why) first second is far h h' = h ∙ sym h'
verdict_one l t rule None first second is far (j, flags, windows, long, wide, right, e) (j', flags', windows', long', wide', right', e') =
    e ∙ (reports_one t (named rule) j j' flags flags' windows windows' (sealed_stands l t far is) (named_lawful rule) long long' wide wide' right.0 right'.0 ∙ sym e')

line_one : (l : LentRows) (t : Table) (line : List ℕ) (asked : Option Rule) (first second : List ℕ) → IsSoFar t → PrintsAs asked l t line first → PrintsAs asked l t line second → first ≡ second
line_one l t line None first second far h h' = h ∙ sym h'
line_one l t line (Some rule) first second far h h' = verdict_one l t rule (verify_refusal l t) first second refl far h h'

lines_one : (l : LentRows) (t : Table) (lines : List (List ℕ)) (first second : List ℕ) → IsSoFar t → PrintsAll l t lines first → PrintsAll l t lines second → first ≡ second
lines_one l t [] first second far h h' = h ∙ sym h'
lines_one l t (line ∷ others) first second far (a, rest, e, h, more) (a', rest', e', h', more') =
    let head = line_one l t line (rule_asked (line_frame line)) a a' far h h' in
    let tail = lines_one l (line_outcome (of_book l) t line).table others rest rest' (lines_keep_so_far l t line far) more more' in
    e ∙ (ap (λ x. x ++ rest) head ∙ (ap (λ x. a' ++ x) tail ∙ sym e'))

output_one : (l : LentRows) (clock : Clock) (text : List ℕ) (fits : Bool) (first second : List ℕ) → OutputIf fits l clock text first → OutputIf fits l clock text second → first ≡ second
output_one l clock text true first second h h' = lines_one l (unopened_table clock) (lines_of text) first second (inl (clock, refl)) h h'
output_one l clock text false first second h h' = h ∙ sym h'

-- a text has one output at most
pub one_output : OneOutput
one_output l clock text first second h h' = output_one l clock text (leb (length text) 65536) first second h h'
