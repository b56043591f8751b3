-- A verify that is lent the front of each table: it is refused, answers and writes as if the tables were lent whole, but for how many rows it is lent.
use Rattle.std.proofs.Common.{◌≡◌, ℕ, ◌<◌, ◌≤◌, Bool, false, List, ◌++◌, length, sym, subst, ◌∙◌, arith}
use Rattle.std.proofs.lemmas.Bool.Decides.{nat_tests}
use Rattle.std.proofs.lemmas.List.{drop-append-le, length-append, get_or_append_left}
use Rattle.closing.specs.Sets.{Flags, Same}
use Rattle.closing.specs.Rounds.{Outcome, without_end, settled}
use Rattle.closing.proofs.Counts.{count-same}
use Rattle.design.specs.Table.{Table, Loan, lent_in}
use Rattle.design.specs.SoFar.{Stands}
use Rattle.timing.specs.declared.windows.Window.{Window}
use Rattle.timing.specs.Windows.{IsWindow}
use Rattle.rules.specs.Questions.{Question, Lawful}
use Rattle.judging.specs.declared.verdict.Verdict.{Verdict}
use Rattle.judging.specs.declared.verdict.Verdict.TheVariants.{Pass, Gain, Late, Early}
use Rattle.judging.specs.declared.verdict.Judgement.{Judgement}
use Rattle.judging.specs.Verdicts.{Shown, Judged}
use Rattle.judging.specs.Theorems.{VerdictsAreRight}
use Rattle.windows.specs.declared.flags.Flag.{Flag}
use Rattle.windows.specs.Effective.{is_flagged}
use Rattle.windows.specs.Lending.{lacks_rows}
use Rattle.windows.specs.Written.{window_at}
use Rattle.windows.specs.Answers.{KeptBeyond}
use Rattle.verifying.specs.Answers.{KeptWindows, JudgedRight}
use Rattle.calling.specs.Requests.{LentRows, of_book, verify_refusal}
use Rattle.calling.proofs.Lending.{Alike}

-- what is shown of an outcome is shown by other windows that are the same at every node
shown_same : (t : Table) (ws vs : ℕ → Window) (o : Outcome) (verdict : Verdict) → ((v : ℕ) → v < length t.nodes → ws v ≡ vs v) → Shown t ws o verdict → Shown t vs o verdict
shown_same t ws vs (without_end F) verdict same h = h
shown_same t ws vs (settled F) verdict same h = (h.0, λ v lt. subst (IsWindow t F v) (same v lt) (h.1 v lt))

-- a judgement is that of a table with other flags and windows that are the same at every coupling and node
judged_same : (t : Table) (sees : Question → Bool) (j : Judgement) (S T : Flags) (ws vs : ℕ → Window)
    → Same (length t.couplings) S T → ((v : ℕ) → v < length t.nodes → ws v ≡ vs v) → Judged t sees j S ws → Judged t sees j T vs
judged_same t sees j S T ws vs flags windows h =
    let counted = count-same (length t.couplings) S T flags in
    record {
      outcome = h.outcome;
      rounds = h.rounds;
      flags = λ c lt. sym (flags c lt) ∙ h.flags c lt;
      count = h.count ∙ counted;
      shown = shown_same t ws vs h.outcome j.verdict windows h.shown;
    }

-- rows that the front of a table has stand in the whole of it
pub judged_whole : (t : Table) (sees : Question → Bool) (j : Judgement) (flags back : List Flag) (windows rest : List Window)
    → VerdictsAreRight → Stands t → Lawful sees → length t.couplings ≤ length flags → length t.nodes ≤ length windows
    → JudgedRight t sees j flags windows → JudgedRight t sees j (flags ++ back) (windows ++ rest)
judged_whole t sees j flags back windows rest right stands lawful long longToo h =
    let judged : Judged t sees j (is_flagged (flags ++ back)) (window_at (windows ++ rest)) =
    judged_same t sees j _ _ _ _ (λ c lt. grind (arith, get_or_append_left)) (λ v lt. grind (arith, get_or_append_left)) h.0 in
    (judged, right t sees j _ _ stands lawful judged)

-- rows past a count that are kept in the front of a table are kept in the whole of it
pub kept_whole : {X : Type 0} (n : ℕ) (xs ys back : List X) → n ≤ length xs → KeptBeyond n xs ys → KeptBeyond n (xs ++ back) (ys ++ back)
kept_whole n xs ys back le h = grind (arith, length-append, drop-append-le)

-- and so are those of a window table that a verdict leaves
pub windows_whole : (verdict : Verdict) (n : ℕ) (xs ys back : List Window) → n ≤ length xs → KeptWindows verdict n xs ys → KeptWindows verdict n (xs ++ back) (ys ++ back)
windows_whole Pass n xs ys back le h = kept_whole n xs ys back le h
windows_whole (Gain latch) n xs ys back le h = grind arith
windows_whole (Late latch excess) n xs ys back le h = kept_whole n xs ys back le h
windows_whole (Early latch excess) n xs ys back le h = kept_whole n xs ys back le h

-- a window table that a verdict leaves has as many rows
pub windows_long : (verdict : Verdict) (n : ℕ) (xs ys : List Window) → KeptWindows verdict n xs ys → length ys ≡ length xs
windows_long Pass n xs ys h = h.0
windows_long (Gain latch) n xs ys h = grind arith
windows_long (Late latch excess) n xs ys h = h.0
windows_long (Early latch excess) n xs ys h = h.0

-- a verify is refused alike of two tables that it cannot tell apart
pub verify_refusal_same : (l : LentRows) (t u : Table) → Alike (of_book l) t u → verify_refusal l t ≡ verify_refusal l u
verify_refusal_same l t u h = simp (h.state, h.nodes, h.couplings)

-- where no row lacks, every granted row is lent, with a flag for each coupling and a place for each node
pub all_there : (loan : Loan) (t : Table) (flags places : ℕ) → lacks_rows (lent_in loan) t flags places ≡ false
    → (length t.nodes ≤ length loan.nodes) × (length t.couplings ≤ length loan.couplings) × (length t.couplings ≤ flags) × (length t.nodes ≤ places)
all_there loan t flags places h = grind (arith, nat_tests)
