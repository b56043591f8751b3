-- What the loop over rounds keeps, and what the call answers after it.
use Rattle.std.proofs.Common.{◌≡◌, ℕ, ◌+◌, ◌-◌, ◌<◌, ◌≤◌, Bool, true, false, List, length, min, Ok, Err, Result, refl, sym, subst, ap, ◌∙◌, Some, None, Option, ◌≢◌, ⊎_elim, arith}
use Rattle.std.proofs.lemmas.Bool.{true≢false}
use Rattle.closing.specs.Sets.{count}
use Rattle.closing.proofs.Counts.{count-none, count-most}
use Rattle.refusals.specs.declared.Refusal.{Refusal}
use Rattle.design.specs.Table.{Table, Loan}
use Rattle.design.specs.SoFar.{Stands}
use Rattle.design.proofs.Standing.{all_stand}
use Rattle.kinds.specs.declared.arrival.Arrival.{Arrival}
use Rattle.timing.specs.declared.windows.Window.{Window}
use Rattle.rules.specs.Questions.{Question, Lawful}
use Rattle.judging.specs.declared.verdict.Judgement.{Judgement}
use Rattle.windows.specs.declared.carried.Carried.{Carried}
use Rattle.windows.specs.declared.checked.Breach.{Breach}
use Rattle.windows.specs.declared.checked.Checked.{Checked}
use Rattle.windows.specs.declared.checked.Checked.TheVariants.{Ended, NoEnd}
use Rattle.windows.specs.declared.flags.Flag.{Flag}
use Rattle.windows.specs.declared.found.Ends.{Ends}
use Rattle.windows.specs.declared.found.Ends.TheVariants.{All, NoneAt}
use Rattle.windows.specs.declared.rows.Rows.{Rows}
use Rattle.windows.specs.Answers.{KeptBeyond}
use Rattle.windows.specs.InPlace.{NoneStale}
use Rattle.windows.specs.Carried.{AreRowsOf, SameRows, Carries, CarriedBegun, CarriedEnds, RoundFound, RoundWritten, window_in}
use Rattle.windows.specs.Effective.{is_flagged}
use Rattle.windows.specs.Lending.{RowsOf}
use Rattle.verifying.specs.Asking.{seen_in, Cleared, FlaggedSeen, Acted}
use Rattle.verifying.specs.Found.{verdict_of}
use Rattle.verifying.specs.Answers.{KeptWindows, JudgeAnswered, VerifyAnswered}
use Rattle.verifying.proofs.Carrying.{carries_same}
use Rattle.verifying.proofs.Rounds.{Begun, begun_none, begun_more}
use Rattle.verifying.proofs.Showing.{judged_endless, judged_at_rest}

-- a window table in which the windows of a check are written is one that its verdict leaves
kept_windows : (late early : Option Breach) (n : ℕ) (old new : List Window) → KeptBeyond n old new → KeptWindows (verdict_of (Ended late early)) n old new
kept_windows (Some late) early n old new kept = kept
kept_windows None (Some early) n old new kept = kept
kept_windows None None n old new kept = kept

-- What holds before each round: flags past the couplings and places past the nodes are as they were, as many flags are counted as are set, which are no fewer than the rounds that were made, and what is carried has these rows; and of a table with these rows those are rounds from the set without flags, and it is carried under the flags that are set.
pub record Going {N : ℕ} (sees : Question → Bool) (rows : Rows) (first : List Flag) (before : List Arrival) (flags : List Flag) (column : List Arrival) (made set : ℕ) (carried : Carried N) : Type 0 where
  pub flags_kept : KeptBeyond (length rows.couplings.now) first flags
  pub column_kept : KeptBeyond (length rows.nodes.now) before column
  pub counted : set ≡ count (length rows.couplings.now) (is_flagged flags)
  pub fewer : made ≤ set
  pub same : SameRows rows carried.rows
  pub begun : (t : Table) → Stands t → AreRowsOf t rows → Begun t sees flags made
  pub carries : (t : Table) → Stands t → AreRowsOf t rows → Carries t (is_flagged flags) carried

-- before the first round
pub going_none : {N : ℕ} (sees : Question → Bool) (rows : Rows) (first : List Flag) (before : List Arrival) (flags : List Flag) (carried : Carried N) → Lawful sees → Cleared (length rows.couplings.now) first flags → CarriedBegun rows N (Ok carried) → Going sees rows first before flags before 0 0 carried
going_none sees rows first before flags carried lawful cleared begin =
    record {
      flags_kept = (cleared.long, cleared.beyond);
      column_kept = (refl, refl);
      counted = sym (count-none (length rows.couplings.now) (is_flagged flags) cleared.clear);
      fewer = omega arith;
      same = begin.0;
      begun = λ t stands are.
          let clear : (c : ℕ) → c < length t.couplings → is_flagged flags c ≡ false = rw are.2 at cleared.clear in
          begun_none t sees stands lawful flags clear;
      carries = λ t stands are.
          let clear : (c : ℕ) → c < length t.couplings → is_flagged flags c ≡ false = rw are.2 at cleared.clear in
          carries_same t (λ k. false) (is_flagged flags) carried (λ k lt. sym (clear k lt)) (begin.1 t stands are);
    }

-- whether every window has an end
abbrev all_of : Ends → Bool
all_of All = true
all_of (NoneAt latch) = false

-- a window cannot both have an end and have none
pub ends_apart : {ends : Ends} {latch : ℕ} → ends ≡ All → ends ≡ NoneAt latch → ⊥
ends_apart all none = true≢false (sym (ap all_of all) ∙ ap all_of none)

-- what is carried is begun where there is room
pub begin_stands : (rows : Rows) (room : ℕ) (why : Refusal) → length rows.nodes.now ≤ room → length rows.nodes.now ≤ 4096 → CarriedBegun rows room (Err why) → ⊥
begin_stands rows room why fits few refused = ⊎_elim (λ more. omega (arith, more, fits)) (λ more. omega (arith, more, few)) refused.0

-- after a round what is carried has the rows that it had
found_rows : {N : ℕ} (carried carried' : Carried N) (column column' : List Arrival) (ends : Ends) (rows : Rows) → SameRows rows carried.rows → RoundFound carried carried' column column' (Ok ends) → SameRows rows carried'.rows
found_rows carried carried' column column' ends rows same found = (found.0.0 ∙ same.0, found.0.1 ∙ same.1, found.0.2 ∙ same.2)

module _ {N : ℕ} {sees : Question → Bool} {rows : Rows} {first : List Flag} {before : List Arrival} {flags : List Flag} {column : List Arrival} {made set : ℕ} {carried : Carried N} (going : Going sees rows first before flags column made set carried) where
  -- no more flags are set than there are couplings
  pub set_most : set ≤ length rows.couplings.now
  set_most = omega (arith, count-most (length rows.couplings.now) (is_flagged flags), going.counted)

  -- a round is not refused
  pub find_stands : (carried' : Carried N) (column' : List Arrival) (why : Refusal) → length rows.nodes.now ≤ length before → RoundFound carried carried' column column' (Err why) → ⊥
  find_stands carried' column' why fits refused = omega (arith, fits, refused.0, going.column_kept.0, ap length going.same.1)

  module _ (carried' : Carried N) (column' : List Arrival) (ends : Ends) (found : RoundFound carried carried' column column' (Ok ends)) where
    -- places past the nodes are as they were after a round
    column_found : KeptBeyond (length rows.nodes.now) before column'
    column_found =
        let as_many : length carried.rows.nodes.now ≡ length rows.nodes.now = ap length going.same.1 in
        let kept : KeptBeyond (length rows.nodes.now) column column' = rw as_many at found.1 in
        (kept.0 ∙ going.column_kept.0, kept.1 ∙ going.column_kept.1)

    module _ (all : ends ≡ All) (carried'' : Carried N) (flags' : List Flag) (fresh : ℕ) (asked : FlaggedSeen (seen_in rows.schedule.now rows.nodes.now (window_in carried') sees) rows.couplings.now flags flags' fresh) (acted : Acted (length rows.couplings.now) carried' carried'' flags flags' fresh) where
      -- flags past the couplings are as they were
      flags_asked : KeptBeyond (length rows.couplings.now) first flags'
      flags_asked = (asked.long ∙ going.flags_kept.0, asked.beyond ∙ going.flags_kept.1)

      -- what is carried has the rows that it had
      pub rows_asked : SameRows rows carried''.rows
      rows_asked =
          let same = found_rows carried carried' column column' ends rows going.same found in
          (acted.rows.0 ∙ same.0, acted.rows.1 ∙ same.1, acted.rows.2 ∙ same.2)

      module _ (t : Table) (stands : Stands t) (are : AreRowsOf t rows) where
        -- what the round found of the table
        ends_found : CarriedEnds t (is_flagged flags) carried' All
        ends_found = subst (λ (e : Ends). CarriedEnds t (is_flagged flags) carried' e) all (found.2 t (is_flagged flags) stands (going.carries t stands are))

        -- what is asked of the rows is asked of the couplings, the nodes and the clock of the table
        asked_table : FlaggedSeen (seen_in t.clock t.nodes (window_in carried') sees) t.couplings flags flags' fresh
        asked_table = rw (are.0, are.1, are.2) at asked

      -- after one round more
      pub going_more : fresh ≢ 0 → Going sees rows first before flags' column' (made + 1) (set + fresh) carried''
      going_more more =
          let some : 0 < fresh = omega (arith, more) in
          record {
            flags_kept = flags_asked;
            column_kept = column_found;
            counted = ap (λ n. n + fresh) going.counted ∙ sym asked.more;
            fewer = omega (arith, going.fewer, more);
            same = rows_asked;
            begun = λ t stands are.
                begun_more t sees stands (window_in carried') flags flags' made fresh (ends_found t stands are).2 (asked_table t stands are) some (going.begun t stands are);
            carries = λ t stands are. acted.carries t stands (omega (arith, ap length are.2)) (ends_found t stands are).0;
          }

      -- with it fewer flags are left
      pub fewer_left : fresh ≢ 0 → length rows.couplings.now - (set + fresh) < length rows.couplings.now - set
      fewer_left more = omega (arith, more, count-most (length rows.couplings.now) (is_flagged flags'), (going_more more).counted)

      -- the windows of the last round, written, are not refused
      pub finish_stands : (windows windows' : List Window) (column'' : List Arrival) (why : Refusal) → length rows.nodes.now ≤ length windows → length rows.nodes.now ≤ length before → RoundWritten carried'' windows windows' column' column'' (Err why) → ⊥
      finish_stands windows windows' column'' why windows_fit column_fits refused =
          ⊎_elim
          (λ few. omega (arith, few, windows_fit, ap length rows_asked.1))
          (λ few. omega (arith, few, column_fits, column_found.0, ap length rows_asked.1))
          refused.0

      module _ (lawful : Lawful sees) (windows windows' : List Window) (column'' : List Arrival) (j : Judgement) (none : fresh ≡ 0) (rounds : j.rounds ≡ made + 1) (counted : j.flags ≡ set) where
        -- what is answered where all windows have an end and no flag is set anew
        pub answered_at_rest : (checked : Checked) → RoundWritten carried'' windows windows' column' column'' (Ok checked) → j.verdict ≡ verdict_of checked → JudgeAnswered rows sees first flags' windows windows' before column'' (Ok j)
        answered_at_rest (NoEnd latch) written verdict = absurd written
        answered_at_rest (Ended late early) written verdict =
            let as_many : length carried''.rows.nodes.now ≡ length rows.nodes.now = ap length rows_asked.1 in
            let kept : KeptBeyond (length rows.nodes.now) windows windows' = rw as_many at written.0 in
            let column_kept : KeptBeyond (length rows.nodes.now) column' column'' = rw as_many at written.1 in
            let idle : carried'' ≡ carried' = acted.idle none in (
              flags_asked,
              rw verdict (kept_windows late early (length rows.nodes.now) windows windows' kept),
              (column_kept.0 ∙ column_found.0, column_kept.1 ∙ column_found.1),
              λ t stands are.
                  let e = ends_found t stands are in
                  let carries : Carries t (is_flagged flags) carried'' = subst (λ (c : Carried N). Carries t (is_flagged flags) c) (sym idle) e.0 in
                  let rested : NoneStale carried''.stale = subst (λ (c : Carried N). NoneStale c.stale) (sym idle) e.1 in
                  let set_flags : j.flags ≡ count (length t.couplings) (is_flagged flags') = omega (arith, counted, going.counted, asked.more, none, ap (λ ks. count (length ks) (is_flagged flags')) are.2) in
                  judged_at_rest t sees stands lawful j flags flags' windows' (window_in carried') made fresh late early (going.begun t stands are) e.2 (asked_table t stands are) none (written.2 t (is_flagged flags) stands carries rested) verdict rounds set_flags,
            )

    -- what is answered where a window has no end
    pub answered_endless : (latch : ℕ) → ends ≡ NoneAt latch → Lawful sees → (windows : List Window) (j : Judgement) → j.rounds ≡ made + 1 → j.flags ≡ set → j.verdict ≡ verdict_of (NoEnd latch) → JudgeAnswered rows sees first flags windows windows before column' (Ok j)
    answered_endless latch endless lawful windows j rounds counted verdict = (
      going.flags_kept,
      rw verdict refl,
      column_found,
      λ t stands are.
          let none_at : CarriedEnds t (is_flagged flags) carried' (NoneAt latch) = subst (λ (e : Ends). CarriedEnds t (is_flagged flags) carried' e) endless (found.2 t (is_flagged flags) stands (going.carries t stands are)) in
          let set_flags : j.flags ≡ count (length t.couplings) (is_flagged flags) = omega (arith, counted, going.counted, ap (λ ks. count (length ks) (is_flagged flags)) are.2) in
          judged_endless t sees stands lawful j flags windows made latch (going.begun t stands are) none_at verdict rounds set_flags,
    )

-- What is answered of a book's rows is answered of the book.
pub answered : (view : Loan → Table) (loan : Loan) (sees : Question → Bool) (flags flags' : List Flag) (windows windows' : List Window) (column column' : List Arrival) (places : ℕ) (rows : Rows) (result : Result Judgement Refusal) → places ≡ min (length windows) (length column) →
    RowsOf view loan (length flags) places (Ok rows) → JudgeAnswered rows sees flags flags' windows windows' column column' result → VerifyAnswered view loan sees flags flags' windows windows' column column' result
answered view loan sees flags flags' windows windows' column column' places rows (Ok j) shared granted judged =
    let nodes : length rows.nodes.now ≡ length (view loan).nodes = ap length granted.2 in
    let couplings : length rows.couplings.now ≡ length (view loan).couplings = ap length granted.3 in (
      rw shared at granted.0,
      rw couplings at judged.0,
      rw nodes at judged.1,
      rw nodes at judged.2,
      λ clock lent calls held e. judged.3 (view loan) (rw e (all_stand clock lent calls held)) (granted.1, granted.2, granted.3),
    )
answered view loan sees flags flags' windows windows' column column' places rows (Err why) shared granted judged = absurd judged
