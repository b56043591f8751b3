-- Tables of as many rows as a book takes have every row that is granted.
use Rattle.std.proofs.Common.{◌≡◌, ℕ, ◌≤◌, Bool, false, List, length, min, Ok, Err, Result, IsOk, refl, arith}
use Rattle.std.proofs.lemmas.Bool.Decides.{nat_tests}
use Rattle.refusals.specs.declared.Refusal.{Refusal}
use Rattle.design.specs.Table.{State, Loan, sealed, lent_in}
use Rattle.design.specs.Tests.{is_short}
use Rattle.kinds.specs.declared.arrival.Arrival.{Arrival}
use Rattle.timing.specs.declared.windows.Window.{Window}
use Rattle.windows.specs.declared.flags.Flag.{Flag}
use Rattle.windows.specs.Lending.{lacks_rows}
use Rattle.rules.specs.Questions.{Question}
use Rattle.judging.specs.declared.verdict.Judgement.{Judgement}
use Rattle.verifying.specs.Answers.{VerifyAnswered}
use Rattle.states.specs.declared.OpenBook.{OpenBook}
use Rattle.states.specs.declared.stages.Frozen.{Frozen}
use Rattle.states.specs.declared.counts.Counts.{Counts}
use Rattle.states.specs.Views.{table_of, sealed_table}
use Rattle.states.proofs.Seen.{length-first}
use Rattle.printing.specs.Judging.{HasRows}

module _ (state : State) (n : Counts) (loan : Loan) (rows : HasRows loan) where
  -- no row lacks
  pub none_short : is_short (lent_in loan) (table_of state n loan) 0 0 ≡ false
  none_short = grind (arith, nat_tests, length-first)

  -- nor does one for a judgement
  pub none_lack : (flags places : ℕ) → 1024 ≤ flags → 4096 ≤ places → lacks_rows (lent_in loan) (table_of state n loan) flags places ≡ false
  none_lack flags places flagged placed = grind (arith, nat_tests, length-first)

-- so a verify is granted
pub verify_granted : (s : OpenBook Frozen) (loan : Loan) (sees : Question → Bool) (flags flags' : List Flag) (windows windows' : List Window) (column column' : List Arrival) (r : Result Judgement Refusal)
    → HasRows loan → 1024 ≤ length flags → 4096 ≤ length windows → 4096 ≤ length column
    → VerifyAnswered (sealed_table s) loan sees flags flags' windows windows' column column' r → IsOk r
verify_granted s loan sees flags flags' windows windows' column column' (Ok j) rows flagged wide deep h = refl
verify_granted s loan sees flags flags' windows windows' column column' (Err why) rows flagged wide deep h =
    let never = none_lack sealed s.counts loan rows (length flags) (min (length windows) (length column)) flagged (omega arith) in
    let lacks = h.0 in
    absurd cc
