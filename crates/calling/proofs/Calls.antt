-- One call of a list, made with the front of each table.
use Rattle.std.proofs.Common.{◌≡◌, min, Bool, true, List, ◌++◌, length, None, Ok, Err, Result, refl, sym, ap, subst, ◌∙◌, inl, inr, arith}
use Rattle.refusals.specs.declared.Refusal.{Refusal}
use Rattle.schedule.specs.Clock.{Clock}
use Rattle.design.specs.declared.nodes.Node.{Node}
use Rattle.design.specs.declared.couplings.Coupling.{Coupling}
use Rattle.design.specs.Table.{is_open, Table, Lent, Loan, lent_in, opening}
use Rattle.design.specs.Calls.{Ask}
use Rattle.design.specs.Effects.{after, Beyond}
use Rattle.design.specs.SoFar.{Stands, Held}
use Rattle.design.proofs.Growing.{Grows}
use Rattle.design.proofs.Standing.{all_stand}
use Rattle.rules.specs.Questions.{Question, Lawful}
use Rattle.judging.specs.Theorems.{VerdictsAreRight}
use Rattle.book.specs.declared.Book.{Book}
use Rattle.book.specs.declared.Book.TheVariants.{Unopened, Draft, Sealed}
use Rattle.book.specs.Views.{state_of, book_table}
use Rattle.calling.specs.declared.request.Reply.{Reply}
use Rattle.calling.specs.declared.request.Reply.TheVariants.{Changed, Judged}
use Rattle.calling.specs.declared.request.Request.{Request}
use Rattle.calling.specs.declared.request.Request.TheVariants.{Change, Verify}
use Rattle.calling.specs.Requests.{Requested, change, verify, meant, LentRows, verify_refusal, changed, table_after}
use Rattle.calling.specs.Applied.{ResultRows, rows_in, lent_rows, ChangeApplied, VerifyApplied, Applied}
use Rattle.calling.specs.Law.{CallLaw}
use Rattle.calling.proofs.Lending.{behind, alike_front, alike_same, done_whole}
use Rattle.calling.proofs.Fronts.{judged_whole, kept_whole, windows_whole, windows_long, verify_refusal_same, all_there}

-- a call of a history under a lawful rule, if it brings one
abbrev pub Lawfully : Requested → Type 0
Lawfully (change c) = Unit {0}
Lawfully (verify sees) = Lawful sees

-- where every rule of a type is lawful, so is each call that brings one
pub all_lawful : {R : Type 0} (meaning : R → Question → Bool) → ((rule : R) → Lawful (meaning rule)) → (q : Request R) → Lawfully (meant meaning q)
all_lawful meaning lawful (Change c) = tt
all_lawful meaning lawful (Verify rule) = lawful rule

-- tables of flags and windows, and a column, with those of other ones behind them
abbrev pub rows_behind : ResultRows → ResultRows → ResultRows
rows_behind front back = rows_in (front.flags ++ back.flags) (front.windows ++ back.windows) (front.column ++ back.column)

-- What a call makes of a whole loan, the table that it says, and what is lent for verdicts: the law holds of it, the book then says the table after it, rows past those that are granted stay, and no granted row is lost.
pub record Made (t u : Table) (m : LentRows × Requested) (old new : Loan) (s s' : ResultRows) (r : Result Reply Refusal) : Type 0 where
  pub made : u ≡ table_after t m
  pub law : CallLaw t m s s' r
  pub beyond : Beyond u old new
  pub keeps : Grows t u

-- a call that makes or changes the table
change_made : (b b' : Book) (front new : Loan) (back : List Node) (rest : List Coupling) (c : Ask) (s more : ResultRows) (r : Result Reply Refusal)
    → is_open (book_table b (behind front back rest)).state ≡ true → length new.nodes ≡ length front.nodes → length new.couplings ≡ length front.couplings → ChangeApplied b front c b' new r
    → Made (book_table b (behind front back rest)) (book_table b' (behind new back rest)) (lent_rows front s, change c) (behind front back rest) (behind new back rest) (rows_behind s more) (rows_behind s more) r
change_made b b' front new back rest c s more (Ok (Changed a)) opened long longToo h =
    let d = done_whole b b' front new back rest c (Ok a) opened long longToo h in
    record { made = d.made; law = (ap changed d.answers, refl); beyond = d.beyond; keeps = d.keeps }
change_made b b' front new back rest c s more (Ok (Judged j)) opened long longToo h = absurd h
change_made b b' front new back rest c s more (Err why) opened long longToo h =
    let d = done_whole b b' front new back rest c (Err why) opened long longToo h in
    record { made = d.made; law = (ap changed d.answers, refl); beyond = d.beyond; keeps = d.keeps }

-- the state of a book is that of the table that it says
state_said : (b : Book) (loan : Loan) → (book_table b loan).state ≡ state_of b
state_said Unopened loan = refl
state_said (Draft d) loan = refl
state_said (Sealed s) loan = refl

-- a verify, on a table so far
verify_made : (b : Book) (front : Loan) (back : List Node) (rest : List Coupling) (clock : Clock) (lent : Lent) (calls : List (Lent × Ask)) (sees : Question → Bool) (s s' more : ResultRows) (r : Result Reply Refusal)
    → VerdictsAreRight → Lawful sees → Held clock → book_table b (behind front back rest) ≡ after (opening clock lent) calls
    → VerifyApplied b front sees s s' r
    → Made (book_table b (behind front back rest)) (book_table b (behind front back rest)) (lent_rows front s, verify sees) (behind front back rest) (behind front back rest) (rows_behind s more) (rows_behind s' more) r
verify_made b front back rest clock lent calls sees s s' more (Ok (Changed a)) right lawful held far h = absurd h
verify_made b front back rest clock lent calls sees s s' more (Ok (Judged j)) right lawful held far h =
    let (sealed, answered) = h in
    let (enough, flagged, windowed, columned, so) = answered in
    let t = book_table b front in
    let u = book_table b (behind front back rest) in
    let there = all_there front t (length s.flags) (min (length s.windows) (length s.column)) enough in
    let same : u ≡ t = alike_same (lent_in front) t u (alike_front b front back rest) (there.0, there.1) in
    let table : t ≡ after (opening clock lent) calls = sym same ∙ far in
    let stands : Stands t = subst Stands (sym table) (all_stand clock lent calls held) in
    let judged = judged_whole t sees j s'.flags more.flags s'.windows more.windows right stands lawful (omega (arith, there.2, flagged.0)) (omega (arith, there.3, windows_long j.verdict (length t.nodes) s.windows s'.windows windowed)) (so clock lent calls held table) in
    let free : verify_refusal (lent_rows front s) t ≡ None = grind (arith, state_said b front) in
    let law : CallLaw t (lent_rows front s, verify sees) (rows_behind s more) (rows_behind s' more) (Ok (Judged j)) =
    (free, judged, kept_whole (length t.couplings) s.flags s'.flags more.flags there.2 flagged, windows_whole j.verdict (length t.nodes) s.windows s'.windows more.windows (omega (arith, there.3)) windowed, kept_whole (length t.nodes) s.column s'.column more.column (omega (arith, there.3)) columned) in
    record { made = refl; law = subst (λ x. CallLaw x (lent_rows front s, verify sees) (rows_behind s more) (rows_behind s' more) (Ok (Judged j))) (sym same) law; beyond = (refl, refl); keeps = (omega arith, omega arith) }
verify_made b front back rest clock lent calls sees s s' more (Err why) right lawful held far h =
    let same = verify_refusal_same (lent_rows front s) (book_table b front) (book_table b (behind front back rest)) (alike_front b front back rest) in
    record { made = refl; law = (sym same ∙ h.0, ap (λ x. rows_behind x more) h.1); beyond = (refl, refl); keeps = (omega arith, omega arith) }

-- A call, on a table so far.
pub call_made : (b b' : Book) (front new : Loan) (back : List Node) (rest : List Coupling) (clock : Clock) (lent : Lent) (calls : List (Lent × Ask)) (m : Requested) (s s' more : ResultRows) (r : Result Reply Refusal)
    → VerdictsAreRight → Lawfully m → Held clock → book_table b (behind front back rest) ≡ after (opening clock lent) calls
    → length new.nodes ≡ length front.nodes → length new.couplings ≡ length front.couplings
    → Applied b front s m b' new s' r
    → Made (book_table b (behind front back rest)) (book_table b' (behind new back rest)) (lent_rows front s, m) (behind front back rest) (behind new back rest) (rows_behind s more) (rows_behind s' more) r
call_made b b' front new back rest clock lent calls (change c) s s' more r right lawful held far long longToo h =
    let stands : Stands (book_table b (behind front back rest)) = subst Stands (sym far) (all_stand clock lent calls held) in
    let opened : is_open (book_table b (behind front back rest)).state ≡ true = elim stands.opened [ inl e ↦ cc | inr e ↦ cc ] in
    rw h.1 (change_made b b' front new back rest c s more r opened long longToo h.0)
call_made b b' front new back rest clock lent calls (verify sees) s s' more r right lawful held far long longToo h =
    rw (h.1, h.2) (verify_made b front back rest clock lent calls sees s s' more r right lawful held far h.0)
