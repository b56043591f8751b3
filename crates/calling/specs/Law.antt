-- The law for lists of calls: what holds at each call of a list that is made to a new book.
use Rattle.std.specs.Prelude.{◌≡◌, Bool, List, [], ◌∷◌, length, Some, None, Ok, Err, Result}
use Rattle.refusals.specs.declared.Refusal.{Refusal}
use Rattle.design.specs.Table.{Table}
use Rattle.design.specs.Tests.{refusal}
use Rattle.design.specs.Effects.{given, answer_to}
use Rattle.rules.specs.Questions.{Question}
use Rattle.windows.specs.Answers.{KeptBeyond}
use Rattle.verifying.specs.Answers.{KeptWindows, JudgedRight}
use Rattle.calling.specs.declared.request.Reply.{Reply}
use Rattle.calling.specs.declared.request.Reply.TheVariants.{Changed, Judged}
use Rattle.calling.specs.Requests.{Requested, change, verify, LentRows, of_book, verify_refusal, table_after, changed}
use Rattle.calling.specs.Applied.{ResultRows}

-- A verify on a table so far. Granted, its judgement is that of the table and is right, with the flags and the windows that stand in the tables afterwards; past the couplings no flag is written, past the nodes no window and nothing in the column, and on gain no window at all. What the column then holds in the places of nodes is not said. Refused, nothing is written.
abbrev pub VerifyLaw : LentRows → Table → (Question → Bool) → ResultRows → ResultRows → Result Reply Refusal → Type 0
VerifyLaw l t sees old new (Ok (Changed a)) = ⊥
VerifyLaw l t sees old new (Ok (Judged j)) =
    (verify_refusal l t ≡ None)
    × JudgedRight t sees j new.flags new.windows
    × KeptBeyond (length t.couplings) old.flags new.flags
    × KeptWindows j.verdict (length t.nodes) old.windows new.windows
    × KeptBeyond (length t.nodes) old.column new.column
VerifyLaw l t sees old new (Err why) = (verify_refusal l t ≡ Some why) × (new ≡ old)

-- a call on a table so far
abbrev pub CallLaw : Table → LentRows × Requested → ResultRows → ResultRows → Result Reply Refusal → Type 0
CallLaw t (l, change c) old new r = (r ≡ changed (answer_to (refusal (of_book l) t c) (given t c))) × (new ≡ old)
CallLaw t (l, verify sees) old new r = VerifyLaw l t sees old new r

-- The calls of a list, each made on the table that those before it leave, with its answer; and what stands in the flag table, the window table and the column before the first and after the last.
abbrev pub ListLaw : Table → List (LentRows × Requested) → List (Result Reply Refusal) → ResultRows → ResultRows → Type 0
ListLaw t [] [] old new = new ≡ old
ListLaw t [] (r ∷ rs) old new = ⊥
ListLaw t (m ∷ ms) [] old new = ⊥
ListLaw t (m ∷ ms) (r ∷ rs) old new = (mid : ResultRows) × CallLaw t m old mid r × ListLaw (table_after t m) ms rs mid new
