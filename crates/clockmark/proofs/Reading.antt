-- Of a text that is too long one byte more than a text may have is enough to know it.
use Rattle.std.proofs.Common.{◌≡◌, ℕ, ◌≤◌, Bool, true, false, List, length, take, leb, Some, None, Ok, Err, Option, Result, IfSome, OnOk, refl, sym, ap, subst, arith}
use Rattle.std.proofs.lemmas.Bool.Decides.{nat_tests}
use Rattle.std.proofs.lemmas.List.{take_all, length-take-le}
use Rattle.std.specs.Option.{option_map}
use Rattle.schedule.specs.Clock.{Clock}
use Rattle.calling.specs.Requests.{LentRows}
use Rattle.session.specs.Printing.{OutputIf, OutputOf}
use Rattle.clockmark.specs.Marked.{OutputPrinted}

too_long : (n : ℕ) → leb n 65536 ≡ false → 65537 ≤ n
too_long n e = grind (arith, nat_tests)

by_length : (short : Bool) (l : LentRows) (clock : Clock) (text printed : List ℕ) → leb (length text) 65536 ≡ short → OutputOf l clock (take 65537 text) printed → OutputOf l clock text printed
by_length true l clock text printed e h = subst (λ xs. OutputOf l clock xs printed) (take_all 65537 text (grind (arith, nat_tests))) h
by_length false l clock text printed e h =
    let cut : leb (length (take 65537 text)) 65536 ≡ false = ap (λ n. leb n 65536) (length-take-le 65537 text (too_long (length text) e)) in
    subst (λ b. OutputIf b l clock text printed) (sym e) (subst (λ b. OutputIf b l clock (take 65537 text) printed) cut h)

-- a text has the output of what is read of it
pub read_enough : {E : Type 0} (left : Option (List ℕ)) (read : List ℕ) (r : Result (Unit {0}) E) (old new : Option (List ℕ))
    → IfSome (option_map (take 65537) left) (λ text. read ≡ text)
    → OnOk r (OutputPrinted read old new)
    → OnOk r (IfSome left (λ text. OutputPrinted text old new))
read_enough None read (Ok _) old new is h = tt
read_enough None read (Err e) old new is h = h
read_enough (Some text) read (Ok _) old new is (printed, output, grown) = (printed, by_length (leb (length text) 65536) _ _ text printed refl (rw is at output), grown)
read_enough (Some text) read (Err e) old new is h = h
