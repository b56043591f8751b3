-- No call takes back a granted row.
use Rattle.std.proofs.Common.{◌≡◌, ℕ, ◌+◌, ◌-◌, ◌≤◌, List, length, get_or, drop, Some, None, Option, sym, refl, ap, ◌∙◌, arith}
use Rattle.std.proofs.lemmas.List.{length-set, length_push, drop-drop}
use Rattle.refusals.specs.declared.Refusal.{Refusal}
use Rattle.design.specs.declared.nodes.Node.TheVariants.{Free}
use Rattle.design.specs.Rows.{fed_by}
use Rattle.design.specs.Table.{unopened, Table, Lent, Loan}
use Rattle.design.specs.Calls.{Ask, open_with, input, gate, latch, feed, couple, seal, reopen, retime}
use Rattle.design.specs.Tests.{refusal}
use Rattle.design.specs.Effects.{put, step, unless, Beyond}
use Rattle.design.proofs.Granted.{granted, taken_unopened}

-- a table has every row that another has, by their numbers
abbrev pub Grows : Table → Table → Type 0
Grows t u = (length t.nodes ≤ length u.nodes) × (length t.couplings ≤ length u.couplings)

-- a table that is not opened has no row
abbrev pub Blank : Table → Type 0
Blank t = t.state ≡ unopened → (length t.nodes ≡ 0) × (length t.couplings ≡ 0)

pub put_grows : (l : Lent) (t : Table) (c : Ask) → Blank t → refusal l t c ≡ None → Grows t (put l t c)
put_grows l t (open_with clock) blank free =
    let none = blank (taken_unopened t.state (granted l t (open_with clock) free).0) in
    (omega (arith, none.0), omega (arith, none.1))
put_grows l t (input phase earliest latest) blank free = (simp length_push (omega arith), omega arith)
put_grows l t (gate phase least greatest sources) blank free = (simp length_push (omega arith), omega arith)
put_grows l t (latch phase least greatest setup hold) blank free = (simp length_push (omega arith), omega arith)
put_grows l t (feed to source) blank free = (omega (arith, length-set t.nodes to (fed_by source (get_or t.nodes to Free))), omega arith)
put_grows l t (couple victim aggressor assisting opposing) blank free = (omega arith, simp length_push (omega arith))
put_grows l t seal blank free = (omega arith, omega arith)
put_grows l t reopen blank free = (omega arith, omega arith)
put_grows l t (retime clock) blank free = (omega arith, omega arith)

by_unless : (t new : Table) (o : Option Refusal) → (o ≡ None → Grows t new) → Grows t (unless o new t)
by_unless t new None f = f refl
by_unless t new (Some why) f = (omega arith, omega arith)

pub step_grows : (l : Lent) (t : Table) (c : Ask) → Blank t → Grows t (step l t c)
step_grows l t c blank = by_unless t (put l t c) (refusal l t c) (put_grows l t c blank)

-- rows past a count are the same past a greater one
drop_further : {X : Type 0} (m n : ℕ) (xs ys : List X) → m ≤ n → drop m xs ≡ drop m ys → drop n xs ≡ drop n ys
drop_further m n xs ys le e =
    let sum : m + (n - m) ≡ n = omega (arith, le) in
    sym (drop-drop (n - m) m xs ∙ ap (λ k. drop k xs) sum) ∙ ap (drop (n - m)) e ∙ (drop-drop (n - m) m ys ∙ ap (λ k. drop k ys) sum)

-- rows that two calls one after the other leave alone
pub beyond_both : (t u : Table) (a b c : Loan) → Grows t u → Beyond t a b → Beyond u b c → Beyond u a c
beyond_both t u a b c grows first then = (
  then.0 ∙ drop_further (length t.nodes) (length u.nodes) b.nodes a.nodes grows.0 first.0,
  then.1 ∙ drop_further (length t.couplings) (length u.couplings) b.couplings a.couplings grows.1 first.1,
)
