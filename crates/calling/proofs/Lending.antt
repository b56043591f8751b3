-- A call that is lent the front of each table: what it tests, does and answers is as if the tables were lent whole, but for how many rows it is lent.
use Rattle.std.proofs.Common.{◌≡◌, ℕ, zero, suc, ◌≤◌, true, List, [], ◌∷◌, ◌++◌, length, take, None, Ok, Err, Result, refl, ap, arith}
use Rattle.std.proofs.lemmas.List.{drop-append-le, length-set, length_push, take_all}
use Rattle.refusals.specs.declared.Refusal.{Refusal}
use Rattle.design.specs.declared.nodes.Node.{Node}
use Rattle.design.specs.declared.couplings.Coupling.{Coupling}
use Rattle.design.specs.declared.calls.Answer.{Answer}
use Rattle.design.specs.Table.{is_open, Table, Lent, Loan, lent_in, lent_nodes, lent_couplings, first}
use Rattle.design.specs.Calls.{Ask, open_with, input, gate, latch, feed, couple, seal, reopen, retime}
use Rattle.design.specs.Tests.{is_other, refusal}
use Rattle.design.specs.Effects.{put, given, step, answer_to, Beyond, Answered}
use Rattle.design.proofs.Granted.{granted, long_enough, taken_unopened}
use Rattle.design.proofs.Growing.{Grows, put_grows}
use Rattle.states.specs.Views.{loan_of}
use Rattle.states.proofs.Seen.{length-first}
use Rattle.book.specs.declared.Book.{Book}
use Rattle.book.specs.declared.Book.TheVariants.{Unopened, Draft, Sealed}
use Rattle.book.specs.Views.{book_table}

-- those of the first rows that the front has are the same with more behind it
first_lent : {X : Type 0} (d : X) (n : ℕ) (xs ys : List X) → take (length xs) (first d n xs) ≡ take (length xs) (first d n (xs ++ ys))
first_lent d n [] ys = refl
first_lent d zero (x ∷ xs) ys = refl
first_lent d (suc n) (x ∷ xs) ys = ap (λ l. x ∷ l) (first_lent d n xs ys)

-- Two tables that a call cannot tell apart: they differ at most in granted rows that are not lent to it.
pub record Alike (l : Lent) (t u : Table) : Type 0 where
  pub clock : t.clock ≡ u.clock
  pub state : t.state ≡ u.state
  pub nodes : length t.nodes ≡ length u.nodes
  pub couplings : length t.couplings ≡ length u.couplings
  pub node_room : t.node_room ≡ u.node_room
  pub coupling_room : t.coupling_room ≡ u.coupling_room
  pub lent : lent_nodes l t ≡ lent_nodes l u
  pub lent_too : lent_couplings l t ≡ lent_couplings l u

-- a call is refused alike of both
refusal_same : (l : Lent) (t u : Table) (c : Ask) → Alike l t u → refusal l t c ≡ refusal l u c
refusal_same l t u (open_with clock) h = simp h.state
refusal_same l t u (input phase earliest latest) h = simp (h.clock, h.state, h.nodes, h.couplings, h.node_room)
refusal_same l t u (gate phase least greatest sources) h = simp (is_other, h.clock, h.state, h.nodes, h.couplings, h.node_room, h.lent)
refusal_same l t u (latch phase least greatest setup hold) h = simp (h.clock, h.state, h.nodes, h.couplings, h.node_room)
refusal_same l t u (feed to source) h = simp (h.state, h.nodes, h.couplings, h.lent)
refusal_same l t u (couple victim aggressor assisting opposing) h = simp (h.state, h.nodes, h.couplings, h.coupling_room, h.lent, h.lent_too)
refusal_same l t u seal h = simp (h.state, h.nodes, h.couplings, h.lent)
refusal_same l t u reopen h = simp (h.state, h.nodes, h.couplings)
refusal_same l t u (retime clock) h = simp (h.clock, h.state, h.nodes, h.couplings)

-- a loan with more rows behind its own
abbrev pub behind : Loan → List Node → List Coupling → Loan
behind front back rest = loan_of front.schedule (front.nodes ++ back) (front.couplings ++ rest)

-- a call lent the front of the tables cannot tell whether a book has more behind it
pub alike_front : (b : Book) (front : Loan) (back : List Node) (rest : List Coupling) → Alike (lent_in front) (book_table b front) (book_table b (behind front back rest))
alike_front Unopened front back rest = grind arith
alike_front (Draft d) front back rest = grind (arith, length-first, first_lent)
alike_front (Sealed s) front back rest = grind (arith, length-first, first_lent)

-- the lent tables have every row of a table
abbrev pub Fits : Lent → Table → Type 0
Fits l t = (length t.nodes ≤ l.nodes) × (length t.couplings ≤ l.couplings)

-- two tables that a call cannot tell apart are the same, where every row is lent to it
pub alike_same : (l : Lent) (t u : Table) → Alike l t u → Fits l t → u ≡ t
alike_same l t u h fits = grind (arith, take_all)

-- a call that is granted to an open book is lent every row that is granted then
put_fits : (l : Lent) (t : Table) (c : Ask) → is_open t.state ≡ true → refusal l t c ≡ None → Fits l (put l t c)
put_fits l t (open_with clock) opened free = grind (arith, taken_unopened, granted l t (open_with clock) free)
put_fits l t (input phase earliest latest) opened free = grind (arith, length_push, long_enough, granted l t (input phase earliest latest) free)
put_fits l t (gate phase least greatest sources) opened free = grind (arith, length_push, long_enough, granted l t (gate phase least greatest sources) free)
put_fits l t (latch phase least greatest setup hold) opened free = grind (arith, length_push, long_enough, granted l t (latch phase least greatest setup hold) free)
put_fits l t (feed to source) opened free = grind (arith, length-set, long_enough, granted l t (feed to source) free)
put_fits l t (couple victim aggressor assisting opposing) opened free = grind (arith, length_push, long_enough, granted l t (couple victim aggressor assisting opposing) free)
put_fits l t seal opened free = grind (arith, long_enough, granted l t seal free)
put_fits l t reopen opened free = grind (arith, long_enough, granted l t reopen free)
put_fits l t (retime clock) opened free = grind (arith, long_enough, granted l t (retime clock) free)

-- What a call makes of a whole loan and the table that it says, and answers: the book then says what the call makes of that table, rows past those that are granted stay, and no granted row is lost.
pub record Done (l : Lent) (t : Table) (c : Ask) (u : Table) (old new : Loan) (r : Result Answer Refusal) : Type 0 where
  pub made : u ≡ step l t c
  pub answers : r ≡ answer_to (refusal l t c) (given t c)
  pub beyond : Beyond u old new
  pub keeps : Grows t u

-- A call made with the front of each table is made of the whole tables.
pub done_whole : (b b' : Book) (front new : Loan) (back : List Node) (rest : List Coupling) (c : Ask) (r : Result Answer Refusal)
    → is_open (book_table b (behind front back rest)).state ≡ true → length new.nodes ≡ length front.nodes → length new.couplings ≡ length front.couplings → Answered book_table b front c b' new r
    → Done (lent_in front) (book_table b (behind front back rest)) c (book_table b' (behind new back rest)) (behind front back rest) (behind new back rest) r
done_whole b b' front new back rest c (Ok a) opened long longToo h =
    let l = lent_in front in
    let t = book_table b front in
    let u = book_table b' new in
    let alike = alike_front b front back rest in
    let grows : Grows t u = rw h.1 (put_grows l t c (λ e. cc) h.0) in
    let fits : Fits l u = rw h.1 (put_fits l t c (cc) h.0) in
    let here = alike_same l t (book_table b (behind front back rest)) alike (omega arith, omega arith) in
    let there = alike_same (lent_in new) u (book_table b' (behind new back rest)) (alike_front b' new back rest) (omega arith, omega arith) in
    grind (arith, drop-append-le)
done_whole b b' front new back rest c (Err why) opened long longToo h =
    let same = refusal_same _ _ _ c (alike_front b front back rest) in
    grind arith
