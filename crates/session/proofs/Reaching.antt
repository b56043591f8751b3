-- Tables so far: each line leaves one, and one that is open stands.
use Rattle.std.proofs.Common.{◌≡◌, Bool, true, false, List, [], ◌∷◌, ◌++◌, length, Some, None, Ok, Err, Option, Result, refl, sym, ap, ◌∙◌, inl, inr, subst, arith}
use Rattle.refusals.specs.declared.Refusal.{Refusal}
use Rattle.schedule.specs.Clock.{Clock, lawful, cleared}
use Rattle.schedule.proofs.Cleared.{cleared-lawful, cleared_again}
use Rattle.frames.specs.Frames.{Content}
use Rattle.reading.specs.Line.{line_frame}
use Rattle.design.specs.Table.{Table, Lent, Loan, is_open, opening, unopened_table}
use Rattle.design.specs.Calls.{Ask, open_with, input, gate, latch, feed, couple, seal, reopen, retime}
use Rattle.design.specs.Effects.{step, after}
use Rattle.states.proofs.Seen.{length-first}
use Rattle.book.specs.declared.Book.{Book}
use Rattle.book.specs.declared.Book.TheVariants.{Unopened, Draft, Sealed}
use Rattle.book.specs.Views.{book_table, counts_of}
use Rattle.states.specs.declared.counts.Counts.{Counts}
use Rattle.calling.specs.Requests.{of_book}
use Rattle.loading.specs.Asking.{asks}
use Rattle.loading.specs.Outcomes.{called, framed}
use Rattle.session.specs.Replies.{IsSoFar}
use Rattle.session.specs.Theorems.{LinesKeepSoFar}

-- the counts of an open book are those of its table
pub counts_said : (b : Book) (n : Counts) (loan : Loan) → counts_of b ≡ Some n → (n.nodes ≡ length (book_table b loan).nodes) × (n.couplings ≡ length (book_table b loan).couplings)
counts_said Unopened n loan e = absurd cc
counts_said (Draft d) n loan e = (grind (arith, length-first), grind (arith, length-first))
counts_said (Sealed s) n loan e = (grind (arith, length-first), grind (arith, length-first))

-- one call more of a list
after_push : (t : Table) (ms : List (Lent × Ask)) (l : Lent) (c : Ask) → after t (ms ++ (l, c) ∷ []) ≡ step l (after t ms) c
after_push t [] l c = refl
after_push t (m ∷ ms) l c = after_push (step m.0 t m.1) ms l c

-- opening a book, granted or refused
opened_so_far : (l : Lent) (now clock : Clock) (law : Bool) → lawful clock ≡ law → IsSoFar (step l (unopened_table now) (open_with clock))
opened_so_far l now clock true e = inr (cleared clock, l, [], (cleared-lawful clock e, cleared_again clock e), rw e refl)
opened_so_far l now clock false e = inl (now, rw e refl)

-- a call on a table that is not opened
unopened_so_far : (l : Lent) (now : Clock) (c : Ask) → IsSoFar (step l (unopened_table now) c)
unopened_so_far l now (open_with clock) = opened_so_far l now clock (lawful clock) refl
unopened_so_far l now (input phase earliest latest) = inl (now, refl)
unopened_so_far l now (gate phase least greatest sources) = inl (now, refl)
unopened_so_far l now (latch phase least greatest setup hold) = inl (now, refl)
unopened_so_far l now (feed to source) = inl (now, refl)
unopened_so_far l now (couple victim aggressor assisting opposing) = inl (now, refl)
unopened_so_far l now seal = inl (now, refl)
unopened_so_far l now reopen = inl (now, refl)
unopened_so_far l now (retime clock) = inl (now, refl)

-- a call on a table so far
step_so_far : (l : Lent) (t : Table) (c : Ask) → IsSoFar t → IsSoFar (step l t c)
step_so_far l t c (inl (now, e)) = subst (λ t. IsSoFar (step l t c)) (sym e) (unopened_so_far l now c)
step_so_far l t c (inr (clock, lent, calls, held, e)) = inr (clock, lent, calls ++ (l, c) ∷ [], held, ap (λ t. step l t c) e ∙ sym (after_push (opening clock lent) calls l c))

called_so_far : (l : Lent) (t : Table) (o : Option Ask) → IsSoFar t → IsSoFar (called l t o).table
called_so_far l t None h = h
called_so_far l t (Some c) h = step_so_far l t c h

framed_so_far : (l : Lent) (t : Table) (r : Result Content Refusal) → IsSoFar t → IsSoFar (framed l t r).table
framed_so_far l t (Ok f) h = called_so_far l t (asks (is_open t.state) f) h
framed_so_far l t (Err why) h = h

-- every line leaves a table so far
pub lines_keep_so_far : LinesKeepSoFar
lines_keep_so_far l t line h = framed_so_far (of_book l) t (line_frame line) h
