-- What a granted call has passed: each of its tests is false, and the lent tables have every granted row.
use Rattle.std.proofs.Common.{◌≡◌, ℕ, zero, suc, ◌+◌, ◌<◌, ◌≤◌, Bool, true, false, cond, not, eqb, List, [], ◌∷◌, ◌++◌, length, get_or, Some, None, Option, refl, arith}
use Rattle.std.specs.List.{list_any}
use Rattle.std.proofs.lemmas.List.{take_all}
use Rattle.std.proofs.lemmas.Bool.Decides.{nat_tests}
use Rattle.std.proofs.lemmas.Bool.{or_parts}
use Rattle.refusals.specs.declared.Refusal.{Refusal}
use Rattle.refusals.specs.declared.Refusal.TheVariants.{Order}
use Rattle.design.specs.declared.nodes.Node.{Node}
use Rattle.design.specs.declared.nodes.Node.TheVariants.{Free}
use Rattle.design.specs.declared.couplings.Coupling.{Coupling}
use Rattle.design.specs.Rows.{least_delay, assisting_of}
use Rattle.design.specs.Table.{State, unopened, draft, sealed, Table, Lent, lent_nodes, lent_couplings}
use Rattle.design.specs.Calls.{Ask, among}
use Rattle.design.specs.Tests.{is_other, is_over, is_short, not_taken, tests, first_that, refusal}

-- a test that does not apply, and what those behind it say
cond-none : (b : Bool) (r : Refusal) (o : Option Refusal) → cond b (Some r) o ≡ None → (b ≡ false) × (o ≡ None)
cond-none true r o e = (cc, cc)
cond-none false r o e = (refl, e)

-- each test of a list is false
abbrev pub AllFalse : List (Refusal × Bool) → Type 0
AllFalse [] = Unit {0}
AllFalse (x ∷ xs) = (x.1 ≡ false) × AllFalse xs

-- where no test of a list applies, each is false
pub all_false : (xs : List (Refusal × Bool)) → first_that xs ≡ None → AllFalse xs
all_false [] e = tt
all_false (x ∷ xs) e =
    let p = cond-none x.1 x.0 (first_that xs) e in
    (p.0, all_false xs p.1)

-- each test of a granted call is false
pub granted : (l : Lent) (t : Table) (c : Ask) → refusal l t c ≡ None → AllFalse ((Order, not_taken t c) ∷ tests l t c)
granted l t c e = all_false ((Order, not_taken t c) ∷ tests l t c) e

-- a table that is not full has room for one more row
pub one_more : (n room : ℕ) → n ≤ room → eqb n room ≡ false → n < room
one_more n room le e = grind (arith, nat_tests)

-- the lent tables have every granted row, and the rows that the call adds
pub long_enough : (l : Lent) (t : Table) (n k : ℕ) → is_short l t n k ≡ false → (length t.nodes + n ≤ l.nodes) × (length t.couplings + k ≤ l.couplings)
long_enough l t n k e = grind (arith, nat_tests)

-- so the granted nodes among the lent ones are all that are granted
pub all_nodes : (l : Lent) (t : Table) (n k : ℕ) → is_short l t n k ≡ false → lent_nodes l t ≡ t.nodes
all_nodes l t n k e = take_all l.nodes t.nodes (omega (arith, long_enough l t n k e))

-- and likewise the couplings
pub all_couplings : (l : Lent) (t : Table) (n k : ℕ) → is_short l t n k ≡ false → lent_couplings l t ≡ t.couplings
all_couplings l t n k e = take_all l.couplings t.couplings (omega (arith, long_enough l t n k e))

-- what a draft alone takes is taken by a draft
pub taken_draft : (s : State) → not (among s (draft ∷ [])) ≡ false → s ≡ draft
taken_draft unopened e = cc
taken_draft draft e = refl
taken_draft sealed e = cc

-- and likewise a book that is not opened
pub taken_unopened : (s : State) → not (among s (unopened ∷ [])) ≡ false → s ≡ unopened
taken_unopened unopened e = refl
taken_unopened draft e = cc
taken_unopened sealed e = cc

-- a node that is there
pub there : (allowed : Node → Bool) (l : Lent) (t : Table) (k : ℕ) → is_other allowed l t k ≡ false → k < length t.nodes
there allowed l t k e = grind (arith, nat_tests)

-- a node of an allowed kind, where the lent table has every granted row
pub of_kind : (allowed : Node → Bool) (l : Lent) (t : Table) (k : ℕ) → lent_nodes l t ≡ t.nodes → is_other allowed l t k ≡ false → allowed (get_or t.nodes k Free) ≡ true
of_kind allowed l t k same e = grind (arith, nat_tests)

-- the assisting amounts of a victim stay within its least delay, where the lent tables have every granted row
pub not_over : (l : Lent) (t : Table) (v a : ℕ) → lent_nodes l t ≡ t.nodes → lent_couplings l t ≡ t.couplings → v < length t.nodes → is_over l t v a ≡ false → assisting_of t.couplings v + a ≤ least_delay (get_or t.nodes v Free)
not_over l t v a same too lt e = grind (arith, nat_tests)

-- a test that applies to none of a list applies to no place of it
pub none_at : {X : Type 0} (test : X → Bool) (xs : List X) (d : X) → list_any test xs ≡ false → (i : ℕ) → i < length xs → test (get_or xs i d) ≡ false
none_at test [] d e i lt = absurd (omega (arith, lt))
none_at test (x ∷ xs) d e zero lt = (or_parts (test x) (list_any test xs) e).0
none_at test (x ∷ xs) d e (suc i) lt = none_at test xs d (or_parts (test x) (list_any test xs) e).1 i (omega (arith, lt))

-- the assisting amounts with one more coupling
pub assisting_push : (ks : List Coupling) (k : Coupling) (v : ℕ) → assisting_of (ks ++ k ∷ []) v ≡ assisting_of ks v + cond (eqb k.victim v) k.assisting 0
assisting_push [] k v = omega arith
assisting_push (j ∷ ks) k v = omega (arith, assisting_push ks k v)
