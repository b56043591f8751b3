-- The worked examples hold: a test of each, right by the definitions, passes.
use Rattle.std.proofs.Common.{◌≡◌, Bool, true, ◌&&◌, ◌==◌, List, [], ◌∷◌, int_eq, eqb-true, length, map, false, refl, sym}
use mathlib.Core.Bool.{beq}
use Rattle.std.specs.List.{list_all}
use Rattle.std.proofs.lemmas.Bool.{and_parts}
use Rattle.std.proofs.lemmas.Bool.Decides.{Decides-int_eq}
use Rattle.closing.specs.Sets.{count}
use Rattle.schedule.specs.Clock.{forward, nearest}
use Rattle.design.specs.Table.{Table}
use Rattle.design.specs.SoFar.{Stands}
use Rattle.design.proofs.Standing.{all_stand}
use Rattle.timing.specs.declared.windows.Window.{Window}
use Rattle.rules.specs.Questions.{Question}
use Rattle.judging.specs.declared.verdict.Judgement.{Judgement}
use Rattle.worked.specs.Designs.{clock_c, all_rows, calls_of_k, DesignsStand}
use Rattle.worked.specs.Examples.{Example, forward_is, nearest_is, sees_is, judged_as, Holds, AllHold, examples}
use Rattle.worked.proofs.Rounds.{flagged, rounds_from, rounds_right}

-- design K stands, whatever its coupling opposes and its latch holds for
pub all_designs_stand : DesignsStand
all_designs_stand opposing hold = all_stand clock_c all_rows (map (λ c. (all_rows, c)) (calls_of_k opposing hold)) (refl, refl)

-- the tables of a list of examples stand
abbrev TheirTablesStand : List Example → Type 0
TheirTablesStand [] = Unit {0}
TheirTablesStand (forward_is clock from to shift ∷ xs) = TheirTablesStand xs
TheirTablesStand (nearest_is clock from to shift ∷ xs) = TheirTablesStand xs
TheirTablesStand (sees_is rule q answer ∷ xs) = TheirTablesStand xs
TheirTablesStand (judged_as t rule j flags windows ∷ xs) = Stands t × TheirTablesStand xs

-- one more table that stands
infixr 30 ◌and◌
◌and◌ : {A B : Type 0} → A → B → A × B
a and b = (a, b)

-- two answers that are the same
same_answer : (a b : Bool) → beq a b ≡ true → a ≡ b
same_answer true true e = refl
same_answer true false e = sym e
same_answer false true e = e
same_answer false false e = refl

-- the test of an example
abbrev pub passes : Example → Bool
passes (forward_is clock from to shift) = int_eq (forward clock from to) shift
passes (nearest_is clock from to shift) = int_eq (nearest clock from to) shift
passes (sees_is rule q answer) = beq (rule q) answer
passes (judged_as t rule j flags windows) = j.flags == count (length t.couplings) (flagged flags) && rounds_from t rule j.verdict flags windows j.rounds []

-- a judgement that passes is that of the table
pub judged : (t : Table) (rule : Question → Bool) (j : Judgement) (flags : List Bool) (windows : List Window) → Stands t → passes (judged_as t rule j flags windows) ≡ true → Holds (judged_as t rule j flags windows)
judged t rule j flags windows stands e =
    let parts = and_parts (j.flags == count (length t.couplings) (flagged flags)) (rounds_from t rule j.verdict flags windows j.rounds []) e in
    let r = rounds_right t rule stands j.verdict flags windows j.rounds [] parts.1 in
    record { outcome = r.0; rounds = r.1; flags = r.2; count = eqb-true j.flags (count (length t.couplings) (flagged flags)) parts.0; shown = r.3 }

-- examples that pass hold, where their tables stand
all_hold : (xs : List Example) → TheirTablesStand xs → list_all passes xs ≡ true → AllHold xs
all_hold [] s e = tt
all_hold (forward_is clock from to shift ∷ xs) s e =
    let parts = and_parts (int_eq (forward clock from to) shift) (list_all passes xs) e in
    ((Decides-int_eq (forward clock from to) shift).0 parts.0, all_hold xs s parts.1)
all_hold (nearest_is clock from to shift ∷ xs) s e =
    let parts = and_parts (int_eq (nearest clock from to) shift) (list_all passes xs) e in
    ((Decides-int_eq (nearest clock from to) shift).0 parts.0, all_hold xs s parts.1)
all_hold (sees_is rule q answer ∷ xs) s e =
    let parts = and_parts (beq (rule q) answer) (list_all passes xs) e in
    (same_answer (rule q) answer parts.0, all_hold xs s parts.1)
all_hold (judged_as t rule j flags windows ∷ xs) s e =
    let parts = and_parts (passes (judged_as t rule j flags windows)) (list_all passes xs) e in
    (judged t rule j flags windows s.0 parts.0, all_hold xs s.1 parts.1)

-- every worked example holds
pub examples_hold : AllHold examples
examples_hold =
    all_hold examples
    (all_designs_stand 9 3
    and all_designs_stand 9 3
    and all_designs_stand 9 3
    and all_designs_stand 47 3
    and all_designs_stand 48 3
    and all_designs_stand 58 3
    and all_designs_stand 59 3
    and all_designs_stand 9 20
    and all_designs_stand 9 21
    and tt)
    refl
