-- The couple frames of a table that stands make its couplings.
use Rattle.std.proofs.Common.{◌≡◌, ℕ, ◌+◌, ◌<◌, ◌≤◌, false, List, [], ◌∷◌, ◌++◌, map, length, get_or, refl, sym, ◌∙◌, arith}
use Rattle.std.proofs.lemmas.List.{take_all, get_or_append_left}
use Rattle.std.proofs.lemmas.List.Folds.{list_any_none}
use Rattle.std.proofs.lemmas.List.Elements.{All-from_get_or}
use Rattle.std.proofs.lemmas.Bool.Decides.{nat_tests}
use Rattle.schedule.specs.Clock.{Clock}
use Rattle.design.specs.declared.nodes.Node.{Node}
use Rattle.design.specs.declared.nodes.Node.TheVariants.{Free}
use Rattle.design.specs.declared.couplings.Coupling.{Coupling}
use Rattle.design.specs.Rows.{least_delay, no_coupling, is_pair, is_coupled, assisting_of}
use Rattle.design.specs.Table.{Lent, most_nodes, most_couplings}
use Rattle.design.specs.Calls.{couple}
use Rattle.design.specs.SoFar.{CouplingStands, NoPairTwice, NoneOver}
use Rattle.loading.specs.Writing.{couple_frame}
use Rattle.loading.proofs.Outcomes.{Makes, makes_one, makes_each}
use Rattle.loading.proofs.NodeRows.{drafted, IsNode}

-- a pair read the other way round
pub pair_swapped : (j k : Coupling) → is_pair j.victim j.aggressor k ≡ is_pair k.victim k.aggressor j
pair_swapped j k = grind (arith, nat_tests)

-- no pair twice in a list, so none before a coupling is of its pair
before_apart : (ds ks : List Coupling) (k : Coupling) → ((i : ℕ) → i < length ds → is_pair (get_or (ds ++ ks) i no_coupling).victim (get_or (ds ++ ks) i no_coupling).aggressor k ≡ false) → is_coupled ds k.victim k.aggressor ≡ false
before_apart ds ks k each =
    list_any_none (is_pair k.victim k.aggressor) ds
    (All-from_get_or (λ d. is_pair k.victim k.aggressor d ≡ false) ds no_coupling
    (λ i h. rw (get_or_append_left ds ks no_coupling i h) at (sym (pair_swapped (get_or (ds ++ ks) i no_coupling) k) ∙ each i h)))

-- the assisting amounts before a coupling, and its own, are no more than all of its victim
assisting_least : (ds : List Coupling) (k : Coupling) (ks : List Coupling) → assisting_of ds k.victim + k.assisting ≤ assisting_of (ds ++ k ∷ ks) k.victim
assisting_least [] k ks = grind (arith, nat_tests)
assisting_least (d ∷ ds) k ks = omega (arith, assisting_least ds k ks)

-- one couple frame makes one coupling
pub load_couple : (c : Clock) (l : Lent) (xs : List Node) (ds : List Coupling) (k : Coupling) → ((i : ℕ) → i < length xs → IsNode (get_or xs i Free)) → length xs ≤ l.nodes → length xs ≤ most_nodes → length ds < l.couplings → length ds < most_couplings → CouplingStands xs k → is_coupled ds k.victim k.aggressor ≡ false → assisting_of ds k.victim + k.assisting ≤ least_delay (get_or xs k.victim Free)
    → Makes l (drafted c l xs ds) (couple_frame k ∷ []) (drafted c l xs (ds ++ k ∷ []))
load_couple c l xs ds k nodes lent most room few stand apart over =
    let rows = take_all l.nodes xs lent in
    let couplings = take_all l.couplings ds (omega arith) in
    let aggressor = nodes k.aggressor stand.1 in
    makes_one (couple k.victim k.aggressor k.assisting k.opposing) (omega arith, grind (arith, nat_tests), tt) refl (grind (arith, nat_tests)) refl

-- all couple frames make all couplings
pub load_couples : (c : Clock) (l : Lent) (xs : List Node) (ks : List Coupling) → ((k : ℕ) → k < length xs → IsNode (get_or xs k Free)) → length xs ≤ l.nodes → length xs ≤ most_nodes → length ks ≤ l.couplings → length ks ≤ most_couplings → ((k : ℕ) → k < length ks → CouplingStands xs (get_or ks k no_coupling)) → NoPairTwice ks → NoneOver xs ks
    → Makes l (drafted c l xs []) (map couple_frame ks) (drafted c l xs ks)
load_couples c l xs ks nodes lent most room few stand once within =
    makes_each l (λ done left. drafted c l xs done) (λ n k. couple_frame k ∷ []) (λ n ys. map couple_frame ys) no_coupling (λ n k. CouplingStands xs k × ((i : ℕ) → i < n → is_pair (get_or ks i no_coupling).victim (get_or ks i no_coupling).aggressor k ≡ false)) ks (λ n. refl) (λ n y ys. refl)
    (λ n h. (stand n h, λ i lt. once i n lt h))
    (λ done left k e below h.
    let apart = before_apart done (k ∷ left) k (rw e h.1) in
    let least = rw e at (assisting_least done k left) in
    load_couple c l xs done k nodes lent most (omega arith) (omega arith) h.0 apart (omega (arith, within k.victim)))
    [] ks refl
