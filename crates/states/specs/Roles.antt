-- What a call wants of a node, and the questions that the tests ask of lent rows.
use Rattle.std.specs.Prelude.{◌≡◌, ℕ, ◌*◌, ◌≤◌, Bool, true, false, List, Ok, Err, Result}
use Rattle.std.specs.List.{list_any}
use Rattle.refusals.specs.declared.Refusal.{Refusal}
use Rattle.refusals.specs.declared.Refusal.TheVariants.{Pair}
use Rattle.design.specs.declared.couplings.Coupling.{Coupling}
use Rattle.design.specs.declared.nodes.Node.{Node}
use Rattle.design.specs.Rows.{is_node, is_latch, is_victim, assisting_of}
use Rattle.design.specs.Tests.{other_in, paired_in}
use Rattle.states.specs.declared.scan.Role.{Role}
use Rattle.states.specs.declared.scan.Role.TheVariants.{Any, Latch, Victim}

-- the kinds of node that suit
abbrev pub allows : Role → Node → Bool
allows Any x = is_node x
allows Latch x = is_latch x
allows Victim x = is_victim x

-- of so many nodes there is none of one of these numbers, or its row, if it is among those given, does not suit
abbrev pub any_other_in : (Node → Bool) → ℕ → List Node → List ℕ → Bool
any_other_in allowed count rows ks = list_any (other_in allowed count rows) ks

-- A pair passed with the sum of the assisting amounts that its victim has, or refused where the victim is its own aggressor or has the aggressor already. The sum is of at most 1024 amounts of 32 bits.
abbrev pub Unpaired : List Coupling → ℕ → ℕ → Result ℕ Refusal → Type 0
Unpaired ks victim aggressor (Ok sum) = (paired_in ks victim aggressor ≡ false) × (sum ≡ assisting_of ks victim) × (sum ≤ 1024 * 4294967295)
Unpaired ks victim aggressor (Err why) = (paired_in ks victim aggressor ≡ true) × (why ≡ Pair)
