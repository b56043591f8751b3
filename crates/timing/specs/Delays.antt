-- The delays of nodes under a set of couplings.
use Rattle.std.specs.Prelude.{ℕ, suc, ◌+◌, Bool, cond, List, [], ◌∷◌, pos, ◌-ℤ◌, ◌==◌}
use Rattle.design.specs.declared.nodes.Node.{Node}
use Rattle.design.specs.declared.nodes.Node.TheVariants.{Free, Input, Gate, Latch}
use Rattle.design.specs.declared.couplings.Coupling.{Coupling}
use Rattle.design.specs.Rows.{least_delay, assisting_of}
use Rattle.kinds.specs.declared.timings.Delays.{Delays}
use Rattle.timing.specs.Connections.{row}

-- the couplings of a list, numbered from i on, whose numbers are in a set
abbrev pub chosen_from : (ℕ → Bool) → ℕ → List Coupling → List Coupling
chosen_from S i [] = []
chosen_from S i (k ∷ ks) = let rest = chosen_from S (suc i) ks in cond (S i) (k ∷ rest) rest

-- the couplings of a list that are in a set of their numbers
abbrev pub chosen : (ℕ → Bool) → List Coupling → List Coupling
chosen S ks = chosen_from S 0 ks

-- the opposing amounts of a victim, summed
abbrev pub opposing_of : List Coupling → ℕ → ℕ
opposing_of [] victim = 0
opposing_of (k ∷ ks) victim = cond (k.victim == victim) k.opposing 0 + opposing_of ks victim

-- the greatest delay of a node by itself; an input has none
abbrev pub own_greatest : Node → ℕ
own_greatest Free = 0
own_greatest (Input phase earliest latest) = 0
own_greatest (Gate phase least greatest sources) = greatest
own_greatest (Latch phase least greatest setup hold source) = greatest

-- The delays of node v under a set of couplings: the least less the assisting amounts of its couplings in the set as victim, and the greatest with the opposing amounts. An input has no delay of its own and is no victim, so both are 0.
abbrev pub delays_under : List Node → List Coupling → (ℕ → Bool) → ℕ → Delays
delays_under nodes ks S v =
    record {
      least = pos (least_delay (row nodes v)) -ℤ pos (assisting_of (chosen S ks) v);
      greatest = pos (own_greatest (row nodes v) + opposing_of (chosen S ks) v);
    }
