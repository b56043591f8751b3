-- The clocks and the design of the worked examples.
use Rattle.std.specs.Prelude.{ℕ, List, [], ◌∷◌, map}
use Rattle.schedule.specs.Clock.{Clock, cleared}
use Rattle.design.specs.Table.{Table, Lent, opening, most_nodes, most_couplings}
use Rattle.design.specs.Calls.{Ask, input, gate, latch, feed, couple, seal}
use Rattle.design.specs.Effects.{after}
use Rattle.design.specs.SoFar.{Stands}

-- a clock of two phases that are open for 40 ticks each
abbrev pub two_phases : (period proximity first second : ℕ) → Clock
two_phases period proximity first second =
    cleared (record { period = period; proximity = proximity; phases = 2; starts = first ∷ second ∷ []; widths = 40 ∷ 40 ∷ [] })

-- clock C: period 100, starts 0 and 50
abbrev pub clock_c : Clock
clock_c = two_phases 100 0 0 50

-- clock D: period 100, starts 0 and 60
abbrev pub clock_d : Clock
clock_d = two_phases 100 0 0 60

-- tables with as many rows as a book takes
abbrev pub all_rows : Lent
all_rows = record { nodes = most_nodes; couplings = most_couplings }

-- The calls that enter design K, where coupling 1 has this opposing amount and latch 6 this hold: two latches in a ring with the gates 2 and 4 between them, an input, and two gates beside whose wires couple with those of 2 and 4.
abbrev pub calls_of_k : (opposing hold : ℕ) → List Ask
calls_of_k opposing hold =
    latch 1 2 4 5 3
    ∷ input 1 90 95
    ∷ gate 1 10 20 (0 ∷ [])
    ∷ gate 1 10 10 (0 ∷ [])
    ∷ gate 1 5 6 (2 ∷ [])
    ∷ gate 1 10 10 (1 ∷ [])
    ∷ latch 2 2 4 5 hold
    ∷ feed 6 4
    ∷ feed 0 6
    ∷ couple 2 3 5 8
    ∷ couple 4 5 2 opposing
    ∷ seal
    ∷ []

-- the sealed table of design K under clock C
abbrev pub design_k : (opposing hold : ℕ) → Table
design_k opposing hold = after (opening clock_c all_rows) (map (λ c. (all_rows, c)) (calls_of_k opposing hold))

-- each of these tables stands
abbrev pub DesignsStand : Type 0
DesignsStand = (opposing hold : ℕ) → Stands (design_k opposing hold)
