-- The tests of each call, in their order, and what a call is refused with.
use Rattle.std.specs.Prelude.{ℕ, ◌+◌, Bool, cond, not, ◌&&◌, ◌||◌, List, [], ◌∷◌, length, Some, None, Option, ◌==◌, nat_le, nat_lt, slice_index_or}
use Rattle.std.specs.List.{list_any}
use Rattle.refusals.specs.declared.Refusal.{Refusal}
use Rattle.refusals.specs.declared.Refusal.TheVariants.{Full, Phase, Span, Figure, Fan, Node as NoNode, Pair, Assist, Clock as NoClock, Unfed, Short, Order}
use Rattle.schedule.specs.Clock.{Clock, lawful, has_phase}
use Rattle.schedule.specs.Made.{may_replace}
use Rattle.design.specs.declared.couplings.Coupling.{Coupling}
use Rattle.design.specs.declared.nodes.Node.{Node}
use Rattle.design.specs.declared.nodes.Node.TheVariants.{Free}
use Rattle.design.specs.Rows.{greatest_time, greatest_delay, any_above, has_fan, is_node, is_latch, is_victim, is_unfed, least_delay, is_coupled, assisting_of}
use Rattle.design.specs.Table.{Table, Lent, lent_nodes, lent_couplings}
use Rattle.design.specs.Calls.{Ask, open_with, input, gate, latch, feed, couple, seal, reopen, retime, taken_in, among}

-- as many nodes are granted as the book takes
abbrev pub nodes_full : Table → Bool
nodes_full t = length t.nodes == t.node_room

-- as many couplings are granted as the book takes
abbrev pub couplings_full : Table → Bool
couplings_full t = length t.couplings == t.coupling_room

-- the clock has no such phase
abbrev pub no_phase : Table → ℕ → Bool
no_phase t phase = not (has_phase t.clock phase)

-- a span that ends before it begins
abbrev pub is_reversed : ℕ → ℕ → Bool
is_reversed from to = nat_lt to from

-- Of so many nodes there is none of this number, or its row, if it is among those given, is of a kind that is not allowed.
abbrev pub other_in : (Node → Bool) → ℕ → List Node → ℕ → Bool
other_in allowed count rows k = nat_le count k || (nat_lt k (length rows) && not (allowed (slice_index_or rows k Free)))

-- No such node, or one of a kind that is not allowed. A granted row that the lent table does not have is not looked at.
abbrev pub is_other : (Node → Bool) → Lent → Table → ℕ → Bool
is_other allowed l t k = other_in allowed (length t.nodes) (lent_nodes l t) k

-- there is none of one of these numbers, or it is of a kind that is not allowed
abbrev pub any_other : (Node → Bool) → Lent → Table → List ℕ → Bool
any_other allowed l t ks = list_any (is_other allowed l t) ks

-- not 1 to 4 sources
abbrev pub wrong_fan : List ℕ → Bool
wrong_fan sources = not (has_fan sources)

-- what is to be fed is no latch, or its source is no node
abbrev pub wrong_feed : Lent → Table → ℕ → ℕ → Bool
wrong_feed l t to source = is_other is_latch l t to || is_other is_node l t source

-- the victim is no gate or latch, or the aggressor is no node
abbrev pub wrong_pair : Lent → Table → ℕ → ℕ → Bool
wrong_pair l t victim aggressor = is_other is_victim l t victim || is_other is_node l t aggressor

-- beside these couplings: a victim that is its own aggressor, or that has the aggressor already
abbrev pub paired_in : List Coupling → ℕ → ℕ → Bool
paired_in ks victim aggressor = victim == aggressor || is_coupled ks victim aggressor

-- a victim that is its own aggressor, or that has the aggressor already
abbrev pub is_paired : Lent → Table → ℕ → ℕ → Bool
is_paired l t victim aggressor = paired_in (lent_couplings l t) victim aggressor

-- an amount exceeds the least delay of a node whose row is among those given
abbrev pub over_in : List Node → ℕ → ℕ → Bool
over_in rows k amount = nat_lt k (length rows) && nat_lt (least_delay (slice_index_or rows k Free)) amount

-- the assisting amounts of the victim would exceed its least delay
abbrev pub is_over : Lent → Table → ℕ → ℕ → Bool
is_over l t victim assisting = over_in (lent_nodes l t) victim (assisting_of (lent_couplings l t) victim + assisting)

-- a clock that no schedule may have
abbrev pub not_lawful : Clock → Bool
not_lawful clock = not (lawful clock)

-- a clock that may not follow that of the table: it is not lawful, or has another number of phases
abbrev pub not_next : Table → Clock → Bool
not_next t clock = not (may_replace t.clock clock)

-- one of the latches has no source
abbrev pub any_unfed : List Node → Bool
any_unfed xs = list_any is_unfed xs

-- a lent table has fewer rows than so many nodes or so many couplings
abbrev pub fewer : Lent → ℕ → ℕ → Bool
fewer l nodes couplings = nat_lt l.nodes nodes || nat_lt l.couplings couplings

-- a lent table has fewer rows than are granted, or no row for what the call adds: so many nodes and couplings
abbrev pub is_short : Lent → Table → ℕ → ℕ → Bool
is_short l t nodes couplings = fewer l (length t.nodes + nodes) (length t.couplings + couplings)

-- the state of the table does not take the call
abbrev pub not_taken : Table → Ask → Bool
not_taken t c = not (among t.state (taken_in c))

-- the tests of a call after that of the state, each with the refusal that it gives
abbrev pub tests : Lent → Table → Ask → List (Refusal × Bool)
tests l t (open_with clock) =
    (NoClock, not_lawful clock)
    ∷ []
tests l t (input phase earliest latest) =
    (Full, nodes_full t)
    ∷ (Phase, no_phase t phase)
    ∷ (Span, is_reversed earliest latest)
    ∷ (Figure, any_above greatest_time (earliest ∷ latest ∷ []))
    ∷ (Short, is_short l t 1 0)
    ∷ []
tests l t (gate phase least greatest sources) =
    (Full, nodes_full t)
    ∷ (Phase, no_phase t phase)
    ∷ (Span, is_reversed least greatest)
    ∷ (Figure, any_above greatest_delay (least ∷ greatest ∷ []))
    ∷ (Fan, wrong_fan sources)
    ∷ (NoNode, any_other is_node l t sources)
    ∷ (Short, is_short l t 1 0)
    ∷ []
tests l t (latch phase least greatest setup hold) =
    (Full, nodes_full t)
    ∷ (Phase, no_phase t phase)
    ∷ (Span, is_reversed least greatest)
    ∷ (Figure, any_above greatest_delay (least ∷ greatest ∷ setup ∷ hold ∷ []))
    ∷ (Short, is_short l t 1 0)
    ∷ []
tests l t (feed to source) =
    (NoNode, wrong_feed l t to source)
    ∷ (Short, is_short l t 0 0)
    ∷ []
tests l t (couple victim aggressor assisting opposing) =
    (Full, couplings_full t)
    ∷ (Figure, any_above greatest_delay (assisting ∷ opposing ∷ []))
    ∷ (NoNode, wrong_pair l t victim aggressor)
    ∷ (Pair, is_paired l t victim aggressor)
    ∷ (Assist, is_over l t victim assisting)
    ∷ (Short, is_short l t 0 1)
    ∷ []
tests l t seal =
    (Unfed, any_unfed (lent_nodes l t))
    ∷ (Short, is_short l t 0 0)
    ∷ []
tests l t reopen =
    (Short, is_short l t 0 0)
    ∷ []
tests l t (retime clock) =
    (NoClock, not_next t clock)
    ∷ (Short, is_short l t 0 0)
    ∷ []

-- the first test that applies
abbrev pub first_that : List (Refusal × Bool) → Option Refusal
first_that [] = None
first_that (x ∷ xs) = cond x.1 (Some x.0) (first_that xs)

-- what a call is refused with, if it is refused; the test of the state comes first
abbrev pub refusal : Lent → Table → Ask → Option Refusal
refusal l t c = first_that ((Order, not_taken t c) ∷ tests l t c)
