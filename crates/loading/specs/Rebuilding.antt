-- A written text, loaded again, rebuilds its table.
use Rattle.std.specs.Prelude.{◌≡◌, ◌≤◌, min, List, length, Ok}
use Rattle.schedule.specs.Clock.{Clock}
use Rattle.design.specs.Table.{Table, Lent, draft, most_nodes, most_couplings, opening}
use Rattle.design.specs.Calls.{Ask}
use Rattle.design.specs.Effects.{after}
use Rattle.design.specs.SoFar.{Held}
use Rattle.loading.specs.Loading.{loaded}
use Rattle.loading.specs.Writing.{frames_of, text_of}

-- the same schedule, rows and sources as a draft on tables of these sizes
abbrev pub as_draft : Lent → Table → Table
as_draft l t = record { clock = t.clock; state = draft; nodes = t.nodes; couplings = t.couplings; node_room = min l.nodes most_nodes; coupling_room = min l.couplings most_couplings }

-- The text of a table, loaded with tables that have rows enough, is granted whole and makes the table again, as a draft. What the schedule record held before does not matter.
abbrev pub Rebuilds : Table → Type 0
Rebuilds t =
    (l : Lent) (before : Clock)
    → length t.nodes ≤ l.nodes
    → length t.couplings ≤ l.couplings
    → loaded l before (text_of t) ≡ record { table = as_draft l t; result = Ok (length (frames_of t)) }

-- every table so far is rebuilt by its text
abbrev pub AllRebuild : Type 0
AllRebuild = (clock : Clock) (lent : Lent) (calls : List (Lent × Ask)) → Held clock → Rebuilds (after (opening clock lent) calls)
