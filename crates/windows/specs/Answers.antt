-- What the calls of this crate answer and write.
use Rattle.std.specs.Prelude.{◌≡◌, ℕ, ◌<◌, Bool, true, false, ℤ, List, length, drop, min, Some, None, Option, Ok, Err, Result}
use Rattle.refusals.specs.declared.Refusal.{Refusal}
use Rattle.refusals.specs.declared.Refusal.TheVariants.{Short}
use Rattle.schedule.specs.Clock.{Clock}
use Rattle.design.specs.Table.{Table, Lent, Loan, lent_in, opening}
use Rattle.design.specs.Calls.{Ask}
use Rattle.design.specs.Effects.{after}
use Rattle.design.specs.SoFar.{Held}
use Rattle.kinds.specs.declared.arrival.Arrival.{Arrival}
use Rattle.timing.specs.declared.windows.Window.{Window}
use Rattle.timing.specs.Windows.{HasNoEnd, IsWindow, IsLate, IsEarly}
use Rattle.timing.specs.Breaches.{Lowest, NoNode, EndlessLatch, LateBy, EarlyBy}
use Rattle.windows.specs.declared.checked.Breach.{Breach}
use Rattle.windows.specs.declared.checked.Checked.{Checked}
use Rattle.windows.specs.declared.checked.Checked.TheVariants.{Ended, NoEnd}
use Rattle.windows.specs.declared.found.Ends.{Ends}
use Rattle.windows.specs.declared.found.Ends.TheVariants.{All, NoneAt}
use Rattle.windows.specs.declared.found.LatestSweeps.{LatestSweeps}
use Rattle.windows.specs.declared.flags.Flag.{Flag}
use Rattle.windows.specs.Effective.{is_flagged}
use Rattle.windows.specs.Lending.{lacks_rows}
use Rattle.windows.specs.Found.{LateFound, EarlyFound, MadeSweeps}
use Rattle.windows.specs.Written.{window_at}

-- what holds of a table if it is a table so far: one that a list of calls makes of a newly opened one
abbrev pub ForSoFar : Table → (Table → Type 0) → Type 0
ForSoFar t holds = (clock : Clock) (lent : Lent) (calls : List (Lent × Ask)) → Held clock → t ≡ after (opening clock lent) calls → holds t

-- the rows of a lent table past so many are as they were
abbrev pub KeptBeyond : {X : Type 0} → ℕ → List X → List X → Type 0
KeptBeyond n old new = (length new ≡ length old) × (drop n new ≡ drop n old)

-- every window has an end, or the lowest latch is named whose window has none
abbrev pub EndsFound : Table → (ℕ → Bool) → Ends → Type 0
EndsFound t S All = NoNode t (HasNoEnd t S)
EndsFound t S (NoneAt latch) = Lowest t (EndlessLatch t S) latch

-- the lowest latch of which something holds is named, with by how much it does; or it holds of no node
abbrev pub BreachSaid : Table → (ℕ → Type 0) → (ℕ → ℤ → Type 0) → Option Breach → Type 0
BreachSaid t holds by None = NoNode t holds
BreachSaid t holds by (Some b) = Lowest t holds b.latch × by b.latch b.excess

-- the lowest late latch, if one is late
abbrev pub LateSaid : Table → (ℕ → Bool) → Option Breach → Type 0
LateSaid t S late = BreachSaid t (IsLate t S) (LateBy t S) late

-- the lowest early latch, if one is early
abbrev pub EarlySaid : Table → (ℕ → Bool) → Option Breach → Type 0
EarlySaid t S early = BreachSaid t (IsEarly t S) (EarlyBy t S) early

-- the windows of all nodes stand in a table, and the lowest late and the lowest early latch are named; or the lowest latch is named whose window has no end
abbrev pub WindowsFound : Table → (ℕ → Bool) → List Window → Checked → Type 0
WindowsFound t S windows (Ended late early) = ((v : ℕ) → v < length t.nodes → IsWindow t S v (window_at windows v)) × LateSaid t S late × EarlySaid t S early
WindowsFound t S windows (NoEnd latch) = Lowest t (EndlessLatch t S) latch

-- the latest arrivals stand in a column, found in so many sweeps
abbrev pub LatestArrive : Table → (ℕ → Bool) → List Arrival → LatestSweeps → Type 0
LatestArrive t S column found = LateFound t S column × EndsFound t S found.ends × MadeSweeps t S column found.sweeps

-- The call for the latest arrivals, on a book that says a table with what is lent. Refused where rows are lacking, and then the column is as it was; else the places past the nodes are, and of a table so far the latest arrivals stand in the others.
abbrev pub LatestAnswered : (Loan → Table) → Loan → List Flag → List Arrival → List Arrival → Result LatestSweeps Refusal → Type 0
LatestAnswered view loan flags old new (Ok found) =
    (lacks_rows (lent_in loan) (view loan) (length flags) (length old) ≡ false)
    × KeptBeyond (length (view loan).nodes) old new
    × ForSoFar (view loan) (λ t. LatestArrive t (is_flagged flags) new found)
LatestAnswered view loan flags old new (Err why) = (lacks_rows (lent_in loan) (view loan) (length flags) (length old) ≡ true) × (why ≡ Short) × (new ≡ old)

-- the call for the earliest arrivals, likewise
abbrev pub EarliestAnswered : (Loan → Table) → Loan → List Flag → List Arrival → List Arrival → Result Unit Refusal → Type 0
EarliestAnswered view loan flags old new (Ok _) =
    (lacks_rows (lent_in loan) (view loan) (length flags) (length old) ≡ false)
    × KeptBeyond (length (view loan).nodes) old new
    × ForSoFar (view loan) (λ t. EarlyFound t (is_flagged flags) new)
EarliestAnswered view loan flags old new (Err why) = (lacks_rows (lent_in loan) (view loan) (length flags) (length old) ≡ true) × (why ≡ Short) × (new ≡ old)

-- The call for windows. Refused where rows are lacking, and then nothing is written. Else the windows of all nodes stand in the window table, and nothing past them, and the late and the early latch are named; or a window has no end, and the whole window table is as it was.
abbrev pub WindowsAnswered : (Loan → Table) → Loan → List Flag → List Window → List Window → List Arrival → List Arrival → Result Checked Refusal → Type 0
WindowsAnswered view loan flags old new column column' (Ok (Ended late early)) =
    (lacks_rows (lent_in loan) (view loan) (length flags) (min (length old) (length column)) ≡ false)
    × KeptBeyond (length (view loan).nodes) old new
    × KeptBeyond (length (view loan).nodes) column column'
    × ForSoFar (view loan) (λ t. WindowsFound t (is_flagged flags) new (Ended late early))
WindowsAnswered view loan flags old new column column' (Ok (NoEnd latch)) =
    (lacks_rows (lent_in loan) (view loan) (length flags) (min (length old) (length column)) ≡ false)
    × (new ≡ old)
    × KeptBeyond (length (view loan).nodes) column column'
    × ForSoFar (view loan) (λ t. WindowsFound t (is_flagged flags) new (NoEnd latch))
WindowsAnswered view loan flags old new column column' (Err why) =
    (lacks_rows (lent_in loan) (view loan) (length flags) (min (length old) (length column)) ≡ true)
    × (why ≡ Short)
    × (new ≡ old)
    × (column' ≡ column)
