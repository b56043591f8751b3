-- What the calls answer, of the rows that are granted and of what sweeps found.
use Rattle.std.proofs.Common.{◌≡◌, ℕ, ◌<◌, Bool, List, length, drop, min, Option, Ok, refl, ap, ◌∙◌, arith}
use Rattle.design.specs.Table.{Table, Loan}
use Rattle.design.specs.SoFar.{Stands}
use Rattle.design.proofs.Standing.{all_stand}
use Rattle.kinds.specs.declared.arrival.Arrival.{Arrival}
use Rattle.kinds.specs.declared.arrival.Arrival.TheVariants.{NoPath}
use Rattle.rings.specs.Found.{LatestFound}
use Rattle.timing.specs.Connections.{network}
use Rattle.timing.specs.Delays.{delays_under}
use Rattle.timing.specs.Figures.{late_start, late_gain}
use Rattle.timing.specs.declared.windows.Window.{Window}
use Rattle.windows.specs.declared.checked.Breach.{Breach}
use Rattle.windows.specs.declared.checked.Checked.TheVariants.{Ended, NoEnd}
use Rattle.windows.specs.declared.circuit.Circuit.{Circuit}
use Rattle.windows.specs.declared.flags.Flag.{Flag}
use Rattle.windows.specs.declared.found.LatestSweeps.{LatestSweeps}
use Rattle.windows.specs.declared.found.Ends.TheVariants.{All, NoneAt}
use Rattle.windows.specs.declared.rows.Rows.{Rows}
use Rattle.windows.specs.Delays.{delays_at}
use Rattle.windows.specs.Effective.{is_flagged}
use Rattle.windows.specs.Seen.{figure_at, network_of}
use Rattle.windows.specs.Lending.{RowsOf}
use Rattle.windows.specs.Found.{EndsBy, Shows, MadeSweeps, EarlyFound}
use Rattle.windows.specs.Written.{EndsWritten, BeginsWritten}
use Rattle.windows.specs.Breaches.{late_at, late_excess_at, early_at, early_excess_at, LowestBreach}
use Rattle.windows.specs.Answers.{LatestAnswered, EarliestAnswered, WindowsAnswered}
use Rattle.windows.proofs.Reading.{arrivals_found, ends_found, windows_found}
use Rattle.windows.proofs.Breaching.{late_said, early_said}

-- a circuit of granted rows, with their delays while flagged couplings act
pub record Wired (rows : Rows) (flags : List Flag) (c : Circuit) : Type 0 where
  pub clock : c.schedule.now ≡ rows.schedule.now
  pub nodes : c.nodes.now ≡ rows.nodes.now
  pub delays : (v : ℕ) → v < 4096 → delays_at c.delays.now v ≡ delays_under rows.nodes.now rows.couplings.now (is_flagged flags) v

module _ (view : Loan → Table) (loan : Loan) (flags : List Flag) (places : ℕ) (rows : Rows) (granted : RowsOf view loan (length flags) places (Ok rows)) (c : Circuit) (wired : Wired rows flags c) where
  -- it shows the table
  shows : Shows (view loan) (is_flagged flags) c
  shows =
      let nodes : c.nodes.now ≡ (view loan).nodes = wired.nodes ∙ granted.2 in
      record {
        clock = wired.clock ∙ granted.1;
        nodes = nodes;
        delays = λ v lt.
            let few : v < 4096 = omega (arith, lt, ap length granted.2, granted.4) in
            rw (granted.2, granted.3) at (wired.delays v few);
      }

  -- and has as many nodes
  as_many : length c.nodes.now ≡ length (view loan).nodes
  as_many = ap length shows.nodes

  -- the answer of the call for the latest arrivals
  pub latest_answered : (old column final starts : List Arrival) (found : LatestSweeps) → places ≡ length old →
      ((t : Table) (S : ℕ → Bool) → Stands t → Shows t S c → LatestFound (network t.nodes) (late_start t) (late_gain t S) (figure_at NoPath starts) (figure_at NoPath column)) →
      EndsBy c.nodes.now starts found.ends →
      ((t : Table) (S : ℕ → Bool) → Stands t → Shows t S c → MadeSweeps t S column found.sweeps) →
      length column ≡ length old → drop (length c.nodes.now) column ≡ drop (length c.nodes.now) old → final ≡ column → LatestAnswered view loan flags old final (Ok found)
  latest_answered old column final starts found all latest by sweeps long beyond same = (
    rw all at granted.0,
    rw (same, ← as_many) (long, beyond),
    λ clock lent calls held e.
        let stands : Stands (view loan) = rw e (all_stand clock lent calls held) in
        let f = latest (view loan) (is_flagged flags) stands shows in
        rw same (
          arrivals_found (view loan) (is_flagged flags) (figure_at NoPath starts) (figure_at NoPath column) f,
          ends_found (view loan) (is_flagged flags) (figure_at NoPath starts) (figure_at NoPath column) f starts (λ v lt. refl) found.ends (rw shows.nodes at by),
          sweeps (view loan) (is_flagged flags) stands shows,
        ),
  )

  -- the answer of the call for the earliest arrivals
  pub earliest_answered : (old column final : List Arrival) → places ≡ length old →
      ((t : Table) (S : ℕ → Bool) → Stands t → Shows t S c → EarlyFound t S column) →
      length column ≡ length old → drop (length c.nodes.now) column ≡ drop (length c.nodes.now) old → final ≡ column → EarliestAnswered view loan flags old final (Ok tt)
  earliest_answered old column final all earliest long beyond same = (
    rw all at granted.0,
    rw (same, ← as_many) (long, beyond),
    λ clock lent calls held e.
        let stands : Stands (view loan) = rw e (all_stand clock lent calls held) in
        rw same (earliest (view loan) (is_flagged flags) stands shows),
  )

  -- the answer of the call for windows where one has no end
  pub unended_answered : (old : List Window) (room column final starts : List Arrival) (latch named : ℕ) → places ≡ min (length old) (length room) →
      ((t : Table) (S : ℕ → Bool) → Stands t → Shows t S c → LatestFound (network t.nodes) (late_start t) (late_gain t S) (figure_at NoPath starts) (figure_at NoPath column)) →
      EndsBy c.nodes.now starts (NoneAt latch) →
      length column ≡ length room → drop (length c.nodes.now) column ≡ drop (length c.nodes.now) room → final ≡ column → named ≡ latch → WindowsAnswered view loan flags old old room final (Ok (NoEnd named))
  unended_answered old room column final starts latch named all latest by long beyond same is = (
    rw all at granted.0,
    refl,
    rw (same, ← as_many) (long, beyond),
    λ clock lent calls held e.
        let stands : Stands (view loan) = rw e (all_stand clock lent calls held) in
        let f = latest (view loan) (is_flagged flags) stands shows in
        let named_by : EndsBy c.nodes.now starts (NoneAt named) = rw is by in
        ends_found (view loan) (is_flagged flags) (figure_at NoPath starts) (figure_at NoPath column) f starts (λ v lt. refl) (NoneAt named) (rw shows.nodes at named_by),
  )

  -- the answer of the call for windows where all have an end
  pub windows_answered : (old mid new : List Window) (room column column' final starts : List Arrival) (late early : Option Breach) → places ≡ min (length old) (length room) →
      ((t : Table) (S : ℕ → Bool) → Stands t → Shows t S c → LatestFound (network t.nodes) (late_start t) (late_gain t S) (figure_at NoPath starts) (figure_at NoPath column)) →
      EndsBy c.nodes.now starts All → LowestBreach (length c.nodes.now) (late_at c (figure_at NoPath column)) (late_excess_at c (figure_at NoPath column)) late →
      EndsWritten (network_of c) (figure_at NoPath starts) (figure_at NoPath column) old mid →
      ((t : Table) (S : ℕ → Bool) → Stands t → Shows t S c → EarlyFound t S column') → LowestBreach (length c.nodes.now) (early_at c (figure_at NoPath column')) (early_excess_at c (figure_at NoPath column')) early →
      BeginsWritten c (figure_at NoPath column') mid new →
      length column' ≡ length room → drop (length c.nodes.now) column' ≡ drop (length c.nodes.now) room → final ≡ column' → WindowsAnswered view loan flags old new room final (Ok (Ended late early))
  windows_answered old mid new room column column' final starts late early all latest by lates ends earliest earlies begins long beyond same = (
    rw all at granted.0,
    rw (← as_many) (begins.long ∙ ends.long, begins.beyond ∙ ends.beyond),
    rw (same, ← as_many) (long, beyond),
    λ clock lent calls held e.
        let stands : Stands (view loan) = rw e (all_stand clock lent calls held) in
        let f = latest (view loan) (is_flagged flags) stands shows in
        let g = earliest (view loan) (is_flagged flags) stands shows in (
          windows_found (view loan) (is_flagged flags) c starts column column' old mid new stands shows f by g ends begins,
          late_said (view loan) (is_flagged flags) c stands shows (figure_at NoPath column) late
              (arrivals_found (view loan) (is_flagged flags) (figure_at NoPath starts) (figure_at NoPath column) f)
              (ends_found (view loan) (is_flagged flags) (figure_at NoPath starts) (figure_at NoPath column) f starts (λ v lt. refl) All (rw shows.nodes at by))
              lates,
          early_said (view loan) (is_flagged flags) c stands shows (figure_at NoPath column') early g earlies,
        ),
  )
