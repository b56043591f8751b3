-- The clock that a schedule holds.
use Rattle.std.specs.Prelude.{◌≡◌, true}
use Rattle.schedule.specs.Clock.{Clock, lawful, cleared_places}
use Rattle.schedule.specs.declared.Schedule.TheInside.{Inside}

-- the clock that the fields of a schedule make
abbrev pub shown : Inside → Clock
shown s = record { period = s.period; proximity = s.proximity; phases = s.count; starts = s.starts; widths = s.widths }

-- the fields of the schedule that a clock is
abbrev pub stored : Clock → Inside
stored c = record { period = c.period; proximity = c.proximity; count = c.phases; starts = c.starts; widths = c.widths }

-- what the fields of every schedule keep: the clock is lawful, and zeros stand past its last phase
pub record Kept (s : Inside) : Type 0 where
  pub law : lawful (shown s) ≡ true
  pub spare_starts : cleared_places s.count s.starts ≡ s.starts
  pub spare_widths : cleared_places s.count s.widths ≡ s.widths
