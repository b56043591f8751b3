-- Both kinds of delay at once: each of their figures goes its own way.
use Rattle.std.specs.Prelude.{ℕ, ℤ}
use Rattle.paths.specs.Kinds.{Kind, Restarts}
use Rattle.paths.specs.Sweeps.{Course}
use Rattle.kinds.specs.declared.arrival.Arrival.{Arrival}
use Rattle.kinds.specs.declared.both.Arrivals.{Arrivals}
use Rattle.kinds.specs.declared.both.Gains.{Gains}
use Rattle.kinds.specs.declared.timings.Start.{Start}
use Rattle.kinds.specs.declared.timings.Delays.{Delays}
use Rattle.kinds.specs.Arrivals.{latest_kind, earliest_kind, latest_start, earliest_start, latest_between, earliest_between, can_climb, latest_restarts, earliest_restarts}

-- the latest and the earliest of the figures that come together
abbrev pub both_kind : Kind Arrivals Gains
both_kind =
    record {
      no_path = record { latest = latest_kind.no_path; earliest = earliest_kind.no_path };
      join = λ x y. record { latest = latest_kind.join x.latest y.latest; earliest = earliest_kind.join x.earliest y.earliest };
      step = λ x gains. record { latest = latest_kind.step x.latest gains.latest; earliest = earliest_kind.step x.earliest gains.earliest };
    }

-- what figures start with: the latest and the earliest moment at which a path may start
abbrev pub both_start : Start → Arrivals
both_start s = record { latest = latest_start s; earliest = earliest_start s }

-- what a connection adds to each
abbrev pub both_between : Delays → Delays → ℤ → Gains
both_between from to shift = record { latest = latest_between from to shift; earliest = earliest_between from to shift }

-- how many figures can climb still: the latest alone, unless it has no end
abbrev pub both_can_climb : Arrivals → ℕ
both_can_climb x = can_climb x.latest

-- both kinds between sweeps: a latch climbs as its latest does, and its earliest stays
abbrev pub both_restarts : Restarts Arrivals
both_restarts =
    record {
      restart = λ start arrival. record { latest = latest_restarts.restart start.latest arrival.latest; earliest = earliest_restarts.restart start.earliest arrival.earliest };
      climbs = λ start arrival. latest_restarts.climbs start.latest arrival.latest;
      without_end = λ start arrival. record { latest = latest_restarts.without_end start.latest arrival.latest; earliest = earliest_restarts.without_end start.earliest arrival.earliest };
    }

-- the latest of a course of both
abbrev pub latest_course : Course Arrivals Gains → Course Arrival ℤ
latest_course course = record { start = λ v. (course.start v).latest; step = λ k v. (course.step k v).latest }

-- and its earliest
abbrev pub earliest_course : Course Arrivals Gains → Course Arrival ℤ
earliest_course course = record { start = λ v. (course.start v).earliest; step = λ k v. (course.step k v).earliest }
