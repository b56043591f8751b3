-- A clock of one to sixteen phases: when it is lawful, and how far its phases lie apart.
use Rattle.std.specs.Prelude.{ℕ, ◌-◌, Bool, true, cond, ◌&&◌, List, [], ◌∷◌, ◌++◌, length, take, replicate, ℤ, pos, ◌+ℤ◌, ◌-ℤ◌, ◌*ℤ◌, neg_ℤ, int_lt, nat_le, nat_lt, slice_index}
use Rattle.std.specs.List.{list_all}

-- The starts and the open widths stand in the order of the phases; a place past the last phase means nothing.
pub record Clock : Type 0 where
  pub period : ℕ
  pub proximity : ℕ
  pub phases : ℕ
  pub starts : List ℕ
  pub widths : List ℕ

-- the longest period that a lawful clock may have
abbrev pub greatest_period : ℕ
greatest_period = 16777215

-- the most phases that a lawful clock may have
abbrev pub greatest_phases : ℕ
greatest_phases = 16

-- x is no less than low and no more than high
abbrev pub between : ℕ → ℕ → ℕ → Bool
between low x high = nat_le low x && nat_le x high

-- no number of a list is less than the one before it, nor the first less than `low`
abbrev pub never_falls_from : ℕ → List ℕ → Bool
never_falls_from low [] = true
never_falls_from low (x ∷ xs) = nat_le low x && never_falls_from x xs

-- no number of a list is less than the one before it
abbrev pub never_falls : List ℕ → Bool
never_falls xs = never_falls_from 0 xs

-- the entries of the phases that a clock has
abbrev pub in_use : Clock → List ℕ → List ℕ
in_use c xs = take c.phases xs

-- a start within the period
abbrev pub start_fits : Clock → ℕ → Bool
start_fits c e = nat_lt e c.period

-- a phase that is open for some time, and for a whole period at most
abbrev pub width_fits : Clock → ℕ → Bool
width_fits c w = between 1 w c.period

-- A lawful clock: the figures keep their limits, each phase has a start and a width, and the starts never fall from one phase to the next.
abbrev pub lawful : Clock → Bool
lawful c =
    between 2 c.period greatest_period
    && nat_lt c.proximity c.period
    && between 1 c.phases greatest_phases
    && nat_le c.phases (length c.starts)
    && nat_le c.phases (length c.widths)
    && list_all (start_fits c) (in_use c c.starts)
    && never_falls (in_use c c.starts)
    && list_all (width_fits c) (in_use c c.widths)

-- phases count from 1
abbrev pub has_phase : Clock → ℕ → Bool
has_phase c i = between 1 i c.phases

-- the start of phase i; a phase that the clock does not have starts at 0
abbrev pub start : Clock → ℕ → ℤ
start c i = cond (has_phase c i) (pos (slice_index c.starts (i - 1))) (pos 0)

-- how long phase i stays open
abbrev pub width : Clock → ℕ → ℤ
width c i = pos (slice_index c.widths (i - 1))

-- The forward shift: from the start of phase i to that of phase j, in the same period where j is a later phase, and else in the next period.
abbrev pub forward : Clock → ℕ → ℕ → ℤ
forward c i j = cond (nat_lt i j) (start c j -ℤ start c i) (pos c.period +ℤ start c j -ℤ start c i)

-- a gap between starts, moved by a period where it is more than half a period either way
abbrev pub nearest_to : ℤ → ℤ → ℤ
nearest_to period gap = cond (int_lt (pos 2 *ℤ gap) (neg_ℤ period)) (gap +ℤ period) (cond (int_lt period (pos 2 *ℤ gap)) (gap -ℤ period) gap)

-- The nearest shift: from the start of phase i to the start of phase j that is least far away, whether before it or after.
abbrev pub nearest : Clock → ℕ → ℕ → ℤ
nearest c i j = nearest_to (pos c.period) (start c j -ℤ start c i)

-- the opening edge of phase i, counted as all times at a phase from its start: its latches close one period after the start, and open a width before that
abbrev pub opening : Clock → ℕ → ℤ
opening c i = pos c.period -ℤ width c i

-- a list of places, with zeros in those past the last phase
abbrev pub cleared_places : ℕ → List ℕ → List ℕ
cleared_places n xs = take n xs ++ replicate (greatest_phases - n) 0

-- the same clock, with zeros in the places past its last phase
abbrev pub cleared : Clock → Clock
cleared c = record { period = c.period; proximity = c.proximity; phases = c.phases; starts = cleared_places c.phases c.starts; widths = cleared_places c.phases c.widths }
