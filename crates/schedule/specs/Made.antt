-- The clock that figures stand for, and what each call on a schedule answers.
use Rattle.std.specs.Prelude.{◌≡◌, ℕ, Bool, true, false, cond, ◌&&◌, ◌∷◌, replicate, ℤ, Ok, Err, Result, ◌==◌}
use Rattle.refusals.specs.declared.Refusal.{Refusal}
use Rattle.refusals.specs.declared.Refusal.TheVariants.{Clock as ClockRefusal, Phase as PhaseRefusal}
use Rattle.schedule.specs.declared.figures.Figures.{Figures}
use Rattle.schedule.specs.Clock.{Clock, greatest_phases, lawful, cleared, has_phase}

-- the clock that figures ask for
abbrev pub drawn : Figures → Clock
drawn f = record { period = f.period; proximity = f.proximity; phases = f.count; starts = f.starts; widths = f.widths }

-- the least clock that is lawful: one phase, open for half of a period of two ticks
abbrev pub blank : Clock
blank = record { period = 2; proximity = 0; phases = 1; starts = replicate greatest_phases 0; widths = 1 ∷ replicate 15 0 }

-- what a schedule made from figures is: their clock where that is lawful, and else refused
abbrev pub Made : Figures → Result Clock Refusal → Type 0
Made f (Ok c) = (lawful (drawn f) ≡ true) × (c ≡ cleared (drawn f))
Made f (Err e) = (lawful (drawn f) ≡ false) × (e ≡ ClockRefusal)

-- a clock may take the place of another where it is lawful and has as many phases
abbrev pub may_replace : Clock → Clock → Bool
may_replace old new = new.phases == old.phases && lawful new

-- what a retimed schedule is: the clock of the figures where it may be, and else refused, with the schedule as it was
abbrev pub Retimed : Clock → Figures → Clock → Result Unit Refusal → Type 0
Retimed before f after (Ok _) = (may_replace before (drawn f) ≡ true) × (after ≡ cleared (drawn f))
Retimed before f after (Err e) = (may_replace before (drawn f) ≡ false) × (e ≡ ClockRefusal) × (after ≡ before)

-- an answer about phase i, refused where there is no such phase
abbrev pub of_phase : Clock → ℕ → ℤ → Result ℤ Refusal
of_phase c i x = cond (has_phase c i) (Ok x) (Err PhaseRefusal)

-- an answer about the phases i and j, refused where either is not there
abbrev pub of_phases : Clock → ℕ → ℕ → ℤ → Result ℤ Refusal
of_phases c i j x = cond (has_phase c i && has_phase c j) (Ok x) (Err PhaseRefusal)
