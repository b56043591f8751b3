-- What holds of the rounds of every system that tells by yes and no what is bounded and what is seen.
use Rattle.std.specs.Prelude.{◌≡◌, ℕ, ◌+◌, ◌≤◌}
use Rattle.closing.specs.Sets.{Flags, empty, count}
use Rattle.closing.specs.Systems.{Decided, decided, Monotone, InEveryClosed}
use Rattle.closing.specs.Rounds.{Outcome, Rounds, SameOutcome, Means}

-- Rounds end: from a set within every closed set of a monotone system there are some, at most one more than the flags that the set leaves unset, and their outcome is right.
abbrev pub RoundsClose : Type 0
RoundsClose =
    (d : Decided) → Monotone (decided d) → (S : Flags) → InEveryClosed (decided d) S →
    (k : ℕ) × (o : Outcome) × Rounds (decided d) S k o × (k + count d.size S ≤ d.size + 1) × Means (decided d) S o

-- Rounds from the same set are equally many, in every monotone system, and have the same outcome, for the flags that the system has.
abbrev pub RoundsUnique : Type 0
RoundsUnique =
    (d : Decided) → Monotone (decided d) → (S : Flags) (k k' : ℕ) (o o' : Outcome) →
    Rounds (decided d) S k o → Rounds (decided d) S k' o' → (k ≡ k') × SameOutcome d.size o o'

-- Whatever rounds were made from a set within every closed set of a monotone system: they are at most one more than the flags that the set leaves unset, and their outcome is right.
abbrev pub RoundsMean : Type 0
RoundsMean =
    (d : Decided) → Monotone (decided d) → (S : Flags) → InEveryClosed (decided d) S →
    (k : ℕ) (o : Outcome) → Rounds (decided d) S k o →
    (k + count d.size S ≤ d.size + 1) × Means (decided d) S o

-- The empty set lies within every closed set. So in a monotone system there are rounds from it, and whatever rounds were made from it are at most one more than there are flags, and their outcome is right.
abbrev pub FromNothing : Type 0
FromNothing =
    (d : Decided) →
    InEveryClosed (decided d) empty
    × (Monotone (decided d) → (k : ℕ) × (o : Outcome) × Rounds (decided d) empty k o)
    × (Monotone (decided d) → (k : ℕ) (o : Outcome) → Rounds (decided d) empty k o → (k ≤ d.size + 1) × Means (decided d) empty o)
