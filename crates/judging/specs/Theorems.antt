-- What holds of verdicts on tables that stand, under lawful rules.
use Rattle.std.specs.Prelude.{◌≡◌, ℕ, ◌+◌, ◌<◌, ◌≤◌, Bool, ◌≢◌, length}
use Rattle.closing.specs.Sets.{Flags, Same, count}
use Rattle.closing.specs.Systems.{InEveryClosed}
use Rattle.closing.specs.Rounds.{Outcome, Rounds, Means}
use Rattle.design.specs.Table.{Table}
use Rattle.design.specs.SoFar.{Stands}
use Rattle.timing.specs.declared.windows.Window.{Window}
use Rattle.rules.specs.Questions.{Question, Lawful}
use Rattle.judging.specs.declared.verdict.Judgement.{Judgement}
use Rattle.judging.specs.Couplings.{system_of}
use Rattle.judging.specs.Verdicts.{number_of, Judged}
use Rattle.judging.specs.Right.{Right}

-- a judgement of a table is right
abbrev pub VerdictsAreRight : Type 0
VerdictsAreRight =
    (t : Table) (sees : Question → Bool) (j : Judgement) (S : Flags) (windows : ℕ → Window) →
    Stands t → Lawful sees → Judged t sees j S windows → Right t sees j S windows

-- two judgements of a table under a rule are the same, with the same flags, and the same windows unless they are gain
abbrev pub VerdictsAreOne : Type 0
VerdictsAreOne =
    (t : Table) (sees : Question → Bool) (j j' : Judgement) (S S' : Flags) (windows windows' : ℕ → Window) →
    Stands t → Lawful sees → Judged t sees j S windows → Judged t sees j' S' windows' →
    (j ≡ j') × Same (length t.couplings) S S' × (number_of j.verdict ≢ 64 → (v : ℕ) → v < length t.nodes → windows v ≡ windows' v)

-- Rounds from any set that lies within every closed set are at most one more than the couplings that it leaves out, and what their outcome means is so.
abbrev pub RoundsAreRight : Type 0
RoundsAreRight =
    (t : Table) (sees : Question → Bool) (S : Flags) (k : ℕ) (o : Outcome) →
    Stands t → Lawful sees → InEveryClosed (system_of t sees) S → Rounds (system_of t sees) S k o →
    (k + count (length t.couplings) S ≤ length t.couplings + 1) × Means (system_of t sees) S o
