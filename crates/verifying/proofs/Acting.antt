-- What is carried while flags are set one after another.
use Rattle.std.proofs.Common.{◌≡◌, ℕ, ◌+◌, ◌<◌, Bool, true, false, List, length, refl, ◌∙◌, arith}
use Rattle.schedule.specs.Clock.{Clock}
use Rattle.design.specs.declared.nodes.Node.{Node}
use Rattle.design.specs.declared.couplings.Coupling.{Coupling}
use Rattle.design.specs.Table.{Table}
use Rattle.design.specs.SoFar.{Stands}
use Rattle.rules.specs.Questions.{Question}
use Rattle.windows.specs.declared.carried.Carried.{Carried}
use Rattle.windows.specs.declared.flags.Flag.{Flag}
use Rattle.windows.specs.Carried.{Carries, SameRows, WithOne, window_in}
use Rattle.windows.specs.Effective.{is_flagged}
use Rattle.verifying.specs.Asking.{seen_in, Acted}

-- before the first coupling, and where nothing is set
pub acted_none : {N : ℕ} (n : ℕ) (c : Carried N) (flags : List Flag) → Acted n c c flags flags 0
acted_none n c flags = record { windows = λ v. refl; rows = (refl, refl, refl); carries = λ t stands enough carries. carries; idle = λ none. refl }

-- where a flag is set that was clear, its coupling acts from then on
pub acted_one : {N : ℕ} (place : ℕ) (old new : Carried N) (flags flags' : List Flag) → is_flagged flags place ≡ false → is_flagged flags' place ≡ true → ((c : ℕ) → (c ≡ place → ⊥) → is_flagged flags' c ≡ is_flagged flags c) →
    ((t : Table) (S T : ℕ → Bool) → Stands t → place < length t.couplings → S place ≡ false → WithOne place S T → Carries t S old → Carries t T new) → ((v : ℕ) → window_in new v ≡ window_in old v) → SameRows old.rows new.rows → Acted (place + 1) old new flags flags' 1
acted_one place old new flags flags' clear set others acts windows rows =
    record {
      windows = windows;
      rows = rows;
      carries = λ t stands enough carries. acts t (is_flagged flags) (is_flagged flags') stands (omega (arith, enough)) clear (set, others) carries;
      idle = λ none. absurd (omega (arith, none));
    }

-- one coupling more
pub acted_more : {N : ℕ} (k fresh more : ℕ) (first old new : Carried N) (flags now flags' : List Flag) → Acted k first old flags now fresh → Acted (k + 1) old new now flags' more → Acted (k + 1) first new flags flags' (fresh + more)
acted_more k fresh more first old new flags now flags' before one =
    record {
      windows = λ v. one.windows v ∙ before.windows v;
      rows = (one.rows.0 ∙ before.rows.0, one.rows.1 ∙ before.rows.1, one.rows.2 ∙ before.rows.2);
      carries = λ t stands enough carries. one.carries t stands enough (before.carries t stands (omega (arith, enough)) carries);
      idle = λ none. one.idle (omega (arith, none)) ∙ before.idle (omega (arith, none));
    }

-- the rule is asked with the same windows after flags are set
pub seen_same : {N : ℕ} (clock : Clock) (nodes : List Node) (sees : Question → Bool) (first now : Carried N) (k : Coupling) → ((v : ℕ) → window_in now v ≡ window_in first v) → seen_in clock nodes (window_in now) sees k ≡ seen_in clock nodes (window_in first) sees k
seen_same clock nodes sees first now k same = rw (same k.victim, same k.aggressor) refl
