-- What a round makes of a flag table and of what is carried from round to round, from windows that were found.
use Rattle.std.specs.Prelude.{◌≡◌, ℕ, ◌+◌, ◌<◌, ◌≤◌, Bool, false, cond, ◌||◌, List, length, drop, slice_index_or}
use Rattle.closing.specs.Sets.{count}
use Rattle.schedule.specs.Clock.{Clock}
use Rattle.design.specs.declared.nodes.Node.{Node}
use Rattle.design.specs.declared.couplings.Coupling.{Coupling}
use Rattle.design.specs.Rows.{no_coupling}
use Rattle.design.specs.Table.{Table}
use Rattle.design.specs.SoFar.{Stands}
use Rattle.timing.specs.declared.windows.Window.{Window}
use Rattle.rules.specs.declared.wire.Wire.{Wire}
use Rattle.rules.specs.Questions.{Question, question}
use Rattle.judging.specs.Couplings.{wire_of}
use Rattle.windows.specs.declared.carried.Carried.{Carried}
use Rattle.windows.specs.declared.flags.Flag.{Flag}
use Rattle.windows.specs.Carried.{Carries, SameRows, window_in}
use Rattle.windows.specs.Effective.{is_flagged}

-- the wire of a node, with the window that was found of it
abbrev pub wire_in : List Node → (ℕ → Window) → ℕ → Wire
wire_in nodes windows v = wire_of nodes v (windows v)

-- whether a rule sees a coupling, with the windows that were found
abbrev pub seen_in : Clock → List Node → (ℕ → Window) → (Question → Bool) → Coupling → Bool
seen_in clock nodes windows sees k = sees (question clock (wire_in nodes windows k.victim) (wire_in nodes windows k.aggressor))

-- the first n flags of a flag table cleared, and the others as they were
pub record Cleared (n : ℕ) (old new : List Flag) : Type 0 where
  pub long : length new ≡ length old
  pub beyond : drop n new ≡ drop n old
  pub clear : (c : ℕ) → c < n → is_flagged new c ≡ false

-- What becomes of a flag table where one place is looked at: its flag is set if it was or if something is seen there, and every other flag is as it was. It is counted whether a flag is set anew.
pub record FlaggedOne (seen : Bool) (k : ℕ) (old new : List Flag) (fresh : ℕ) : Type 0 where
  pub long : length new ≡ length old
  pub beyond : (n : ℕ) → k < n → drop n new ≡ drop n old
  pub here : is_flagged new k ≡ (is_flagged old k || seen)
  pub others : (c : ℕ) → (c ≡ k → ⊥) → is_flagged new c ≡ is_flagged old c
  pub more : fresh ≡ cond (is_flagged old k) 0 (cond seen 1 0)

-- Of so many couplings each that is seen has its flag set, beside those that were set; so many flags are set anew, and flags past the couplings are as they were.
pub record FlaggedSeen (seen : Coupling → Bool) (ks : List Coupling) (old new : List Flag) (fresh : ℕ) : Type 0 where
  pub long : length new ≡ length old
  pub beyond : drop (length ks) new ≡ drop (length ks) old
  pub flags : (c : ℕ) → c < length ks → is_flagged new c ≡ (is_flagged old c || seen (slice_index_or ks c no_coupling))
  pub more : count (length ks) (is_flagged new) ≡ count (length ks) (is_flagged old) + fresh

-- What becomes of what is carried where so many couplings are looked at and flags are set: windows and rows stay; of a table that has those couplings it is carried under the flags that are set now, if it was under those that were; and where none is set anew it is as it was.
pub record Acted {N : ℕ} (n : ℕ) (old new : Carried N) (flags flags' : List Flag) (fresh : ℕ) : Type 0 where
  pub windows : (v : ℕ) → window_in new v ≡ window_in old v
  pub rows : SameRows old.rows new.rows
  pub carries : (t : Table) → Stands t → n ≤ length t.couplings → Carries t (is_flagged flags) old → Carries t (is_flagged flags') new
  pub idle : fresh ≡ 0 → new ≡ old
