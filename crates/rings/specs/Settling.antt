-- Sweeps made one after another, in which each latch passes on what came to it, until no latch has more to pass on.
use Rattle.std.specs.Prelude.{◌≡◌, ℕ, suc, true, false, cond, nat_lt}
use Rattle.paths.specs.Networks.{Network}
use Rattle.paths.specs.Kinds.{Kind, Restarts}
use Rattle.paths.specs.Sweeps.{Course, Swept}

-- What a latch starts from after so many sweeps. One that has no more to pass on starts as before; of the others, those that climb in a sweep before which `limit` were made start without an end.
abbrev pub next_start : {F : Type 0} → Restarts F → ℕ → ℕ → F → F → F
next_start r limit made start arrival = cond (r.climbs start arrival) (cond (nat_lt made limit) (r.restart start arrival) (r.without_end start arrival)) start

-- What latches start from after so many sweeps, where before the first each starts as `first` says. Another sweep follows one only where a latch climbs.
pub data Restarted {F S : Type 0} (kind : Kind F S) (n : Network) (course : Course F S) (r : Restarts F) (limit : ℕ) (first : ℕ → F) : ℕ → (ℕ → F) → Type 0 where
  unswept : {starts : ℕ → F} → ((v : ℕ) → n.is_latch v ≡ true → starts v ≡ first v) → Restarted kind n course r limit first 0 starts
  after_sweep : {made : ℕ} {starts : ℕ → F} (column starts' : ℕ → F) → Restarted kind n course r limit first made starts → Swept kind n course starts column → (w : ℕ) → n.is_latch w ≡ true → r.climbs (starts w) (column w) ≡ true → ((v : ℕ) → n.is_latch v ≡ true → starts' v ≡ next_start r limit made (starts v) (column v)) → Restarted kind n course r limit first (suc made) starts'

-- Settled: after `made` sweeps the column is swept once more, and no latch has more to pass on.
pub record Settled {F S : Type 0} (kind : Kind F S) (n : Network) (course : Course F S) (r : Restarts F) (limit : ℕ) (first : ℕ → F) (made : ℕ) (starts column : ℕ → F) : Type 0 where
  pub restarted : Restarted kind n course r limit first made starts
  pub swept : Swept kind n course starts column
  pub still : (v : ℕ) → n.is_latch v ≡ true → r.climbs (starts v) (column v) ≡ false
