-- The system of a table that stands and a lawful rule is monotone, and more couplings leave no latch on time that was late or early.
use Rattle.std.proofs.Common.{ℕ, ◌<◌, Bool, length, ℤ, ◌≤ℤ◌, refl, arith}
use Rattle.std.proofs.lemmas.Int.{ints}
use Rattle.closing.specs.Sets.{Flags, Within}
use Rattle.closing.specs.Systems.{Monotone}
use Rattle.closing.proofs.Runs.{same_within, same_sym, BoundedAlike}
use Rattle.design.specs.Table.{Table}
use Rattle.design.specs.SoFar.{Stands}
use Rattle.timing.specs.Windows.{IsLate, IsEarly}
use Rattle.timing.specs.Breaches.{EndlessLatch, AllEnd, LateBy, EarlyBy}
use Rattle.timing.proofs.Grow.{windows_grow, windows_end, window_same, late_grows, early_grows}
use Rattle.rules.specs.Questions.{Question, Lawful}
use Rattle.judging.specs.Couplings.{coupling_at, asked_about, IsSeen, system_of}

-- what the rule sees under a set it sees under each set that has more couplings, if all windows have an end there
seen_grows : (t : Table) (sees : Question → Bool) → Stands t → Lawful sees → (S T : Flags) → Within (length t.couplings) S T → AllEnd t T → (c : ℕ) → c < length t.couplings → IsSeen t sees S c → IsSeen t sees T c
seen_grows t sees stands lawful S T more ends c lt seen =
    let k = coupling_at t c in
    let pair = stands.pairs c lt in
    let victim = ends k.victim pair.0 in
    let aggressor = ends k.aggressor pair.1 in
    let wide = (windows_grow t S T more k.victim).0 seen.0 victim.0 seen.2 victim.1 in
    let wide' = (windows_grow t S T more k.aggressor).0 seen.1 aggressor.0 seen.3 aggressor.1 in (
      victim.0,
      aggressor.0,
      victim.1,
      aggressor.1,
      lawful (asked_about t k seen.0 seen.1) (asked_about t k victim.0 aggressor.0) stands.held (record { clock = refl; victim = record { node = refl; phase = refl; window = wide }; aggressor = record { node = refl; phase = refl; window = wide' } }) seen.4,
    )

-- the system of a table that stands and a lawful rule is monotone
pub monotone : (t : Table) (sees : Question → Bool) → Stands t → Lawful sees → Monotone (system_of t sees)
monotone t sees stands lawful =
    record {
      not_both = λ S ends e. let w = ends e.0 e.1 in windows_end t S e.0 w.0 w.1 e.2;
      endless_within = λ S T more e. (e.0, e.1, (windows_grow t S T more e.0).1 e.2);
      sees_within = seen_grows t sees stands lawful;
    }

-- in it sets that have the same flags are bounded alike
pub bounded_alike : (t : Table) (sees : Question → Bool) → BoundedAlike (system_of t sees)
bounded_alike t sees S T same ends v lt =
    let there = same_within (length t.couplings) S T same in
    let back = same_within (length t.couplings) T S (same_sym (length t.couplings) S T same) in
    let w = ends v lt in
    (w.0, window_same t S T there back v w.0 w.1)

-- a latch whose window has no end under a set of couplings has no end under more of them
pub endless_grows : (t : Table) (S T : Flags) → Within (length t.couplings) S T → (v : ℕ) → EndlessLatch t S v → EndlessLatch t T v
endless_grows t S T more v h = (h.0, (windows_grow t S T more v).1 h.1)

-- a latch that is late is late still
pub lateness_grows : (t : Table) (S T : Flags) → Within (length t.couplings) S T → (v : ℕ) → IsLate t S v → IsLate t T v
lateness_grows t S T more v h = (h.0, (h.1.0, h.1.1, omega (arith, ints, h.1.2, late_grows t S T more v h.1.0)))

-- and one that is early is early still
pub earliness_grows : (t : Table) (S T : Flags) → Within (length t.couplings) S T → (v : ℕ) → IsEarly t S v → IsEarly t T v
earliness_grows t S T more v h = (h.0, (h.1.0, h.1.1, h.1.2, omega (arith, ints, h.1.3, early_grows t S T more v h.1.0)))

-- it is late by no less
pub late_excess_grows : (t : Table) (S T : Flags) → Within (length t.couplings) S T → (v : ℕ) (x y : ℤ) → LateBy t S v x → LateBy t T v y → x ≤ℤ y
late_excess_grows t S T more v x y h i =
    let here = late_grows t S T more v h.1.path in
    let most = i.1.most h.1.path h.1.picked in
    omega (arith, ints, here, most, h.1.reached, h.2, i.2)

-- and early by no less
pub early_excess_grows : (t : Table) (S T : Flags) → Within (length t.couplings) S T → (v : ℕ) (x y : ℤ) → EarlyBy t S v x → EarlyBy t T v y → x ≤ℤ y
early_excess_grows t S T more v x y h i =
    let here = early_grows t S T more v h.1.path in
    let least = i.1.least h.1.path h.1.picked in
    omega (arith, ints, here, least, h.1.reached, h.2, i.2)
