-- The laws of the latest and the earliest kind, and of both at once. They stand here and not among the proofs, since the impls name them.
use Rattle.std.proofs.Common.{◌≡◌, ◌<◌, ◌≤◌, true, false, ℤ, pos, negsuc, neg_ℤ, ◌≤ℤ◌, ◌+ℤ◌, refl, sym, ap, ◌∙◌, ⊎_elim, int_lt, arith}
use Rattle.std.proofs.lemmas.Int.{ints, clamps}
use Rattle.std.proofs.lemmas.Bool.{cases_Bool, true≢false}
use Rattle.std.specs.Int.{int_max, int_min, saturate_signed, w64}
use Rattle.paths.specs.Kinds.{Lawful}
use Rattle.kinds.specs.declared.arrival.Arrival.{Arrival}
use Rattle.kinds.specs.declared.arrival.Arrival.TheVariants.{NoPath, At, NoEnd}
use Rattle.kinds.specs.declared.both.Arrivals.{Arrivals}
use Rattle.kinds.specs.Arrivals.{sum_within, stepped, joined_by, latest_kind, earliest_kind, is_later, endless_if_later, can_climb}
use Rattle.kinds.specs.Both.{both_kind, both_can_climb, both_restarts}

-- a sum within 64 bits is the sum held between the least and the greatest of their numbers
pub clamped : (z : ℤ) → saturate_signed w64 z ≡ int_max (negsuc 9223372036854775807) (int_min z (pos 9223372036854775807))
clamped (pos n) = omega (arith, ints, clamps)
clamped (negsuc n) = omega (arith, ints, clamps)

-- a number that 64 bits hold, below 0 as far as above, is itself within them
pub within_64 : (z : ℤ) → neg_ℤ (pos 9223372036854775807) ≤ℤ z → z ≤ℤ pos 9223372036854775807 → saturate_signed w64 z ≡ z
within_64 z low high = omega (arith, ints, clamps, clamped z, low, high)

-- the sum of a pick is the pick of the sums
greatest_adds : (x y gain : ℤ) → sum_within (int_max x y) gain ≡ int_max (sum_within x gain) (sum_within y gain)
greatest_adds x y gain = omega (arith, ints, clamps, clamped (int_max x y +ℤ gain), clamped (x +ℤ gain), clamped (y +ℤ gain))

least_adds : (x y gain : ℤ) → sum_within (int_min x y) gain ≡ int_min (sum_within x gain) (sum_within y gain)
least_adds x y gain = omega (arith, ints, clamps, clamped (int_min x y +ℤ gain), clamped (x +ℤ gain), clamped (y +ℤ gain))

-- what the pick of one of two figures keeps, so that joins by it are lawful
record Picks (pick : ℤ → ℤ → ℤ) : Type 0 where
  swaps : (x y : ℤ) → pick x y ≡ pick y x
  regroups : (x y z : ℤ) → pick (pick x y) z ≡ pick x (pick y z)
  repeats : (x : ℤ) → pick x x ≡ x
  adds : (x y gain : ℤ) → sum_within (pick x y) gain ≡ pick (sum_within x gain) (sum_within y gain)

greatest_picks : Picks int_max
greatest_picks =
    record {
      swaps = λ x y. omega (arith, ints, clamps);
      regroups = λ x y z. omega (arith, ints, clamps);
      repeats = λ x. omega (arith, ints, clamps);
      adds = greatest_adds;
    }

least_picks : Picks int_min
least_picks =
    record {
      swaps = λ x y. omega (arith, ints, clamps);
      regroups = λ x y z. omega (arith, ints, clamps);
      repeats = λ x. omega (arith, ints, clamps);
      adds = least_adds;
    }

module _ (pick : ℤ → ℤ → ℤ) (p : Picks pick) where
  join_ignores : (x : Arrival) → joined_by pick x NoPath ≡ x
  join_ignores NoPath = refl
  join_ignores (At x) = refl
  join_ignores NoEnd = refl

  join_swaps : (x y : Arrival) → joined_by pick x y ≡ joined_by pick y x
  join_swaps NoPath NoPath = refl
  join_swaps NoPath (At y) = refl
  join_swaps NoPath NoEnd = refl
  join_swaps (At x) NoPath = refl
  join_swaps (At x) (At y) = ap At (p.swaps x y)
  join_swaps (At x) NoEnd = refl
  join_swaps NoEnd NoPath = refl
  join_swaps NoEnd (At y) = refl
  join_swaps NoEnd NoEnd = refl

  join_regroups : (x y z : Arrival) → joined_by pick (joined_by pick x y) z ≡ joined_by pick x (joined_by pick y z)
  join_regroups NoPath y z = refl
  join_regroups (At x) NoPath z = refl
  join_regroups (At x) (At y) NoPath = refl
  join_regroups (At x) (At y) (At z) = ap At (p.regroups x y z)
  join_regroups (At x) (At y) NoEnd = refl
  join_regroups (At x) NoEnd z = refl
  join_regroups NoEnd y z = refl

  join_repeats : (x : Arrival) → joined_by pick x x ≡ x
  join_repeats NoPath = refl
  join_repeats (At x) = ap At (p.repeats x)
  join_repeats NoEnd = refl

  steps_before_join : (x y : Arrival) (gain : ℤ) → stepped (joined_by pick x y) gain ≡ joined_by pick (stepped x gain) (stepped y gain)
  steps_before_join NoPath y gain = refl
  steps_before_join (At x) NoPath gain = refl
  steps_before_join (At x) (At y) gain = ap At (p.adds x y gain)
  steps_before_join (At x) NoEnd gain = refl
  steps_before_join NoEnd y gain = refl

  lawful : Lawful (record { no_path = NoPath; join = joined_by pick; step = stepped })
  lawful =
      record {
        ignores = join_ignores;
        keeps = λ gain. refl;
        swaps = join_swaps;
        regroups = join_regroups;
        repeats = join_repeats;
        steps_before = steps_before_join;
      }

-- the latest kind keeps the laws
pub latest_lawful : Lawful latest_kind
latest_lawful = lawful int_max greatest_picks

-- and so does the earliest kind
pub earliest_lawful : Lawful earliest_kind
earliest_lawful = lawful int_min least_picks

-- an arrival that is not later changes nothing of a start
pub stays_unless_later : (start arrival : Arrival) → is_later start arrival ≡ false → latest_kind.join start arrival ≡ start
stays_unless_later NoPath NoPath h = refl
stays_unless_later NoPath (At y) h = absurd (true≢false h)
stays_unless_later NoPath NoEnd h = absurd (true≢false h)
stays_unless_later (At x) NoPath h = refl
stays_unless_later (At x) (At y) h = ap At (omega (arith, ints, clamps))
stays_unless_later (At x) NoEnd h = absurd (true≢false h)
stays_unless_later NoEnd arrival h = refl

-- a number that is not above another is not after it
not_after : (x y : ℤ) → y ≤ℤ x → int_lt x y ≡ false
not_after x y le = ⊎_elim (λ (e : int_lt x y ≡ true). absurd (omega (arith, ints, le, e))) (λ (e : int_lt x y ≡ false). e) (cases_Bool (int_lt x y))

-- an arrival is not later than a start that took it over
pub rests_restarted : (start arrival : Arrival) → is_later start arrival ≡ true → is_later (latest_kind.join start arrival) arrival ≡ false
rests_restarted NoPath NoPath h = refl
rests_restarted NoPath (At y) h = not_after y y (omega (arith, ints, clamps))
rests_restarted NoPath NoEnd h = refl
rests_restarted (At x) NoPath h = refl
rests_restarted (At x) (At y) h = not_after (int_max x y) y (omega (arith, ints, clamps))
rests_restarted (At x) NoEnd h = refl
rests_restarted NoEnd arrival h = refl

-- an arrival has one figure that can climb, at most
pub climbs_one : (arrival : Arrival) → can_climb arrival ≤ 1
climbs_one NoPath = omega arith
climbs_one (At x) = omega arith
climbs_one NoEnd = omega arith

-- a latch that starts later can climb no more than before
pub restart_climbs : (start arrival : Arrival) → can_climb (latest_kind.join start arrival) ≤ can_climb start
restart_climbs NoPath NoPath = omega arith
restart_climbs NoPath (At y) = omega arith
restart_climbs NoPath NoEnd = omega arith
restart_climbs (At x) NoPath = omega arith
restart_climbs (At x) (At y) = omega arith
restart_climbs (At x) NoEnd = omega arith
restart_climbs NoEnd arrival = omega arith

-- a latch that has no end can climb no more
pub endless_climbs_less : (start arrival : Arrival) → is_later start arrival ≡ true → can_climb (endless_if_later start arrival) < can_climb start
endless_climbs_less NoPath arrival h = rw h (omega arith)
endless_climbs_less (At x) arrival h = rw h (omega arith)
endless_climbs_less NoEnd arrival h = absurd (true≢false (sym h))

-- ---- both kinds at once, each law from those of the two

-- a latest and an earliest arrival together
abbrev paired : Arrival → Arrival → Arrivals
paired l e = record { latest = l; earliest = e }

-- figures of which both are the same are the same
pub arrivals_are : (x y : Arrivals) → x.latest ≡ y.latest → x.earliest ≡ y.earliest → x ≡ y
arrivals_are x y late early = ap (λ l. paired l x.earliest) late ∙ ap (paired y.latest) early

-- both kinds at once keep the laws
pub both_lawful : Lawful both_kind
both_lawful =
    record {
      ignores = λ x. arrivals_are _ _ (latest_lawful.ignores x.latest) (earliest_lawful.ignores x.earliest);
      keeps = λ gains. refl;
      swaps = λ x y. arrivals_are _ _ (latest_lawful.swaps x.latest y.latest) (earliest_lawful.swaps x.earliest y.earliest);
      regroups = λ x y z. arrivals_are _ _ (latest_lawful.regroups x.latest y.latest z.latest) (earliest_lawful.regroups x.earliest y.earliest z.earliest);
      repeats = λ x. arrivals_are _ _ (latest_lawful.repeats x.latest) (earliest_lawful.repeats x.earliest);
      steps_before = λ x y gains. arrivals_are _ _ (latest_lawful.steps_before x.latest y.latest gains.latest) (earliest_lawful.steps_before x.earliest y.earliest gains.earliest);
    }

-- where the latest that comes is not later, nothing changes of a start
pub both_stays : (start arrival : Arrivals) → both_restarts.climbs start arrival ≡ false → both_restarts.restart start arrival ≡ start
both_stays start arrival h = arrivals_are _ _ (stays_unless_later start.latest arrival.latest h) refl

-- a latch that restarted from what came to it does not climb over it again
pub both_rests : (start arrival : Arrivals) → both_restarts.climbs start arrival ≡ true → both_restarts.climbs (both_restarts.restart start arrival) arrival ≡ false
both_rests start arrival h = rests_restarted start.latest arrival.latest h

-- of the two figures one can climb, at most
pub both_climbs_one : (x : Arrivals) → both_can_climb x ≤ 1
both_climbs_one x = climbs_one x.latest

-- a latch that starts later can climb no more than before
pub both_restart_climbs : (start arrival : Arrivals) → both_can_climb (both_restarts.restart start arrival) ≤ both_can_climb start
both_restart_climbs start arrival = restart_climbs start.latest arrival.latest

-- a latch that has no end can climb no more
pub both_endless_climbs_less : (start arrival : Arrivals) → both_restarts.climbs start arrival ≡ true → both_can_climb (both_restarts.without_end start arrival) < both_can_climb start
both_endless_climbs_less start arrival h = endless_climbs_less start.latest arrival.latest h
