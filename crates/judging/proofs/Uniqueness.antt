-- A table has at most one judgement under a rule, with its flags, and its windows unless it is gain.
use Rattle.std.proofs.Common.{◌≡◌, ℕ, ◌<◌, ◌≤◌, length, ℤ, refl, sym, ◌∙◌, ⊎_elim, ◌≢◌, arith}
use Rattle.std.proofs.lemmas.Int.{ints}
use Rattle.std.proofs.lemmas.Bool.{cases_lt}
use Rattle.closing.specs.Sets.{Flags, Within, Same}
use Rattle.closing.specs.Rounds.{Outcome, without_end, settled, set_of, SameOutcome}
use Rattle.closing.proofs.Counts.{count-same}
use Rattle.closing.proofs.Runs.{same_within, same_sym, agree}
use Rattle.design.specs.Table.{Table}
use Rattle.timing.specs.declared.windows.Window.{Window}
use Rattle.timing.specs.Windows.{IsLate, IsEarly}
use Rattle.timing.specs.Breaches.{Lowest, EndlessLatch, LateBy, EarlyBy}
use Rattle.timing.proofs.Grow.{windows_are_one, window_same}
use Rattle.judging.specs.declared.verdict.Verdict.{Verdict}
use Rattle.judging.specs.declared.verdict.Verdict.TheVariants.{Pass, Gain, Late, Early}
use Rattle.judging.specs.Couplings.{system_of}
use Rattle.judging.specs.Verdicts.{number_of, IsVerdict, IsGain, Shown}
use Rattle.judging.specs.Theorems.{VerdictsAreOne}
use Rattle.judging.proofs.Instance.{monotone, endless_grows, lateness_grows, earliness_grows, late_excess_grows, early_excess_grows}
use Rattle.judging.proofs.Meaning.{is_gain}

-- the lowest node of which something holds is no lower than the lowest of which as much holds
lowest_least : (t : Table) (A B : ℕ → Type 0) (u v : ℕ) → ((w : ℕ) → A w → B w) → Lowest t A u → Lowest t B v → v ≤ u
lowest_least t A B u v more low low' =
    ⊎_elim
    (λ (lower : u < v). absurd (low'.2 u lower (more u low.1)))
    (λ (no_lower : v ≤ u). no_lower)
    (cases_lt u v)

-- so where the same holds of the same nodes, the lowest one is the same
one_lowest : (t : Table) (A B : ℕ → Type 0) (u v : ℕ) → ((w : ℕ) → A w → B w) → ((w : ℕ) → B w → A w) → Lowest t A u → Lowest t B v → u ≡ v
one_lowest t A B u v more less low low' = omega (arith, lowest_least t A B u v more low low', lowest_least t B A v u less low' low)

module _ (t : Table) (S T : Flags) (there : Within (length t.couplings) S T) (back : Within (length t.couplings) T S) where
  -- under sets with the same couplings a latch is late by one excess
  late_excess : (u v : ℕ) (x y : ℤ) → u ≡ v → LateBy t S u x → LateBy t T v y → x ≡ y
  late_excess u v x y same h i =
      let j : LateBy t S v x = rw same at h in
      omega (arith, ints, late_excess_grows t S T there v x y j i, late_excess_grows t T S back v y x i j)

  -- and early by one
  early_excess : (u v : ℕ) (x y : ℤ) → u ≡ v → EarlyBy t S u x → EarlyBy t T v y → x ≡ y
  early_excess u v x y same h i =
      let j : EarlyBy t S v x = rw same at h in
      omega (arith, ints, early_excess_grows t S T there v x y j i, early_excess_grows t T S back v y x i j)

  -- the verdict on windows that have ends is one
  verdict_is_one : (x y : Verdict) → IsVerdict t S x → IsVerdict t T y → x ≡ y
  verdict_is_one Pass Pass h i = refl
  verdict_is_one Pass (Gain v) h i = absurd i
  verdict_is_one Pass (Late v b) h i = absurd (h.0 v i.0.0 (lateness_grows t T S back v i.0.1))
  verdict_is_one Pass (Early v b) h i = absurd (h.1 v i.1.0 (earliness_grows t T S back v i.1.1))
  verdict_is_one (Gain u) y h i = absurd h
  verdict_is_one (Late u a) Pass h i = absurd (i.0 u h.0.0 (lateness_grows t S T there u h.0.1))
  verdict_is_one (Late u a) (Gain v) h i = absurd i
  verdict_is_one (Late u a) (Late v b) h i =
      let latch = one_lowest t (IsLate t S) (IsLate t T) u v (lateness_grows t S T there) (lateness_grows t T S back) h.0 i.0 in
      let excess = late_excess u v a b latch h.1 i.1 in
      λ k. Late (latch k) (excess k)
  verdict_is_one (Late u a) (Early v b) h i = absurd (i.0 u h.0.0 (lateness_grows t S T there u h.0.1))
  verdict_is_one (Early u a) Pass h i = absurd (i.1 u h.1.0 (earliness_grows t S T there u h.1.1))
  verdict_is_one (Early u a) (Gain v) h i = absurd i
  verdict_is_one (Early u a) (Late v b) h i = absurd (h.0 v i.0.0 (lateness_grows t T S back v i.0.1))
  verdict_is_one (Early u a) (Early v b) h i =
      let latch = one_lowest t (IsEarly t S) (IsEarly t T) u v (earliness_grows t S T there) (earliness_grows t T S back) h.1 i.1 in
      let excess = early_excess u v a b latch h.2 i.2 in
      λ k. Early (latch k) (excess k)

  -- and so is that on a window without an end
  gain_is_one : (x y : Verdict) → IsGain t S x → IsGain t T y → x ≡ y
  gain_is_one Pass y h i = absurd h
  gain_is_one (Gain u) Pass h i = absurd i
  gain_is_one (Gain u) (Gain v) h i = let latch = one_lowest t (EndlessLatch t S) (EndlessLatch t T) u v (endless_grows t S T there) (endless_grows t T S back) h i in λ k. Gain (latch k)
  gain_is_one (Gain u) (Late v b) h i = absurd i
  gain_is_one (Gain u) (Early v b) h i = absurd i
  gain_is_one (Late u a) y h i = absurd h
  gain_is_one (Early u a) y h i = absurd h

-- what is shown of two outcomes that are the same: one verdict, and the same windows unless one has no end
shown_is_one : (t : Table) (windows windows' : ℕ → Window) (o o' : Outcome) (x y : Verdict) → SameOutcome (length t.couplings) o o' → Shown t windows o x → Shown t windows' o' y → (x ≡ y) × (number_of x ≢ 64 → (v : ℕ) → v < length t.nodes → windows v ≡ windows' v)
shown_is_one t windows windows' (without_end F) (without_end G) x y same h i =
    let there = same_within (length t.couplings) F G same in
    let back = same_within (length t.couplings) G F (same_sym (length t.couplings) F G same) in
    (gain_is_one t F G there back x y h i, λ other. absurd (other (is_gain t F x h)))
shown_is_one t windows windows' (without_end F) (settled G) x y same h i = absurd same
shown_is_one t windows windows' (settled F) (without_end G) x y same h i = absurd same
shown_is_one t windows windows' (settled F) (settled G) x y same h i =
    let there = same_within (length t.couplings) F G same in
    let back = same_within (length t.couplings) G F (same_sym (length t.couplings) F G same) in (
      verdict_is_one t F G there back x y h.0 i.0,
      λ other v lt. windows_are_one t G v (windows v) (windows' v) (window_same t F G there back v (windows v) (h.1 v lt)) (i.1 v lt),
    )

-- outcomes that are the same have the same flags
same_flags : (n : ℕ) (o o' : Outcome) → SameOutcome n o o' → Same n (set_of o) (set_of o')
same_flags n (without_end F) (without_end G) same = same
same_flags n (without_end F) (settled G) same = absurd same
same_flags n (settled F) (without_end G) same = absurd same
same_flags n (settled F) (settled G) same = same

-- judgements of a table under a rule are one
pub verdicts_are_one : VerdictsAreOne
verdicts_are_one t sees j j' S S' windows windows' stands lawful judged judged' =
    let n : ℕ = length t.couplings in
    let alike = agree (system_of t sees) (monotone t sees stands lawful) (λ c lt. refl) judged.rounds judged'.rounds in
    let sets = same_flags n judged.outcome judged'.outcome alike.1 in
    let flags : Same n S S' = λ c lt. judged.flags c lt ∙ sets c lt ∙ sym (judged'.flags c lt) in
    let shown = shown_is_one t windows windows' judged.outcome judged'.outcome j.verdict j'.verdict alike.1 judged.shown judged'.shown in
    let count : j.flags ≡ j'.flags = judged.count ∙ count-same n S S' flags ∙ sym judged'.count in
    let verdict = shown.0 in
    let rounds = alike.0 in
    (λ k. record { verdict = verdict k; rounds = rounds k; flags = count k }, flags, shown.1)
