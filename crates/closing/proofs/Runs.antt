-- What rounds find in any system, and that there is one way to make them.
use Rattle.std.proofs.Common.{◌≡◌, ℕ, suc, ◌+◌, ◌<◌, ◌≤◌, true, false, ◌⊎◌, sym, refl, ap, ◌∙◌, ⊎_elim, arith}
use Rattle.std.proofs.lemmas.Bool.{cases_Bool, true_from_ne_false, false_from_ne_true, true≢false}
use Rattle.closing.specs.Sets.{Flags, empty, Within, Same, count}
use Rattle.closing.specs.Systems.{System, Monotone, Closed, InEveryClosed}
use Rattle.closing.specs.Rounds.{Fresh, Grown, Outcome, without_end, settled, Rounds, endless, at_rest, again, SameOutcome, Means}
use Rattle.closing.proofs.Counts.{count-most, count-gains}

-- a set lies within each set that has the same flags
pub same_within : (n : ℕ) (S T : Flags) → Same n S T → Within n S T
same_within n S T same c lt set = sym (same c lt) ∙ set

-- it does not matter which of two sets with the same flags is named first
pub same_sym : (n : ℕ) (S T : Flags) → Same n S T → Same n T S
same_sym n S T same c lt = sym (same c lt)

-- sets that lie within one another have the same flags
pub within_same : (n : ℕ) (S T : Flags) → Within n S T → Within n T S → Same n S T
within_same n S T there back c lt =
    ⊎_elim
    (λ (set : S c ≡ true). set ∙ sym (there c lt set))
    (λ (unset : S c ≡ false). unset ∙ sym (false_from_ne_true (T c) (λ set. true≢false (sym (back c lt set) ∙ unset))))
    (cases_Bool (S c))

-- an outcome is the same as itself
pub same_outcome : (n : ℕ) (o : Outcome) → SameOutcome n o o
same_outcome n (without_end F) = λ c lt. refl
same_outcome n (settled F) = λ c lt. refl

-- sets that have the same flags are bounded alike
abbrev pub BoundedAlike : System → Type 0
BoundedAlike system = (S T : Flags) → Same system.size S T → system.Bounded S → system.Bounded T

module _ (system : System) where
  -- a set without flags lies within every closed set
  pub unset_in : (S : Flags) → ((c : ℕ) → c < system.size → S c ≡ false) → InEveryClosed system S
  unset_in S unset T closed c lt set = absurd (true≢false (sym set ∙ unset c lt))

  -- so does the empty set
  pub empty-in : InEveryClosed system empty
  empty-in = unset_in empty (λ c lt. refl)

  -- a round over a fresh flag leaves more flags set
  pub grown-more : {S T : Flags} {c : ℕ} → Grown system S T → Fresh system S c → count system.size S < count system.size T
  grown-more {S} {T} {c} g f = count-gains system.size S T c g.keeps f.below f.unset (g.adds c f.below f.seen)

  -- each round but the last takes one of the flags that were left
  pub few : {S : Flags} {k : ℕ} {o : Outcome} → Rounds system S k o → k + count system.size S ≤ system.size + 1
  few {S} (endless e) = let most = count-most system.size S in omega (arith, most)
  few {S} (at_rest b none) = let most = count-most system.size S in omega (arith, most)
  few (again c b f g rest) =
      let more = grown-more g f in
      let fewer = few rest in
      omega (arith, more, fewer)

  -- a bounded set without a fresh flag is closed
  pub rests-closed : (S : Flags) → system.Bounded S → ((c : ℕ) → Fresh system S c → ⊥) → Closed system S
  rests-closed S b none = record { bounded = b; holds_seen = λ c lt seen. true_from_ne_false (S c) (λ unset. none c (record { below = lt; seen = seen; unset = unset })) }

  -- the set on which rounds settle holds the one that they began with
  widen : {S T : Flags} (o : Outcome) → Grown system S T → Means system T o → Means system S o
  widen (without_end F) g m = m
  widen (settled F) g m = (m.0, λ c lt set. m.1 c lt (g.keeps c lt set))

  -- where every set is bounded or has something without an end, sets that have the same flags are bounded alike
  pub told_alike : Monotone system → ((S : Flags) → system.Bounded S ⊎ system.Endless S) → BoundedAlike system
  told_alike monotone tells S T same b =
      ⊎_elim
      (λ (bounded : system.Bounded T). bounded)
      (λ (e : system.Endless T). absurd (monotone.not_both S b (monotone.endless_within T S (same_within system.size T S (same_sym system.size S T same)) e)))
      (tells T)

  module _ (monotone : Monotone system) where
    -- a round sets no flag that some closed set leaves out
    pub grown-in : {S T : Flags} → InEveryClosed system S → Grown system S T → InEveryClosed system T
    grown-in {S} {T} within g U closed c lt set =
        ⊎_elim
        (λ (old : S c ≡ true). within U closed c lt old)
        (λ (new : S c ≡ false). closed.holds_seen c lt (monotone.sees_within S U (within U closed) closed.bounded c lt (g.only c lt set new)))
        (cases_Bool (S c))

    -- what the outcome of any rounds means
    pub right : {S : Flags} {k : ℕ} {o : Outcome} → InEveryClosed system S → Rounds system S k o → Means system S o
    right {S} within (endless e) = λ T closed. monotone.not_both T closed.bounded (monotone.endless_within S T (within T closed) e)
    right {S} within (at_rest b none) = (record { closed = rests-closed S b none; least = within }, λ c lt set. set)
    right within (again {o} c b f g rest) = widen o g (right (grown-in within g) rest)

    -- two sets with the same flags see the same flags, if the second is bounded
    sees_alike : (S T : Flags) → Same system.size S T → system.Bounded T → (c : ℕ) → c < system.size → system.Sees S c → system.Sees T c
    sees_alike S T same b = monotone.sees_within S T (same_within system.size S T same) b

    -- and what is fresh under the one is fresh under the other
    fresh_alike : {c : ℕ} (S T : Flags) → Same system.size S T → system.Bounded T → Fresh system S c → Fresh system T c
    fresh_alike {c} S T same b f = record { below = f.below; seen = sees_alike S T same b c f.below f.seen; unset = sym (same c f.below) ∙ f.unset }

    -- what a round makes of a set, it makes of each bounded set with the same flags
    grown_alike : {G : Flags} (S T : Flags) → Same system.size S T → system.Bounded S → system.Bounded T → Grown system S G → Grown system T G
    grown_alike S T same b b' g = record {
      keeps = λ c lt set. g.keeps c lt (same c lt ∙ set);
      adds = λ c lt seen. g.adds c lt (sees_alike T S (same_sym system.size S T same) b c lt seen);
      only = λ c lt set unset. sees_alike S T same b' c lt (g.only c lt set (same c lt ∙ unset));
    }

    -- two things that a round makes of bounded sets with the same flags: the second has all flags of the first
    grown_within : {G H : Flags} (S T : Flags) → Same system.size S T → system.Bounded T → Grown system S G → Grown system T H → Within system.size G H
    grown_within S T same b g h c lt set =
        ⊎_elim
        (λ (old : S c ≡ true). h.keeps c lt (sym (same c lt) ∙ old))
        (λ (new : S c ≡ false). h.adds c lt (sees_alike S T same b c lt (g.only c lt set new)))
        (cases_Bool (S c))

    -- so they have the same flags
    grown_same : {G H : Flags} (S T : Flags) → Same system.size S T → system.Bounded S → system.Bounded T → Grown system S G → Grown system T H → Same system.size G H
    grown_same {G} {H} S T same b b' g h =
        within_same system.size G H
        (grown_within S T same b' g h)
        (grown_within T S (same_sym system.size S T same) b h g)

    -- a set is not both bounded and, with the same flags, without an end
    not_alike : (S T : Flags) → Same system.size S T → system.Endless S → system.Bounded T → ⊥
    not_alike S T same e b = monotone.not_both T b (monotone.endless_within S T (same_within system.size S T same) e)

    -- rounds from a set are made, as many of them, from each set with the same flags, if such sets are bounded alike
    pub from_same : BoundedAlike system → (S T : Flags) {k : ℕ} {o : Outcome} → Same system.size S T → Rounds system S k o → (o' : Outcome) × Rounds system T k o' × SameOutcome system.size o o'
    from_same alike S T same (endless e) = (without_end T, endless (monotone.endless_within S T (same_within system.size S T same) e), same)
    from_same alike S T same (at_rest b none) = (
      settled T,
      at_rest (alike S T same b) (λ c f. none c (fresh_alike T S (same_sym system.size S T same) b f)),
      same,
    )
    from_same alike S T same (again {o} c b f g rest) =
        let b' = alike S T same b in
        (o, again c b' (fresh_alike S T same b' f) (grown_alike S T same b b' g) rest, same_outcome system.size o)

    -- rounds from sets with the same flags are equally many, and have the same outcome
    pub agree : {S T : Flags} {k k' : ℕ} {o o' : Outcome} → Same system.size S T → Rounds system S k o → Rounds system T k' o' → (k ≡ k') × SameOutcome system.size o o'
    agree same (endless e) (endless e') = (refl, same)
    agree {S} {T} same (endless e) (at_rest b' none') = absurd (not_alike S T same e b')
    agree {S} {T} same (endless e) (again c' b' f' g' rest') = absurd (not_alike S T same e b')
    agree {S} {T} same (at_rest b none) (endless e') = absurd (not_alike T S (same_sym system.size S T same) e' b)
    agree same (at_rest b none) (at_rest b' none') = (refl, same)
    agree {S} {T} same (at_rest b none) (again c' b' f' g' rest') = absurd (none c' (fresh_alike T S (same_sym system.size S T same) b f'))
    agree {S} {T} same (again c b f g rest) (endless e') = absurd (not_alike T S (same_sym system.size S T same) e' b)
    agree {S} {T} same (again c b f g rest) (at_rest b' none') = absurd (none' c (fresh_alike S T same b' f))
    agree {S} {T} same (again c b f g rest) (again c' b' f' g' rest') =
        let next = agree (grown_same S T same b b' g g') rest rest' in
        (ap suc next.0, next.1)

-- in a monotone system whose sets are bounded alike, a set with the same flags as a closed one is closed
pub closed_same : (system : System) → Monotone system → BoundedAlike system → (S T : Flags) → Same system.size S T → Closed system S → Closed system T
closed_same system monotone alike S T same closed =
    record {
      bounded = alike S T same closed.bounded;
      holds_seen = λ c lt seen. sym (same c lt) ∙ closed.holds_seen c lt (monotone.sees_within T S (same_within system.size T S (same_sym system.size S T same)) closed.bounded c lt seen);
    }
