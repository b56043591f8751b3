-- In a system that decides, rounds can be made from every set: and so the theorems of this crate.
use Rattle.std.proofs.Common.{◌≡◌, ℕ, zero, suc, ◌+◌, ◌<◌, ◌≤◌, true, false, ◌⊎◌, inl, inr, sym, refl, ◌∙◌, ⊎_elim, ◌||◌, arith}
use Rattle.std.proofs.lemmas.Bool.{cases_Bool, cases_lt, or_cases, or_left, or_right, true≢false}
use Rattle.closing.specs.Sets.{Flags, empty, count}
use Rattle.closing.specs.Systems.{Decided, decided, Monotone}
use Rattle.closing.specs.Rounds.{Fresh, Grown, Outcome, without_end, settled, Rounds, endless, at_rest, again}
use Rattle.closing.specs.Theorems.{RoundsClose, RoundsUnique, RoundsMean, FromNothing}
use Rattle.closing.proofs.Counts.{count-most, count-empty}
use Rattle.closing.proofs.Runs.{BoundedAlike, told_alike, empty-in, grown-more, few, right, agree}

-- what a round makes of a set, where it is told which flags are seen
abbrev pub grown : Decided → Flags → Flags
grown d S c = S c || d.sees S c

module _ (d : Decided) where
  -- it keeps what is set, adds what is seen, and nothing else
  pub grows : (S : Flags) → Grown (decided d) S (grown d S)
  grows S = record {
    keeps = λ c lt set. or_left (S c) (d.sees S c) set;
    adds = λ c lt seen. or_right (S c) (d.sees S c) seen;
    only = λ c lt set unset. ⊎_elim (λ (old : S c ≡ true). absurd (true≢false (sym old ∙ unset))) (λ (new : d.sees S c ≡ true). new) (or_cases (S c) (d.sees S c) set);
  }

  -- sets that have the same flags are bounded alike
  pub decided_alike : Monotone (decided d) → BoundedAlike (decided d)
  decided_alike monotone = told_alike (decided d) monotone (λ S. cases_Bool (d.bounded S))

  -- a flag is fresh or it is not
  fresh_or_not : (S : Flags) (c : ℕ) → c < d.size → Fresh (decided d) S c ⊎ (Fresh (decided d) S c → ⊥)
  fresh_or_not S c lt =
      ⊎_elim
      (λ (seen : d.sees S c ≡ true).
      ⊎_elim
      (λ (set : S c ≡ true). inr (λ f. true≢false (sym set ∙ f.unset)))
      (λ (unset : S c ≡ false). inl (record { below = lt; seen = seen; unset = unset }))
      (cases_Bool (S c)))
      (λ (unseen : d.sees S c ≡ false). inr (λ f. true≢false (sym f.seen ∙ unseen)))
      (cases_Bool (d.sees S c))

  -- none of the first m flags is fresh
  NoneBelow : ℕ → Flags → Type 0
  NoneBelow m S = (c : ℕ) → c < m → Fresh (decided d) S c → ⊥

  -- if none of the first m flags is fresh, nor the next one, none of the first m + 1 is
  none-next : (m : ℕ) (S : Flags) → NoneBelow m S → (Fresh (decided d) S m → ⊥) → NoneBelow (suc m) S
  unfolding NoneBelow
  none-next m S none here c lt f =
      ⊎_elim
      (λ (before : c < m). none c before f)
      (λ (last : m ≤ c). let same : c ≡ m = omega (arith, lt, last) in here (rw same at f))
      (cases_lt c m)

  -- one of the first m flags is fresh, or none is
  look : (m : ℕ) (S : Flags) → m ≤ d.size → ((c : ℕ) × Fresh (decided d) S c) ⊎ NoneBelow m S
  unfolding NoneBelow
  look zero S le = inr (λ c lt f. absurd (omega (arith, lt)))
  look (suc m) S le =
      ⊎_elim
      (λ (found : (c : ℕ) × Fresh (decided d) S c). inl found)
      (λ (none : NoneBelow m S).
      ⊎_elim
      (λ (f : Fresh (decided d) S m). inl (m, f))
      (λ (here : Fresh (decided d) S m → ⊥). inr (none-next m S none here))
      (fresh_or_not S m (omega (arith, le))))
      (look m S (omega (arith, le)))

  -- rounds from a set, where the flags not yet set are fewer than `left`
  made : (left : ℕ) (S : Flags) → d.size + 1 ≤ count d.size S + left → (k : ℕ) × (o : Outcome) × Rounds (decided d) S k o
  unfolding NoneBelow
  made zero S enough = absurd (let most = count-most d.size S in omega (arith, most, enough))
  made (suc left) S enough =
      ⊎_elim
      (λ (b : d.bounded S ≡ true).
      ⊎_elim
      (λ (found : (c : ℕ) × Fresh (decided d) S c).
      let more = grown-more (decided d) (grows S) found.1 in
      let rest = made left (grown d S) (omega (arith, more, enough)) in
      (suc rest.0, rest.1, again found.0 b found.1 (grows S) rest.2))
      (λ (none : NoneBelow d.size S).
      (1, settled S, at_rest b (λ c f. none c f.below f)))
      (look d.size S (omega arith)))
      (λ (e : d.bounded S ≡ false). (1, without_end S, endless e))
      (cases_Bool (d.bounded S))

  -- rounds can be made from every set
  pub make : (S : Flags) → (k : ℕ) × (o : Outcome) × Rounds (decided d) S k o
  make S = made (d.size + 1) S (omega arith)

-- whatever rounds were made are few, and their outcome is right
pub runs_mean : RoundsMean
runs_mean d monotone S within k o r = (few (decided d) r, right (decided d) monotone within r)

-- rounds end, with an outcome that is right
pub runs_close : RoundsClose
runs_close d monotone S within =
    let r = make d S in
    (r.0, r.1, r.2, few (decided d) r.2, right (decided d) monotone within r.2)

-- rounds from the same set are equally many, with the same outcome
pub runs_unique : RoundsUnique
runs_unique d monotone S k k' o o' r r' = agree (decided d) monotone (λ c lt. refl) r r'

-- all of this holds of rounds that start without flags
pub runs_from_empty : FromNothing
runs_from_empty d = (
  empty-in (decided d),
  λ monotone. make d empty,
  λ monotone k o r.
      let all = runs_mean d monotone empty (empty-in (decided d)) k o r in
      let nothing = count-empty d.size in
      (let few = all.0 in omega (arith, few, nothing), all.1),
)
