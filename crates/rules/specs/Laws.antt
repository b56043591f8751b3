-- The laws of the rules. They stand here and not among the proofs, since the impls name them.
use Rattle.std.proofs.Common.{◌≡◌, Bool, true, false, cond, ◌&&◌, ◌||◌, ℤ, pos, ◌≤ℤ◌, ◌+ℤ◌, ◌-ℤ◌, ◌==◌, refl, subst, inl, inr, arith}
use Rattle.std.specs.Prelude.{int_le, int_lt}
use Rattle.std.proofs.lemmas.Int.{ints, clamps}
use Rattle.std.proofs.lemmas.Bool.{and_parts, and_from, or_cases, or_right}
use Rattle.std.specs.Int.{int_max, int_min}
use Rattle.frames.specs.declared.rules.Rule.{Rule}
use Rattle.frames.specs.declared.rules.Rule.TheVariants.{Never, ThreeOccurrences, Always}
use Rattle.rules.specs.Questions.{Question, Widened, Lawful}
use Rattle.timing.specs.declared.windows.Window.{Window}
use Rattle.timing.specs.Windows.{Includes}
use Rattle.rules.specs.Rules.{never, always, come_close, forward_of, nearest_of, sees_nearest, sees_following, sees_previous, three_occurrences}
use Rattle.rules.specs.Named.{named}

-- the rule that sees nothing keeps what it saw
pub never_lawful : Lawful never
never_lawful narrow wide held w seen = seen

-- and so does the rule that sees everything
pub always_lawful : Lawful always
always_lawful narrow wide held w seen = refl

-- a test of an order holds on where the lower number is less and the upper one greater
still_at_most : (x y x' y' : ℤ) → x' ≤ℤ x → y ≤ℤ y' → int_le x y ≡ true → int_le x' y' ≡ true
still_at_most x y x' y' low high h = grind (arith, ints)

still_below : (x y x' y' : ℤ) → x' ≤ℤ x → y ≤ℤ y' → int_lt x y ≡ true → int_lt x' y' ≡ true
still_below x y x' y' low high h = grind (arith, ints)

-- two tests hold on where each does
and_keeps : (a b c d : Bool) → (a ≡ true → c ≡ true) → (b ≡ true → d ≡ true) → (a && b) ≡ true → (c && d) ≡ true
and_keeps a b c d first second h = and_from c d (first (and_parts a b h).0) (second (and_parts a b h).1)

-- one of two tests holds on where each does
or_keeps : (a b c d : Bool) → (a ≡ true → c ≡ true) → (b ≡ true → d ≡ true) → (a || b) ≡ true → (c || d) ≡ true
or_keeps a b c d first second h = elim (or_cases a b h) [ inl i ↦ rw (first i) refl | inr i ↦ or_right c d (second i) ]

-- a test that is picked holds on where both do
either_keeps : (same a b c d : Bool) → (a ≡ true → c ≡ true) → (b ≡ true → d ≡ true) → cond same a b ≡ true → cond same c d ≡ true
either_keeps true a b c d first second h = first h
either_keeps false a b c d first second h = second h

-- the same question about other windows
abbrev with_windows : Question → Window → Window → Question
with_windows q v a =
    record {
      clock = q.clock;
      victim = record { node = q.victim.node; phase = q.victim.phase; window = v };
      aggressor = record { node = q.aggressor.node; phase = q.aggressor.phase; window = a };
    }

-- wider windows of one question
module _ (q : Question) (v a : Window) (iv : Includes v q.victim.window) (ia : Includes a q.aggressor.window) where
  come_close_keeps : (shift : ℤ) → come_close q shift ≡ true → come_close (with_windows q v a) shift ≡ true
  come_close_keeps shift h =
      still_at_most
      (int_max q.victim.window.begins (q.aggressor.window.begins -ℤ shift))
      (int_min q.victim.window.ends (q.aggressor.window.ends -ℤ shift) +ℤ pos q.clock.proximity)
      (int_max v.begins (a.begins -ℤ shift))
      (int_min v.ends (a.ends -ℤ shift) +ℤ pos q.clock.proximity)
      (omega (arith, ints, clamps, iv.0, ia.0))
      (omega (arith, ints, clamps, iv.1, ia.1))
      h

  following_keeps : sees_following q ≡ true → sees_following (with_windows q v a) ≡ true
  following_keeps =
      let next_begins : ℤ → ℤ = λ begins. begins -ℤ nearest_of q +ℤ pos q.clock.period in
      let near_until : ℤ → ℤ = λ ends. ends +ℤ pos q.clock.proximity in
      let forward_begins : ℤ → ℤ = λ begins. begins -ℤ forward_of q in
      and_keeps _ _ _ _
      (still_at_most (next_begins q.aggressor.window.begins) (near_until q.victim.window.ends) (next_begins a.begins) (near_until v.ends) (omega (arith, ints, ia.0)) (omega (arith, ints, iv.1)))
      (still_below (forward_begins q.aggressor.window.begins) q.victim.window.ends (forward_begins a.begins) v.ends (omega (arith, ints, ia.0)) iv.1)

  previous_keeps : sees_previous q ≡ true → sees_previous (with_windows q v a) ≡ true
  previous_keeps =
      let near_from : ℤ → ℤ = λ begins. begins -ℤ pos q.clock.proximity in
      let last_ends : ℤ → ℤ = λ ends. ends -ℤ nearest_of q -ℤ pos q.clock.period in
      let forward_ends : ℤ → ℤ = λ ends. ends -ℤ forward_of q in
      and_keeps _ _ _ _
      (still_at_most (near_from q.victim.window.begins) (last_ends q.aggressor.window.ends) (near_from v.begins) (last_ends a.ends) (omega (arith, ints, iv.0)) (omega (arith, ints, ia.1)))
      (still_at_most q.victim.window.begins (forward_ends q.aggressor.window.ends) v.begins (forward_ends a.ends) iv.0 (omega (arith, ints, ia.1)))

  any_keeps : (sees_nearest q || sees_following q || sees_previous q) ≡ true → (sees_nearest (with_windows q v a) || sees_following (with_windows q v a) || sees_previous (with_windows q v a)) ≡ true
  any_keeps =
      or_keeps
      (sees_nearest q || sees_following q)
      (sees_previous q)
      (sees_nearest (with_windows q v a) || sees_following (with_windows q v a))
      (sees_previous (with_windows q v a))
      (or_keeps (sees_nearest q) (sees_following q) (sees_nearest (with_windows q v a)) (sees_following (with_windows q v a)) (come_close_keeps (nearest_of q)) following_keeps)
      previous_keeps

  three_keeps : three_occurrences q ≡ true → three_occurrences (with_windows q v a) ≡ true
  three_keeps =
      either_keeps
      (q.victim.phase == q.aggressor.phase)
      (come_close q (pos 0))
      (sees_nearest q || sees_following q || sees_previous q)
      (come_close (with_windows q v a) (pos 0))
      (sees_nearest (with_windows q v a) || sees_following (with_windows q v a) || sees_previous (with_windows q v a))
      (come_close_keeps (pos 0))
      any_keeps

-- a question about the same wires, but for their windows, is one with these windows
same_but_windows : (narrow wide : Question) → Widened wide narrow → with_windows narrow wide.victim.window wide.aggressor.window ≡ wide
same_but_windows narrow wide w = rw (← w.clock, ← w.victim.node, ← w.victim.phase, ← w.aggressor.node, ← w.aggressor.phase) refl

-- three occurrences keep what they saw
pub three_occurrences_lawful : Lawful three_occurrences
three_occurrences_lawful narrow wide held w seen =
    subst
    (λ (q : Question). three_occurrences q ≡ true)
    (same_but_windows narrow wide w)
    (three_keeps narrow wide.victim.window wide.aggressor.window w.victim.window w.aggressor.window seen)

-- each rule that a frame names keeps what it saw
pub named_lawful : (rule : Rule) → Lawful (named rule)
named_lawful Never = never_lawful
named_lawful ThreeOccurrences = three_occurrences_lawful
named_lawful Always = always_lawful
