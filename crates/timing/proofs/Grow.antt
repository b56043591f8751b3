-- What holds of windows: a node has one at most, one with an end has no paths past every number, and more couplings give windows that include the old ones.
use Rattle.std.proofs.Common.{◌≡◌, ◌+◌, ◌<◌, ℕ, suc, ◌≤◌, Bool, true, false, cond, List, [], ◌∷◌, length, ℤ, ◌≤ℤ◌, refl, sym, ◌∙◌, arith}
use Rattle.std.proofs.lemmas.Int.{ints}
use Rattle.std.proofs.lemmas.Bool.{true≢false}
use Rattle.design.specs.declared.couplings.Coupling.{Coupling}
use Rattle.design.specs.Rows.{is_latch, assisting_of}
use Rattle.design.specs.Table.{Table}
use Rattle.paths.specs.Figures.{figure}
use Rattle.paths.proofs.Steps.{grows}
use Rattle.timing.specs.declared.windows.Window.{Window}
use Rattle.timing.specs.Connections.{row, network}
use Rattle.closing.specs.Sets.{Within}
use Rattle.timing.specs.Delays.{chosen_from, opposing_of}
use Rattle.timing.specs.Figures.{late_gain, late_start, late, early_gain, early_start, early}
use Rattle.timing.specs.Windows.{PathTo, BeginsBy, Ends, IsWindow}
use Rattle.timing.specs.Theorems.{WindowsAreOne, WindowsEnd, WindowsGrow}

-- one more coupling, taken into a list or not, adds no less to what a victim has opposing where it is taken more readily and the rest gives no less
opposing_joins : (b d : Bool) (k : Coupling) (xs ys : List Coupling) (v : ℕ) → (b ≡ true → d ≡ true) → opposing_of xs v ≤ opposing_of ys v → opposing_of (cond b (k ∷ xs) xs) v ≤ opposing_of (cond d (k ∷ ys) ys) v
opposing_joins true true k xs ys v more le = omega arith
opposing_joins true false k xs ys v more le = absurd (true≢false (sym (more refl)))
opposing_joins false true k xs ys v more le = omega arith
opposing_joins false false k xs ys v more le = le

-- and likewise to what it has assisting
assisting_joins : (b d : Bool) (k : Coupling) (xs ys : List Coupling) (v : ℕ) → (b ≡ true → d ≡ true) → assisting_of xs v ≤ assisting_of ys v → assisting_of (cond b (k ∷ xs) xs) v ≤ assisting_of (cond d (k ∷ ys) ys) v
assisting_joins true true k xs ys v more le = omega arith
assisting_joins true false k xs ys v more le = absurd (true≢false (sym (more refl)))
assisting_joins false true k xs ys v more le = omega arith
assisting_joins false false k xs ys v more le = le

-- more couplings in a set give a victim no less that opposes it
opposing_grows : (S T : ℕ → Bool) (i : ℕ) (ks : List Coupling) → ((c : ℕ) → i ≤ c → c < i + length ks → S c ≡ true → T c ≡ true) → (v : ℕ) → opposing_of (chosen_from S i ks) v ≤ opposing_of (chosen_from T i ks) v
opposing_grows S T i [] in_both v = omega arith
opposing_grows S T i (k ∷ ks) in_both v =
    let rest = opposing_grows S T (suc i) ks (λ c from lt. in_both c (omega arith) (omega arith)) v in
    opposing_joins (S i) (T i) k (chosen_from S (suc i) ks) (chosen_from T (suc i) ks) v (in_both i (omega arith) (omega arith)) rest

-- and no less that assists it
assisting_grows : (S T : ℕ → Bool) (i : ℕ) (ks : List Coupling) → ((c : ℕ) → i ≤ c → c < i + length ks → S c ≡ true → T c ≡ true) → (v : ℕ) → assisting_of (chosen_from S i ks) v ≤ assisting_of (chosen_from T i ks) v
assisting_grows S T i [] in_both v = omega arith
assisting_grows S T i (k ∷ ks) in_both v =
    let rest = assisting_grows S T (suc i) ks (λ c from lt. in_both c (omega arith) (omega arith)) v in
    assisting_joins (S i) (T i) k (chosen_from S (suc i) ks) (chosen_from T (suc i) ks) v (in_both i (omega arith) (omega arith)) rest

-- under more couplings no path has a smaller late figure
pub late_grows : (t : Table) (S T : ℕ → Bool) → Within (length t.couplings) S T → (v : ℕ) (p : PathTo t v) → figure (late t S) p ≤ℤ figure (late t T) p
late_grows t S T more v p =
    grows (network t.nodes) (late_start t) (late_start t) (late_gain t S) (late_gain t T) (λ u. omega (arith, ints)) (λ k u. omega (arith, ints, opposing_grows S T 0 t.couplings (λ c from lt. more c (omega arith)) k)) v p

-- and none has a greater early figure
pub early_grows : (t : Table) (S T : ℕ → Bool) → Within (length t.couplings) S T → (v : ℕ) (p : PathTo t v) → figure (early t T) p ≤ℤ figure (early t S) p
early_grows t S T more v p =
    grows (network t.nodes) (early_start t) (early_start t) (early_gain t T) (early_gain t S) (λ u. omega (arith, ints)) (λ k u. omega (arith, ints, assisting_grows S T 0 t.couplings (λ c from lt. more c (omega arith)) k)) v p

-- a window begins no later under more couplings
begins_grow : (t : Table) (S T : ℕ → Bool) → Within (length t.couplings) S T → (v : ℕ) (b : Bool) (f g : ℤ) → BeginsBy b t S v f → BeginsBy b t T v g → g ≤ℤ f
begins_grow t S T more v true f g h i = omega (arith, ints, h, i)
begins_grow t S T more v false f g h i =
    let here = early_grows t S T more v h.path in
    let least = i.least h.path h.picked in
    omega (arith, ints, here, least, h.reached)

-- and ends no earlier
ends_grow : (t : Table) (S T : ℕ → Bool) → Within (length t.couplings) S T → (v : ℕ) (f g : ℤ) → Ends t S v f → Ends t T v g → f ≤ℤ g
ends_grow t S T more v f g h i =
    let here = late_grows t S T more v h.path in
    let most = i.most h.path h.picked in
    omega (arith, ints, here, most, h.reached)

-- more couplings give windows that include the old ones, and one without an end is without one still
pub windows_grow : WindowsGrow
windows_grow t S T more v = (
  λ w x h i. (begins_grow t S T more v (is_latch (row t.nodes v)) w.begins x.begins h.begins i.begins, ends_grow t S T more v w.ends x.ends h.ends i.ends),
  λ no_end bound. let r = no_end bound in (r.0, refl, omega (arith, ints, r.2, late_grows t S T more v r.0)),
)

-- two windows of a node under one set of couplings include each other
pub windows_are_one : WindowsAreOne
windows_are_one t S v w x h i =
    let there = (windows_grow t S S (λ c lt e. e) v).0 w x h i in
    let back = (windows_grow t S S (λ c lt e. e) v).0 x w i h in
    let begins : w.begins ≡ x.begins = omega (arith, ints, there.0, back.0) in
    let ends : w.ends ≡ x.ends = omega (arith, ints, there.1, back.1) in
    λ j. record { begins = begins j; ends = ends j }

-- a window ends, so that no late figure of a path to its node is past that end
pub windows_end : WindowsEnd
windows_end t S v w h no_end =
    let r = no_end w.ends in
    let most = h.ends.most r.0 refl in
    omega (arith, ints, r.2, most)

-- under sets with the same couplings a path has one late figure
late_same : (t : Table) (S T : ℕ → Bool) → Within (length t.couplings) S T → Within (length t.couplings) T S → (v : ℕ) (p : PathTo t v) → figure (late t T) p ≡ figure (late t S) p
late_same t S T there back v p = omega (arith, ints, late_grows t S T there v p, late_grows t T S back v p)

-- and one early figure
early_same : (t : Table) (S T : ℕ → Bool) → Within (length t.couplings) S T → Within (length t.couplings) T S → (v : ℕ) (p : PathTo t v) → figure (early t T) p ≡ figure (early t S) p
early_same t S T there back v p = omega (arith, ints, early_grows t S T there v p, early_grows t T S back v p)

-- so a window begins where it did
begins_same : (t : Table) (S T : ℕ → Bool) → Within (length t.couplings) S T → Within (length t.couplings) T S → (v : ℕ) (b : Bool) (f : ℤ) → BeginsBy b t S v f → BeginsBy b t T v f
begins_same t S T there back v true f h = h
begins_same t S T there back v false f h =
    record {
      path = h.path;
      picked = h.picked;
      reached = early_same t S T there back v h.path ∙ h.reached;
      least = λ p picked. omega (arith, ints, early_same t S T there back v p, h.least p picked);
    }

-- and ends where it did
ends_same : (t : Table) (S T : ℕ → Bool) → Within (length t.couplings) S T → Within (length t.couplings) T S → (v : ℕ) (f : ℤ) → Ends t S v f → Ends t T v f
ends_same t S T there back v f h =
    record {
      path = h.path;
      picked = h.picked;
      reached = late_same t S T there back v h.path ∙ h.reached;
      most = λ p picked. omega (arith, ints, late_same t S T there back v p, h.most p picked);
    }

-- a window under a set of couplings is one under each set with the same couplings
pub window_same : (t : Table) (S T : ℕ → Bool) → Within (length t.couplings) S T → Within (length t.couplings) T S → (v : ℕ) (w : Window) → IsWindow t S v w → IsWindow t T v w
window_same t S T there back v w h = record { begins = begins_same t S T there back v (is_latch (row t.nodes v)) w.begins h.begins; ends = ends_same t S T there back v w.ends h.ends }
