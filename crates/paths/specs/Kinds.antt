-- Kinds of delay: what is carried along paths, and how what comes to a node along several of them is joined.
use Rattle.std.specs.Prelude.{◌≡◌, Bool, List, [], ◌∷◌}

-- A kind of delay has figures F and steps S. Its mark stands for a node without a path.
pub record Kind (F S : Type 0) : Type 0 where
  pub no_path : F
  pub join : F → F → F
  pub step : F → S → F

-- The laws of a kind: a join ignores the mark, and a step keeps it; order and repetition do not matter to a join; a step taken before joining gives what it gives after.
pub record Lawful {F S : Type 0} (kind : Kind F S) : Type 0 where
  pub ignores : (x : F) → kind.join x kind.no_path ≡ x
  pub keeps : (s : S) → kind.step kind.no_path s ≡ kind.no_path
  pub swaps : (x y : F) → kind.join x y ≡ kind.join y x
  pub regroups : (x y z : F) → kind.join (kind.join x y) z ≡ kind.join x (kind.join y z)
  pub repeats : (x : F) → kind.join x x ≡ x
  pub steps_before : (x y : F) (s : S) → kind.step (kind.join x y) s ≡ kind.join (kind.step x s) (kind.step y s)

-- all figures of a list joined into one
abbrev pub joined : {F S : Type 0} → Kind F S → List F → F
joined kind [] = kind.no_path
joined kind (f ∷ fs) = kind.join f (joined kind fs)

-- What a kind of delay does at a latch between two sweeps, of what the latch started from and what came to it: what it starts from next, whether that is more, and what it starts from where whatever still climbs has no end.
pub record Restarts (F : Type 0) : Type 0 where
  pub restart : F → F → F
  pub climbs : F → F → Bool
  pub without_end : F → F → F
