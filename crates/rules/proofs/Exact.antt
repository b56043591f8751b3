-- Sums in 128 bits of a few numbers of 64 bits are exact.
use Rattle.std.proofs.Common.{◌≡◌, ℕ, ◌<◌, ◌^◌, ℤ, pos, ◌+ℤ◌, ◌-ℤ◌, refl, arith, FitsSigned, to_z, of_z, w64}
use mir.Syntax.{w128}
use Rattle.std.specs.Prelude.{int_le, int_lt}
use Rattle.std.specs.Int.{int_max, int_min}
use Rattle.std.proofs.lemmas.Int.{ints, clamps}

-- a number as 128 bits keep it
abbrev pub kept : ℤ → ℤ
kept z = to_z w128 (of_z w128 z)

-- a number of 64 bits is kept
alone : (x : ℤ) → FitsSigned w64 x → kept x ≡ x
alone x f = omega (arith, ints)

-- so is the difference of two
difference : (x y : ℤ) → FitsSigned w64 x → FitsSigned w64 y → kept (kept x -ℤ kept y) ≡ x -ℤ y
difference x y f g = omega (arith, ints)

-- a number more or less an unsigned one of 32 bits
more : (x : ℤ) (n : ℕ) → FitsSigned w64 x → n < 2 ^ 32 → kept (kept x +ℤ kept (pos n)) ≡ x +ℤ pos n
more x n f h = omega (arith, ints)

less : (x : ℤ) (n : ℕ) → FitsSigned w64 x → n < 2 ^ 32 → kept (kept x -ℤ kept (pos n)) ≡ x -ℤ pos n
less x n f h = omega (arith, ints)

-- a difference more or less such a one
difference_more : (x y : ℤ) (n : ℕ) → FitsSigned w64 x → FitsSigned w64 y → n < 2 ^ 32 → kept (kept (kept x -ℤ kept y) +ℤ kept (pos n)) ≡ x -ℤ y +ℤ pos n
difference_more x y n f g h = omega (arith, ints)

difference_less : (x y : ℤ) (n : ℕ) → FitsSigned w64 x → FitsSigned w64 y → n < 2 ^ 32 → kept (kept (kept x -ℤ kept y) -ℤ kept (pos n)) ≡ x -ℤ y -ℤ pos n
difference_less x y n f g h = omega (arith, ints)

-- the greatest of a number and a difference
pub greatest : (x y z : ℤ) → FitsSigned w64 x → FitsSigned w64 y → FitsSigned w64 z → kept (int_max (kept x) (kept (kept y -ℤ kept z))) ≡ int_max x (y -ℤ z)
greatest x y z f g h = omega (arith, ints, clamps)

-- the least of them, more an unsigned number
pub least_more : (x y z : ℤ) (n : ℕ) → FitsSigned w64 x → FitsSigned w64 y → FitsSigned w64 z → n < 2 ^ 32 → kept (kept (int_min (kept x) (kept (kept y -ℤ kept z))) +ℤ kept (pos n)) ≡ int_min x (y -ℤ z) +ℤ pos n
least_more x y z n f g h i = omega (arith, ints, clamps)

-- whether the following occurrence begins in time
pub following_begins : (x y z : ℤ) (m n : ℕ) → FitsSigned w64 x → FitsSigned w64 y → FitsSigned w64 z → m < 2 ^ 32 → n < 2 ^ 32 → int_le (kept (kept (kept x -ℤ kept y) +ℤ kept (pos m))) (kept (kept z +ℤ kept (pos n))) ≡ int_le (x -ℤ y +ℤ pos m) (z +ℤ pos n)
following_begins x y z m n f g h i j = rw (difference_more x y m f g i, more z n h j) refl

pub begins_before : (x y z : ℤ) → FitsSigned w64 x → FitsSigned w64 y → FitsSigned w64 z → int_lt (kept (kept x -ℤ kept y)) (kept z) ≡ int_lt (x -ℤ y) z
begins_before x y z f g h = rw (difference x y f g, alone z h) refl

-- whether the previous occurrence ends late enough
pub previous_ends : (x y z : ℤ) (m n : ℕ) → FitsSigned w64 x → FitsSigned w64 y → FitsSigned w64 z → m < 2 ^ 32 → n < 2 ^ 32 → int_le (kept (kept z -ℤ kept (pos n))) (kept (kept (kept x -ℤ kept y) -ℤ kept (pos m))) ≡ int_le (z -ℤ pos n) (x -ℤ y -ℤ pos m)
previous_ends x y z m n f g h i j = rw (difference_less x y m f g i, less z n h j) refl

pub ends_after : (x y z : ℤ) → FitsSigned w64 x → FitsSigned w64 y → FitsSigned w64 z → int_le (kept z) (kept (kept x -ℤ kept y)) ≡ int_le z (x -ℤ y)
ends_after x y z f g h = rw (difference x y f g, alone z h) refl
