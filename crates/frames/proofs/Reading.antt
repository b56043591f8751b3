-- How long bytes that are a frame of a kind are.
use Rattle.std.proofs.Common.{◌≡◌, ℕ, ◌*◌, ◌≤◌, true, List, length, drop, arith}
use Rattle.std.proofs.lemmas.Bool.Decides.{nat_tests}
use Rattle.frames.specs.declared.kinds.Kind.{Kind}
use Rattle.frames.specs.Kinds.{item_width, fixed_width}
use Rattle.frames.specs.Frames.{apart, last_field, is_frame}

-- a frame is no shorter than its fixed fields
pub long_enough : (k : Kind) (bs : List ℕ) → is_frame k bs ≡ true → fixed_width k ≤ length bs
long_enough k bs e = grind (arith, nat_tests)

-- it lists as many bytes as its last fixed field says
pub listed_length : (k : Kind) (bs : List ℕ) → is_frame k bs ≡ true → length (drop (fixed_width k) bs) ≡ item_width k * last_field (apart k bs)
listed_length k bs e = grind (arith, nat_tests)
