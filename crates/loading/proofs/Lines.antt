-- The numbers of an encoded frame each fit a byte.
use Rattle.std.proofs.Common.{ℕ, zero, suc, ◌/◌, ◌^◌, ◌<◌, List, [], ◌∷◌, ◌++◌, mod-lt, arith}
use Rattle.text.proofs.Spelled.{Bytes}
use Rattle.frames.specs.declared.kinds.Kind.{Kind}
use Rattle.frames.specs.Kinds.{byte_of, widths}
use Rattle.frames.specs.Frames.{Content, bytes_in, join, encode}

-- bytes behind bytes are bytes
pub bytes_append : (xs ys : List ℕ) → Bytes xs → Bytes ys → Bytes (xs ++ ys)
bytes_append [] ys hx hy = hy
bytes_append (x ∷ xs) ys hx hy = (hx.0, bytes_append xs ys hx.1 hy)

-- a number in bytes is bytes
pub bytes_in_lem : (w x : ℕ) → Bytes (bytes_in w x)
bytes_in_lem zero x = tt
bytes_in_lem (suc w) x = (mod-lt (x / 256 ^ w) (omega arith), bytes_in_lem w x)

-- so are numbers in fields
bytes_join : (ws xs : List ℕ) → Bytes (join ws xs)
bytes_join [] xs = tt
bytes_join (w ∷ ws) [] = tt
bytes_join (w ∷ ws) (x ∷ xs) = bytes_append (bytes_in w x) (join ws xs) (bytes_in_lem w x) (bytes_join ws xs)

-- the first byte of each kind is one
byte_kind : (k : Kind) → byte_of k < 256
byte_kind k = grind arith

-- a frame in bytes is bytes, where what it lists is
pub bytes_encode : (f : Content) → Bytes f.listed → Bytes (encode f)
bytes_encode f h = (byte_kind f.kind, bytes_append (join (widths f.kind) f.numbers) f.listed (bytes_join (widths f.kind) f.numbers) h)
