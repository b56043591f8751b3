-- Frames as bytes: a kind, its fixed fields, and what the frame lists.
use Rattle.std.specs.Prelude.{ℕ, zero, suc, ◌+◌, ◌-◌, ◌*◌, ◌/◌, ◌%◌, ◌^◌, ◌<◌, Bool, true, cond, ◌&&◌, List, [], ◌∷◌, ◌++◌, length, drop, is_some, Some, None, Option, ◌==◌, nat_le, slice_index}
use Rattle.frames.specs.declared.kinds.Kind.{Kind}
use Rattle.frames.specs.declared.kinds.Kind.TheVariants.{Schedule, Input, Gate, Latch, Feed, Couple, Verify, Seal, Reopen}
use Rattle.frames.specs.Kinds.{byte_of, widths, item_width, fixed_width, kind_of}
use Rattle.frames.specs.Rules.{rule_of}

-- a frame's content: the numbers in its fixed fields, and the bytes of the phases or sources that it lists
pub record Content : Type 0 where
  pub kind : Kind
  pub numbers : List ℕ
  pub listed : List ℕ

-- a number in w bytes, the highest first
abbrev pub bytes_in : ℕ → ℕ → List ℕ
bytes_in zero x = []
bytes_in (suc w) x = (x / 256 ^ w % 256) ∷ bytes_in w x

-- the number in the w bytes from a place on
abbrev pub number_at : ℕ → ℕ → List ℕ → ℕ
number_at zero place bs = 0
number_at (suc w) place bs = slice_index bs place * 256 ^ w + number_at w (place + 1) bs

-- numbers in fields of these widths, one after another
abbrev pub join : List ℕ → List ℕ → List ℕ
join [] xs = []
join (w ∷ ws) [] = []
join (w ∷ ws) (x ∷ xs) = bytes_in w x ++ join ws xs

-- there is a number for each field, and it fits
abbrev pub Fit : List ℕ → List ℕ → Type 0
Fit [] [] = Unit {0}
Fit [] (x ∷ xs) = ⊥
Fit (w ∷ ws) [] = ⊥
Fit (w ∷ ws) (x ∷ xs) = (x < 256 ^ w) × Fit ws xs

-- the numbers in the fields of these widths from a place on
abbrev pub cut : List ℕ → ℕ → List ℕ → List ℕ
cut [] place bs = []
cut (w ∷ ws) place bs = number_at w place bs ∷ cut ws (place + w) bs

-- a frame's kind and fixed fields in bytes
abbrev pub fields_of : Content → List ℕ
fields_of f = byte_of f.kind ∷ join (widths f.kind) f.numbers

-- a frame in bytes
abbrev pub encode : Content → List ℕ
encode f = fields_of f ++ f.listed

-- the last fixed field, which counts what a schedule or a gate lists
abbrev pub last_field : Content → ℕ
last_field f = slice_index f.numbers (length (widths f.kind) - 1)

-- only a verify has a field that not every number suits: its rule
abbrev pub known_rule : Kind → List ℕ → Bool
known_rule Schedule xs = true
known_rule Input xs = true
known_rule Gate xs = true
known_rule Latch xs = true
known_rule Feed xs = true
known_rule Couple xs = true
known_rule Verify xs = is_some (rule_of (slice_index xs 0))
known_rule Seal xs = true
known_rule Reopen xs = true

-- a frame lists as many bytes as it says, and names a rule that there is
abbrev pub is_whole : Content → Bool
is_whole f = length f.listed == item_width f.kind * last_field f && known_rule f.kind f.numbers

-- bytes taken apart as a frame of a kind
abbrev pub apart : Kind → List ℕ → Content
apart k bs = record { kind = k; numbers = cut (widths k) 1 bs; listed = drop (fixed_width k) bs }

-- long enough for the fixed fields, and whole
abbrev pub is_frame : Kind → List ℕ → Bool
is_frame k bs = nat_le (fixed_width k) (length bs) && is_whole (apart k bs)

-- the frame that bytes are as a kind, if they are one
abbrev pub frame_as : Option Kind → List ℕ → Option Content
frame_as None bs = None
frame_as (Some k) bs = cond (is_frame k bs) (Some (apart k bs)) None

-- the frame that bytes are, if any
abbrev pub frame_of : List ℕ → Option Content
frame_of bs = frame_as (kind_of (slice_index bs 0)) bs
