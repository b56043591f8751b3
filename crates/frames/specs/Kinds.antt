-- The kinds of frame: first byte, fields in order with their widths in bytes, and what a kind lists.
use Rattle.std.specs.Prelude.{ℕ, ◌+◌, List, [], ◌∷◌, map, Option, Result, ok_or, option_map, ◌==◌}
use Rattle.std.specs.List.{find}
use Rattle.frames.specs.declared.NotAFrame.{NotAFrame}
use Rattle.frames.specs.declared.kinds.Kind.{Kind}
use Rattle.frames.specs.declared.kinds.Kind.TheVariants.{Schedule, Input, Gate, Latch, Feed, Couple, Verify, Seal, Reopen}
use Rattle.frames.specs.declared.kinds.Form.{Form}

-- the first byte of each kind
abbrev pub byte_of : Kind → ℕ
byte_of Schedule = 1
byte_of Input = 2
byte_of Gate = 3
byte_of Latch = 4
byte_of Feed = 5
byte_of Couple = 6
byte_of Verify = 7
byte_of Seal = 8
byte_of Reopen = 9

-- the widths in bytes of a kind's fixed fields, in their order
abbrev pub widths : Kind → List ℕ
widths Schedule = 4 ∷ 4 ∷ 1 ∷ []
widths Input = 1 ∷ 4 ∷ 4 ∷ []
widths Gate = 1 ∷ 4 ∷ 4 ∷ 1 ∷ []
widths Latch = 1 ∷ 4 ∷ 4 ∷ 4 ∷ 4 ∷ []
widths Feed = 2 ∷ 2 ∷ []
widths Couple = 2 ∷ 2 ∷ 4 ∷ 4 ∷ []
widths Verify = 1 ∷ []
widths Seal = []
widths Reopen = []

-- a schedule goes on with its phases, 8 bytes each, and a gate with its sources, 2 bytes each
abbrev pub item_width : Kind → ℕ
item_width Schedule = 8
item_width Input = 0
item_width Gate = 2
item_width Latch = 0
item_width Feed = 0
item_width Couple = 0
item_width Verify = 0
item_width Seal = 0
item_width Reopen = 0

-- widths, summed
abbrev pub total : List ℕ → ℕ
total [] = 0
total (w ∷ ws) = w + total ws

-- the bytes of a frame before what it lists: its kind and its fixed fields
abbrev pub fixed_width : Kind → ℕ
fixed_width k = 1 + total (widths k)

-- the row of a kind in the table of kinds
abbrev pub form_of : Kind → Form
form_of k = record { kind = k; byte = byte_of k; fixed = fixed_width k; item = item_width k }

-- the table of kinds
abbrev pub forms : List Form
forms = map form_of (Schedule ∷ Input ∷ Gate ∷ Latch ∷ Feed ∷ Couple ∷ Verify ∷ Seal ∷ Reopen ∷ [])

-- the kind of the first form that begins with a byte
abbrev pub kind_in : List Form → ℕ → Option Kind
kind_in fs b = option_map (λ f. f.kind) (find (λ f. f.byte == b) fs)

-- the kind that a byte stands for, if any
abbrev pub kind_of : ℕ → Option Kind
kind_of b = kind_in forms b

-- a byte read as a kind
abbrev pub kind_read : ℕ → Result Kind NotAFrame
kind_read b = ok_or (kind_of b) (record {})
