-- The fixed fields of the two longest kinds.
use Rattle.std.proofs.Common.{◌≡◌, ℕ, List, ◌∷◌, ◌++◌, ◌%◌, length, drop, refl, div-one, arith}
use Rattle.frames.specs.declared.Frame.{Frame}
use Rattle.frames.specs.declared.kinds.Form.{Form}
use Rattle.frames.specs.Kinds.{widths, fixed_width, form_of}
use Rattle.frames.specs.Frames.{join, fields_of}
use Rattle.frames.specs.Contents.{content_of}
use Rattle.frames.proofs.write.put_fields.Goals as goal

-- the fields of a frame that is known, at the front of a buffer
put_at : (frame g : Frame) (form : Form) (rest old new : List ℕ) → frame ≡ g → form ≡ form_of (content_of frame).kind → new ≡ form.byte ∷ (rest ++ drop (length (form.byte ∷ rest)) old) → length (fields_of (content_of g)) ≡ fixed_width (content_of g).kind → rest ≡ join (widths (content_of g).kind) (content_of g).numbers → new ≡ fields_of (content_of frame) ++ drop (fixed_width (content_of frame).kind) old
put_at frame g form rest old new is f put wide e = cc

pub returns-in-Latch-clause-after : goal.returns-in-Latch-clause-after
returns-in-Latch-clause-after c =
    let phase : c.in-Latch.phase % 256 ≡ c.in-Latch.phase = omega arith in
    put_at c.args.frame.now _ c.args.form _ c.args.out.now c.put-in-Latch.new.out c.in-Latch.is c.requires.form c.put-in-Latch.ensures refl
    (simp (c.to_be_bytes-in-Latch.ensures, c.to_be_bytes-in-Latch-2.ensures, c.to_be_bytes-in-Latch-3.ensures, c.to_be_bytes-in-Latch-4.ensures, c.to_be_bytes-in-Latch-5.ensures, div-one, phase))

pub returns-in-Couple-clause-after : goal.returns-in-Couple-clause-after
returns-in-Couple-clause-after c =
    put_at c.args.frame.now _ c.args.form _ c.args.out.now c.put-in-Couple.new.out c.in-Couple.is c.requires.form c.put-in-Couple.ensures refl
    (simp (c.to_be_bytes-in-Couple.ensures, c.to_be_bytes-in-Couple-2.ensures, c.to_be_bytes-in-Couple-3.ensures, c.to_be_bytes-in-Couple-4.ensures, div-one))
