-- The frame of a line: its digits are tested first, then its bytes are taken apart.
use Rattle.std.specs.Prelude.{◌≡◌, ℕ, cond, List, Some, None, Ok, Err, Option, Result}
use Rattle.refusals.specs.declared.Refusal.{Refusal}
use Rattle.refusals.specs.declared.Refusal.TheVariants.{Digits, Frame as FrameRefusal}
use Rattle.text.specs.Digits.{is_hex, bytes_of}
use Rattle.frames.specs.declared.Frame.{Frame}
use Rattle.frames.specs.Frames.{Content, frame_of}
use Rattle.frames.specs.Contents.{content_of}

-- bytes that are no frame are refused
abbrev pub frame_or_refused : Option Content → Result Content Refusal
frame_or_refused None = Err FrameRefusal
frame_or_refused (Some f) = Ok f

-- the frame of a line, or why it has none
abbrev pub line_frame : List ℕ → Result Content Refusal
line_frame line = cond (is_hex line) (frame_or_refused (frame_of (bytes_of line))) (Err Digits)

-- reading a line answers its frame, or why it has none
abbrev pub LineRead : List ℕ → Result Frame Refusal → Type 0
LineRead line (Ok f) = line_frame line ≡ Ok (content_of f)
LineRead line (Err why) = line_frame line ≡ Err why
