-- What a frame of the code says, and what reading and writing one answer.
use Rattle.std.specs.Prelude.{◌≡◌, ℕ, cond, not, List, [], ◌∷◌, ◌++◌, length, take, drop, Some, None, Ok, Err, Option, Result, nat_lt}
use Rattle.refusals.specs.declared.Refusal.{Refusal}
use Rattle.refusals.specs.declared.Refusal.TheVariants.{Short, Frame as FrameRefusal}
use Rattle.frames.specs.declared.Frame.{Frame}
use Rattle.frames.specs.declared.Frame.TheVariants.{Schedule, Input, Gate, Latch, Feed, Couple, Verify, Seal, Reopen}
use Rattle.frames.specs.declared.kinds.Kind.{Kind}
use Rattle.frames.specs.declared.kinds.Kind.TheVariants.{Schedule as ScheduleKind, Input as InputKind, Gate as GateKind, Latch as LatchKind, Feed as FeedKind, Couple as CoupleKind, Verify as VerifyKind, Seal as SealKind, Reopen as ReopenKind}
use Rattle.frames.specs.declared.NotAFrame.{NotAFrame}
use Rattle.frames.specs.Rules.{rule_byte}
use Rattle.frames.specs.Frames.{Content, frame_as, frame_of, is_whole, encode}

-- the fields of a frame, in the order of the format
abbrev pub content_of : Frame → Content
content_of (Schedule period proximity count phases) = record { kind = ScheduleKind; numbers = period ∷ proximity ∷ count ∷ []; listed = phases.now }
content_of (Input phase earliest latest) = record { kind = InputKind; numbers = phase ∷ earliest ∷ latest ∷ []; listed = [] }
content_of (Gate phase least greatest count sources) = record { kind = GateKind; numbers = phase ∷ least ∷ greatest ∷ count ∷ []; listed = sources.now }
content_of (Latch phase least greatest setup hold) = record { kind = LatchKind; numbers = phase ∷ least ∷ greatest ∷ setup ∷ hold ∷ []; listed = [] }
content_of (Feed latch source) = record { kind = FeedKind; numbers = latch ∷ source ∷ []; listed = [] }
content_of (Couple victim aggressor assisting opposing) = record { kind = CoupleKind; numbers = victim ∷ aggressor ∷ assisting ∷ opposing ∷ []; listed = [] }
content_of (Verify rule) = record { kind = VerifyKind; numbers = rule_byte rule ∷ []; listed = [] }
content_of Seal = record { kind = SealKind; numbers = []; listed = [] }
content_of Reopen = record { kind = ReopenKind; numbers = []; listed = [] }

-- bytes read as a frame of a kind
abbrev pub ReadAs : Option Kind → List ℕ → Result Frame NotAFrame → Type 0
ReadAs k bs (Ok f) = frame_as k bs ≡ Some (content_of f)
ReadAs k bs (Err e) = frame_as k bs ≡ None

-- bytes read as the frame that they are, which is written as these bytes again
abbrev pub Read : List ℕ → Result Frame NotAFrame → Type 0
Read bs (Ok f) = (frame_of bs ≡ Some (content_of f)) × (encode (content_of f) ≡ bs)
Read bs (Err e) = frame_of bs ≡ None

-- how many phases or sources a frame says that it lists
abbrev pub count_of : Frame → ℕ
count_of (Schedule period proximity count phases) = count
count_of (Input phase earliest latest) = 0
count_of (Gate phase least greatest count sources) = count
count_of (Latch phase least greatest setup hold) = 0
count_of (Feed latch source) = 0
count_of (Couple victim aggressor assisting opposing) = 0
count_of (Verify rule) = 0
count_of Seal = 0
count_of Reopen = 0

-- why a frame cannot be written into so many bytes: it lists another number than it says, or there is no room
abbrev pub unwritten : Content → ℕ → Option Refusal
unwritten f room = cond (not (is_whole f)) (Some FrameRefusal) (cond (nat_lt room (length (encode f))) (Some Short) None)

-- a written frame stands in the first places, reads back as itself, and leaves the others as they were
abbrev pub Written : Content → List ℕ → List ℕ → Result ℕ Refusal → Type 0
Written f old new (Ok n) = (unwritten f (length old) ≡ None) × (n ≡ length (encode f)) × (new ≡ encode f ++ drop n old) × (frame_of (take n new) ≡ Some f)
Written f old new (Err e) = (unwritten f (length old) ≡ Some e) × (new ≡ old)
