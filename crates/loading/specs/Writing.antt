-- The text that is written for a table: its schedule, its nodes, the feeds of its latches, its couplings.
use Rattle.std.specs.Prelude.{ℕ, ◌+◌, List, [], ◌∷◌, ◌++◌, map, length, Some, None, slice_index}
use Rattle.std.specs.List.{flat_map, range_with_len}
use Rattle.schedule.specs.Clock.{Clock}
use Rattle.text.specs.Spelling.{line_for}
use Rattle.frames.specs.declared.kinds.Kind.TheVariants.{Schedule as ScheduleKind, Input as InputKind, Gate as GateKind, Latch as LatchKind, Feed as FeedKind, Couple as CoupleKind}
use Rattle.frames.specs.Frames.{Content, bytes_in, encode}
use Rattle.design.specs.declared.nodes.Node.{Node}
use Rattle.design.specs.declared.nodes.Node.TheVariants.{Free, Input, Gate, Latch}
use Rattle.design.specs.declared.couplings.Coupling.{Coupling}
use Rattle.design.specs.Rows.{sources_in}
use Rattle.design.specs.Table.{Table}

-- the start and the width of a clock's phase in bytes; phases count from 0 here
abbrev pub phase_bytes : Clock → ℕ → List ℕ
phase_bytes c k = bytes_in 4 (slice_index c.starts k) ++ bytes_in 4 (slice_index c.widths k)

-- a schedule frame
abbrev pub schedule_frame : Clock → Content
schedule_frame c = record { kind = ScheduleKind; numbers = c.period ∷ c.proximity ∷ c.phases ∷ []; listed = flat_map (phase_bytes c) (range_with_len 0 c.phases) }

-- the frame of a node's row; a free row has none
abbrev pub node_frame : Node → List Content
node_frame Free = []
node_frame (Input phase earliest latest) = record { kind = InputKind; numbers = phase ∷ earliest ∷ latest ∷ []; listed = [] } ∷ []
node_frame (Gate phase least greatest sources) = record { kind = GateKind; numbers = phase ∷ least ∷ greatest ∷ length (sources_in sources) ∷ []; listed = flat_map (bytes_in 2) (sources_in sources) } ∷ []
node_frame (Latch phase least greatest setup hold source) = record { kind = LatchKind; numbers = phase ∷ least ∷ greatest ∷ setup ∷ hold ∷ []; listed = [] } ∷ []

-- the frame that feeds the latch of this number; a latch without a source has none
abbrev pub feed_frame : ℕ → Node → List Content
feed_frame k Free = []
feed_frame k (Input phase earliest latest) = []
feed_frame k (Gate phase least greatest sources) = []
feed_frame k (Latch phase least greatest setup hold None) = []
feed_frame k (Latch phase least greatest setup hold (Some source)) = record { kind = FeedKind; numbers = k ∷ source ∷ []; listed = [] } ∷ []

-- the feeds of nodes that are numbered from k on
abbrev pub feed_frames : ℕ → List Node → List Content
feed_frames k [] = []
feed_frames k (x ∷ xs) = feed_frame k x ++ feed_frames (k + 1) xs

-- a coupling's frame
abbrev pub couple_frame : Coupling → Content
couple_frame k = record { kind = CoupleKind; numbers = k.victim ∷ k.aggressor ∷ k.assisting ∷ k.opposing ∷ []; listed = [] }

-- the frames of a table
abbrev pub frames_of : Table → List Content
frames_of t = schedule_frame t.clock ∷ (flat_map node_frame t.nodes ++ (feed_frames 0 t.nodes ++ map couple_frame t.couplings))

-- a frame as a line, with its line feed
abbrev pub line_of : Content → List ℕ
line_of f = line_for (encode f)

-- frames as lines one after another
abbrev pub lines_for : List Content → List ℕ
lines_for fs = flat_map line_of fs

-- the text of a table
abbrev pub text_of : Table → List ℕ
text_of t = lines_for (frames_of t)
