-- The frames of a table are whole, and how many bytes each has, with its line; and so how many those of all rows and couplings have.
use Rattle.std.proofs.Common.{◌≡◌, ℕ, ◌+◌, ◌*◌, ◌≤◌, true, cond, not, ltb, List, [], ◌∷◌, ◌++◌, map, length, get_or, Some, None, sym, ap, ◌∙◌, subst, arith}
use Rattle.std.specs.List.{All, flat_map, range_with_len}
use Rattle.std.proofs.lemmas.List.{length-append, append-nil}
use Rattle.std.proofs.lemmas.List.Elements.{All-head, All-tail}
use Rattle.std.proofs.lemmas.List.FromFn.{length-range_with_len}
use Rattle.std.proofs.lemmas.Grind.{flat_map-append}
use Rattle.std.proofs.lemmas.Bool.{cond-false, le-ltb}
use Rattle.std.proofs.lemmas.Bool.Decides.{nat_tests}
use Rattle.refusals.specs.declared.Refusal.TheVariants.{Short, Frame as FrameRefusal}
use Rattle.schedule.specs.Clock.{Clock}
use Rattle.text.proofs.Spelled.{length_line}
use Rattle.frames.specs.Frames.{Content, bytes_in, encode, is_whole}
use Rattle.frames.specs.Contents.{unwritten}
use Rattle.frames.proofs.Writing.{bytes_in-length}
use Rattle.design.specs.declared.nodes.Node.{Node}
use Rattle.design.specs.declared.nodes.Node.TheVariants.{Free, Input, Gate, Latch}
use Rattle.design.specs.declared.couplings.Coupling.{Coupling}
use Rattle.design.specs.Rows.{sources_in}
use Rattle.loading.specs.Writing.{phase_bytes, schedule_frame, node_frame, feed_frame, feed_frames, couple_frame, line_of, lines_for}
use Rattle.loading.proofs.Items.{length_items}
use Rattle.listing.specs.Appending.{gate_sources}

-- whole, and no longer than so many bytes
abbrev pub Within : ℕ → Content → Type 0
Within n f = (is_whole f ≡ true) × (length (encode f) ≤ n)

-- each frame of a list is so
abbrev pub EachWithin : ℕ → List Content → Type 0
EachWithin n [] = Unit {0}
EachWithin n (f ∷ fs) = Within n f × EachWithin n fs

-- the one frame of a list
pub one_within : (n : ℕ) (f : Content) (fs : List Content) → f ∷ [] ≡ fs → EachWithin n fs → Within n f
one_within n f fs same each = (subst (EachWithin n) (sym same) each).0

-- no more than a gate has
abbrev pub FewSources : Node → Type 0
FewSources x = length (gate_sources x) ≤ 4

-- the line of one frame
pub line_length : (f : Content) → length (lines_for (f ∷ [])) ≡ 2 * length (encode f) + 1
line_length f = omega (arith, ap length (append-nil (line_of f)), length_line (encode f))

-- the bytes of one line at most
line_within : (n : ℕ) (f : Content) → Within n f → length (lines_for (f ∷ [])) ≤ 2 * n + 1
line_within n f h = omega (arith, line_length f, h.1)

-- the bytes of at most one line
lines_within : (n : ℕ) (fs : List Content) → EachWithin n fs → length fs ≤ 1 → length (lines_for fs) ≤ 2 * n + 1
lines_within n [] each one = omega arith
lines_within n (f ∷ []) each one = line_within n f each.0
lines_within n (f ∷ (g ∷ fs)) each one = absurd (omega arith)

-- the frame of a row with at most four sources
pub node_within : (x : Node) → FewSources x → EachWithin 19 (node_frame x)
node_within Free few = tt
node_within (Input phase earliest latest) few = ((grind (arith, nat_tests), omega arith), tt)
node_within (Gate phase least greatest sources) few =
    let len = length_items (bytes_in 2) 2 (sources_in sources) (bytes_in-length 2) in
    ((grind (arith, nat_tests), omega arith), tt)
node_within (Latch phase least greatest setup hold source) few = ((grind (arith, nat_tests), omega arith), tt)

-- it has one frame at most
node_one : (x : Node) → length (node_frame x) ≤ 1
node_one Free = omega arith
node_one (Input phase earliest latest) = omega arith
node_one (Gate phase least greatest sources) = omega arith
node_one (Latch phase least greatest setup hold source) = omega arith

-- and its line
pub node_lines : (x : Node) → FewSources x → length (lines_for (node_frame x)) ≤ 39
node_lines x few = lines_within 19 (node_frame x) (node_within x few) (node_one x)

-- the frame that feeds a latch, if any
pub feed_within : (k : ℕ) (x : Node) → EachWithin 5 (feed_frame k x)
feed_within k Free = tt
feed_within k (Input phase earliest latest) = tt
feed_within k (Gate phase least greatest sources) = tt
feed_within k (Latch phase least greatest setup hold None) = tt
feed_within k (Latch phase least greatest setup hold (Some source)) = ((grind (arith, nat_tests), omega arith), tt)

-- a row has one at most
feed_one : (k : ℕ) (x : Node) → length (feed_frame k x) ≤ 1
feed_one k Free = omega arith
feed_one k (Input phase earliest latest) = omega arith
feed_one k (Gate phase least greatest sources) = omega arith
feed_one k (Latch phase least greatest setup hold None) = omega arith
feed_one k (Latch phase least greatest setup hold (Some source)) = omega arith

-- and its line
pub feed_lines : (k : ℕ) (x : Node) → length (lines_for (feed_frame k x)) ≤ 11
feed_lines k x = lines_within 5 (feed_frame k x) (feed_within k x) (feed_one k x)

-- A row and its feed: only a latch has one, and its own frame is shorter than the longest of a gate.
pub fed_lines : (k : ℕ) (x : Node) → FewSources x → length (lines_for (node_frame x)) + length (lines_for (feed_frame k x)) ≤ 48
fed_lines k Free few = omega arith
fed_lines k (Input phase earliest latest) few = omega (arith, node_lines (Input phase earliest latest) few)
fed_lines k (Gate phase least greatest sources) few = omega (arith, node_lines (Gate phase least greatest sources) few)
fed_lines k (Latch phase least greatest setup hold source) few =
    omega (arith, feed_lines k (Latch phase least greatest setup hold source), lines_within 18 (node_frame (Latch phase least greatest setup hold source)) ((grind (arith, nat_tests), omega arith), tt) (node_one (Latch phase least greatest setup hold source)))

-- the frame of a coupling
pub couple_within : (k : Coupling) → Within 13 (couple_frame k)
couple_within k = (grind (arith, nat_tests), omega arith)

-- and its line
pub couple_lines : (k : Coupling) → length (lines_for (couple_frame k ∷ [])) ≤ 27
couple_lines k = line_within 13 (couple_frame k) (couple_within k)

-- a phase takes eight bytes
phase_length : (c : Clock) (k : ℕ) → length (phase_bytes c k) ≡ 8
phase_length c k =
    let s = get_or c.starts k 0 in
    let w = get_or c.widths k 0 in
    omega (arith, length-append (bytes_in 4 s) (bytes_in 4 w), bytes_in-length 4 s, bytes_in-length 4 w)

-- the frame of a schedule with at most sixteen phases
pub schedule_within : (c : Clock) → c.phases ≤ 16 → Within 138 (schedule_frame c)
schedule_within c few =
    let phases = range_with_len 0 c.phases in
    let len : length (schedule_frame c).listed ≡ 8 * c.phases = omega (arith, length_items (phase_bytes c) 8 phases (phase_length c), length-range_with_len 0 c.phases) in
    (grind (arith, nat_tests), omega arith)

-- and its line
pub schedule_lines : (c : Clock) → c.phases ≤ 16 → length (lines_for (schedule_frame c ∷ [])) ≤ 277
schedule_lines c few = line_within 138 (schedule_frame c) (schedule_within c few)

-- a frame that is whole and fits the room is written
pub written_within : (f : Content) (room : ℕ) → Within room f → unwritten f room ≡ None
written_within f room h =
    cond-false (not (is_whole f)) (Some FrameRefusal) (cond (ltb room (length (encode f))) (Some Short) None) (ap not h.0)
    ∙ cond-false (ltb room (length (encode f))) (Some Short) None (le-ltb room (length (encode f)) h.1)

-- the lines of frames and of others behind them
lines_append : (fs gs : List Content) → length (lines_for (fs ++ gs)) ≡ length (lines_for fs) + length (lines_for gs)
lines_append fs gs = ap length (flat_map-append line_of fs gs) ∙ length-append (lines_for fs) (lines_for gs)

-- the lines of rows
pub nodes_lines : (xs : List Node) → All FewSources xs → length (lines_for (flat_map node_frame xs)) ≤ 39 * length xs
nodes_lines [] few = omega arith
nodes_lines (x ∷ xs) few =
    omega (arith, lines_append (node_frame x) (flat_map node_frame xs), node_lines x (All-head FewSources x xs few), nodes_lines xs (All-tail FewSources x xs few))

-- the lines of feeds
pub feeds_lines : (k : ℕ) (xs : List Node) → length (lines_for (feed_frames k xs)) ≤ 11 * length xs
feeds_lines k [] = omega arith
feeds_lines k (x ∷ xs) = omega (arith, lines_append (feed_frame k x) (feed_frames (k + 1) xs), feed_lines k x, feeds_lines (k + 1) xs)

-- the lines of rows and of their feeds
pub rows_lines : (k : ℕ) (xs : List Node) → All FewSources xs → length (lines_for (flat_map node_frame xs)) + length (lines_for (feed_frames k xs)) ≤ 48 * length xs
rows_lines k [] few = omega arith
rows_lines k (x ∷ xs) few =
    omega (arith, lines_append (node_frame x) (flat_map node_frame xs), lines_append (feed_frame k x) (feed_frames (k + 1) xs), fed_lines k x (All-head FewSources x xs few), rows_lines (k + 1) xs (All-tail FewSources x xs few))

-- the lines of couplings
pub couplings_lines : (ks : List Coupling) → length (lines_for (map couple_frame ks)) ≤ 27 * length ks
couplings_lines [] = omega arith
couplings_lines (k ∷ ks) = omega (arith, lines_append (couple_frame k ∷ []) (map couple_frame ks), couple_lines k, couplings_lines ks)
