-- The lines of frames put behind those that a listing has.
use Rattle.std.specs.Prelude.{◌≡◌, ℕ, ◌+◌, ◌-◌, ◌^◌, ◌<◌, ◌≤◌, min, List, [], ◌++◌, length, take, drop}
use Rattle.frames.specs.Frames.{Content}
use Rattle.design.specs.declared.nodes.Node.{Node}
use Rattle.design.specs.declared.nodes.Node.TheVariants.{Free, Input, Gate, Latch}
use Rattle.design.specs.Rows.{sources_in}
use Rattle.loading.specs.Writing.{lines_for}
use Rattle.listing.specs.declared.lines.Listing.{Listing}

-- the sources that a row's frame lists: those of a gate
abbrev pub gate_sources : Node → List ℕ
gate_sources Free = []
gate_sources (Input phase earliest latest) = []
gate_sources (Gate phase least greatest sources) = sources_in sources
gate_sources (Latch phase least greatest setup hold source) = []

-- the greatest count of bytes; every buffer has fewer
abbrev pub greatest_end : ℕ
greatest_end = 2 ^ 64 - 1

-- where the lines of frames end that are put behind those that a listing has
abbrev pub end_with : List Content → Listing → ℕ
end_with fs s = s.end + length (lines_for fs)

-- The lines of frames put behind those that a listing has: counted up to the greatest count, never past where they end, and written into the same buffer if they end within it.
pub record Appends (fs : List Content) (s t : Listing) : Type 0 where
  pub same_buffer : t.out.ghost_name ≡ s.out.ghost_name
  pub same_length : length t.out.now ≡ length s.out.now
  pub counted : min t.end greatest_end ≡ min (end_with fs s) greatest_end
  pub no_further : t.end ≤ end_with fs s
  pub written : end_with fs s < greatest_end → end_with fs s ≤ length s.out.now → t.out.now ≡ take s.end s.out.now ++ (lines_for fs ++ drop (end_with fs s) s.out.now)
