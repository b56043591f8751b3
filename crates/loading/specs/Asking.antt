-- The call that a frame asks for.
use Rattle.std.specs.Prelude.{◌≡◌, ℕ, ◌*◌, Bool, cond, List, map, Some, None, Ok, Err, Option, Result, slice_index}
use Rattle.std.specs.List.{range_with_len}
use Rattle.refusals.specs.declared.Refusal.{Refusal}
use Rattle.refusals.specs.declared.Refusal.TheVariants.{Order}
use Rattle.schedule.specs.Clock.{Clock}
use Rattle.frames.specs.declared.kinds.Kind.{Kind}
use Rattle.frames.specs.declared.kinds.Kind.TheVariants.{Schedule, Input, Gate, Latch, Feed, Couple, Verify, Seal, Reopen}
use Rattle.frames.specs.Frames.{Content, number_at}
use Rattle.design.specs.declared.calls.Call.{Call}
use Rattle.design.specs.Calls.{Ask, open_with, input, gate, latch, feed, couple, seal, reopen, retime, asked}
use Rattle.reading.specs.Clocks.{clock_in}

-- the number in a fixed field of a frame
abbrev pub field : Content → ℕ → ℕ
field f i = slice_index f.numbers i

-- the sources in the bytes that a gate frame lists, 2 to a source
abbrev pub sources_listed : ℕ → List ℕ → List ℕ
sources_listed count listed = map (λ k. number_at 2 (2 * k) listed) (range_with_len 0 count)

-- a schedule opens a book that is not opened, and retimes an open one
abbrev pub asks_clock : Bool → Clock → Ask
asks_clock opened clock = cond opened (retime clock) (open_with clock)

-- what a frame of a kind asks; a verify asks for no call that makes or changes the table
abbrev pub asks_as : Kind → Bool → Content → Option Ask
asks_as Schedule opened f = Some (asks_clock opened (clock_in (field f 0) (field f 1) (field f 2) f.listed))
asks_as Input opened f = Some (input (field f 0) (field f 1) (field f 2))
asks_as Gate opened f = Some (gate (field f 0) (field f 1) (field f 2) (sources_listed (field f 3) f.listed))
asks_as Latch opened f = Some (latch (field f 0) (field f 1) (field f 2) (field f 3) (field f 4))
asks_as Feed opened f = Some (feed (field f 0) (field f 1))
asks_as Couple opened f = Some (couple (field f 0) (field f 1) (field f 2) (field f 3))
asks_as Verify opened f = None
asks_as Seal opened f = Some seal
asks_as Reopen opened f = Some reopen

-- what a frame asks of a book that is open or not
abbrev pub asks : Bool → Content → Option Ask
asks opened f = asks_as f.kind opened f

-- a frame turned into a call, or refused where it asks for none
abbrev pub AskedBy : Bool → Content → Result Call Refusal → Type 0
AskedBy opened f (Ok c) = asks opened f ≡ Some (asked c)
AskedBy opened f (Err why) = (asks opened f ≡ None) × (why ≡ Order)
