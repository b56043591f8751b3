-- What writing the text of a table does to a buffer.
use Rattle.std.specs.Prelude.{◌≡◌, ℕ, ◌+◌, ◌*◌, Bool, true, false, ◌||◌, List, ◌++◌, length, drop, Ok, Err, Result, nat_lt}
use Rattle.refusals.specs.declared.Refusal.{Refusal}
use Rattle.refusals.specs.declared.Refusal.TheVariants.{Short}
use Rattle.design.specs.Table.{Table, Lent, most_nodes, most_couplings}
use Rattle.design.specs.Tests.{is_short}
use Rattle.loading.specs.Writing.{text_of}

-- The most bytes that a text has: those of the line of a schedule with 16 phases, of a latch and its feed for each node, and of each coupling.
abbrev pub longest_text : ℕ
longest_text = 277 + (48 * most_nodes + 27 * most_couplings)

-- a lent table has fewer rows than are granted, or the buffer fewer bytes than the text
abbrev pub no_room_for : Lent → Table → ℕ → Bool
no_room_for l t room = is_short l t 0 0 || nat_lt room (length (text_of t))

-- a text written into the first places of a buffer, or refused with the buffer as it was
abbrev pub WrittenTo : Lent → Table → List ℕ → List ℕ → Result ℕ Refusal → Type 0
WrittenTo l t old new (Ok n) = (no_room_for l t (length old) ≡ false) × (n ≡ length (text_of t)) × (new ≡ text_of t ++ drop n old)
WrittenTo l t old new (Err why) = (no_room_for l t (length old) ≡ true) × (why ≡ Short) × (new ≡ old)
