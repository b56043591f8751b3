-- The lines that are counted and those that are left make the whole text.
use Rattle.std.proofs.Common.{◌≡◌, ◌+◌, ◌-◌, ◌^◌, ◌≤◌, min}
use Rattle.text.specs.Lines.{lines_of, left}
use Rattle.printing.specs.Room.{room_of, room_for}
use Rattle.printing.proofs.room.room_for.Given as goal

abbrev pub invariant-loop-line : goal.invariant-loop-line
invariant-loop-line l = record {
  counted : min (l.room + room_of (lines_of (left l.line-iterator))) (2 ^ 64 - 1) ≡ min (room_for l.text) (2 ^ 64 - 1);
  low : l.room ≤ 2 ^ 64 - 1;
}
