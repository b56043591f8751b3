-- The three rules of the library.
use Rattle.std.specs.Prelude.{Bool, true, false, cond, ◌&&◌, ◌||◌, ℤ, pos, ◌+ℤ◌, ◌-ℤ◌, int_lt, int_le, ◌==◌}
use Rattle.std.specs.Int.{int_max, int_min}
use Rattle.schedule.specs.Clock.{forward, nearest}
use Rattle.rules.specs.Questions.{Question}

-- the rule that sees nothing
abbrev pub never : Question → Bool
never q = false

-- the rule that sees everything
abbrev pub always : Question → Bool
always q = true

-- the forward shift from the aggressor's phase to the victim's
abbrev pub forward_of : Question → ℤ
forward_of q = forward q.clock q.aggressor.phase q.victim.phase

-- the nearest shift from the aggressor's phase to the victim's
abbrev pub nearest_of : Question → ℤ
nearest_of q = nearest q.clock q.aggressor.phase q.victim.phase

-- Two windows that come within the proximity of each other, where the aggressor's is moved by a shift so that both are counted from one start.
abbrev pub come_close : Question → ℤ → Bool
come_close q shift =
    int_le
    (int_max q.victim.window.begins (q.aggressor.window.begins -ℤ shift))
    (int_min q.victim.window.ends (q.aggressor.window.ends -ℤ shift) +ℤ pos q.clock.proximity)

-- The nearest occurrence of the aggressor comes close.
abbrev pub sees_nearest : Question → Bool
sees_nearest q = come_close q (nearest_of q)

-- The following occurrence of the aggressor, a period after the nearest one, begins no more than the proximity after the victim's window ends; and the victim's window ends after the aggressor's begins, by the forward shift.
abbrev pub sees_following : Question → Bool
sees_following q =
    int_le (q.aggressor.window.begins -ℤ nearest_of q +ℤ pos q.clock.period) (q.victim.window.ends +ℤ pos q.clock.proximity)
    && int_lt (q.aggressor.window.begins -ℤ forward_of q) q.victim.window.ends

-- The previous occurrence of the aggressor, a period before the nearest one, ends no more than the proximity before the victim's window begins; and the victim's window begins no later than the aggressor's ends, by the forward shift.
abbrev pub sees_previous : Question → Bool
sees_previous q =
    int_le (q.victim.window.begins -ℤ pos q.clock.proximity) (q.aggressor.window.ends -ℤ nearest_of q -ℤ pos q.clock.period)
    && int_le q.victim.window.begins (q.aggressor.window.ends -ℤ forward_of q)

-- Three occurrences of the aggressor. Where both have one phase, their windows come close as they stand. Else one of three occurrences is seen.
abbrev pub three_occurrences : Question → Bool
three_occurrences q =
    cond (q.victim.phase == q.aggressor.phase)
    (come_close q (pos 0))
    (sees_nearest q || sees_following q || sees_previous q)
