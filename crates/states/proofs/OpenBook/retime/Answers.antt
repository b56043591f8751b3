-- The answers to what the check asks of `retime`.
use Rattle.std.proofs.Common.{arith}
use Rattle.states.proofs.Seen.{table, open_taken}
use Rattle.states.proofs.OpenBook.retime.Goals as goal

pub returns-then-is_short : goal.returns-then-is_short
returns-then-is_short g c =
    let taken = open_taken g.S.Stage.state g.S.Stage.opened in
    grind (arith, table, taken)
