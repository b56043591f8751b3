-- The counts of a book are those of its table.
use Rattle.std.proofs.Common.{sym}
use Rattle.session.proofs.Reaching.{counts_said}
use Rattle.session.proofs.granted.Goals as goal

pub returns-in-Some-clause-counted : goal.returns-in-Some-clause-counted
returns-in-Some-clause-counted c loan = counts_said c.args.book.now c.in-Some.counts loan (sym c.in-Some.ensures)
