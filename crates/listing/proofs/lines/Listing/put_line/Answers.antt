-- The answers to what the check asks of `put_line`.
use Rattle.std.proofs.Common.{drop, replicate, refl}
use Rattle.frames.specs.Contents.{content_of}
use Rattle.listing.proofs.Joins.{appends_line, appends_past}
use Rattle.listing.proofs.lines.Listing.put_line.Goals as goal

pub returns-in-Ok-spell_line : goal.returns-in-Ok-spell_line
returns-in-Ok-spell_line c =
    let written = c.in-Ok.ensures in
    appends_line (content_of c.args.frame.now) c.write.new.out (drop c.in-Ok.count (replicate 138 0)) c.in-Ok.count written.2 written.1 c.args.self.now _ refl c.in-Ok-spell_line.ensures.line c.spell_line.auto.out

pub returns-in-Err : goal.returns-in-Err
returns-in-Err c =
    let written = c.in-Ok.ensures in
    appends_past (content_of c.args.frame.now) c.write.new.out (drop c.in-Ok.count (replicate 138 0)) c.in-Ok.count written.2 written.1 c.args.self.now _ refl _ c.in-Err.ensures.line c.saturating_add-self.ensures
