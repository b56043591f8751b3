-- A verify is granted.
use Rattle.design.specs.Table.{loan_in}
use Rattle.rules.specs.Named.{named}
use Rattle.printing.proofs.Rows.{verify_granted}
use Rattle.printing.proofs.judge.judgement_on.Goals as goal

pub unwrap-requires : goal.unwrap-requires
unwrap-requires c =
    verify_granted c.args.sealed.now (loan_in c.args.tables.now) (named c.args.rule)
    c.args.flags.now c.verify.new.flags c.args.windows.now c.verify.new.windows c.args.column.now c.verify.new.column c.verify.result
    c.requires.rows c.requires.flags c.requires.windows c.requires.column c.verify.ensures
