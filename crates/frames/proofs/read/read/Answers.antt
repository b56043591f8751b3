-- The two longest kinds, written again.
use Rattle.std.proofs.Common.{Ok, sym, ap, ◌∙◌, arith}
use Rattle.frames.specs.declared.kinds.Kind.TheVariants.{Latch, Couple}
use Rattle.frames.proofs.Inverse.{read_and_written}
use Rattle.frames.proofs.read.read.Goals as goal

pub returns-in-Latch : goal.returns-in-Latch
returns-in-Latch c =
    read_and_written Latch c.args.bytes.now c.latch.result (λ i. omega (arith, c.type_inv.bytes i)) (sym c.try_from.ensures ∙ (c.in_ok-try_from.was ∙ ap Ok c.in-Latch.is)) c.latch.ensures

pub returns-in-Couple : goal.returns-in-Couple
returns-in-Couple c =
    read_and_written Couple c.args.bytes.now c.couple.result (λ i. omega (arith, c.type_inv.bytes i)) (sym c.try_from.ensures ∙ (c.in_ok-try_from.was ∙ ap Ok c.in-Couple.is)) c.couple.ensures
