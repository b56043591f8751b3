-- The answers to what the check asks of `put_schedule`.
use Rattle.std.proofs.Common.{◌≡◌, [], ◌∷◌, get_or, ap, subst, arith}
use Rattle.std.specs.List.{range_with_len}
use Rattle.std.proofs.lemmas.List.FromFn.{take-map-range_with_len}
use Rattle.schedule.specs.Made.{drawn}
use Rattle.schedule.proofs.Lawful.{phases_bounds}
use Rattle.frames.specs.Frames.{Content, bytes_in}
use Rattle.frames.specs.declared.kinds.Kind.TheVariants.{Schedule}
use Rattle.loading.specs.Writing.{schedule_frame}
use Rattle.listing.specs.Appending.{Appends}
use Rattle.listing.proofs.Bytes.{phases_are}
use Rattle.listing.proofs.Sizes.{schedule_lines}
use Rattle.listing.proofs.lines.Listing.put_schedule.Goals as goal

pub returns : goal.returns
returns c =
    let figures = c.from-figures.result in
    let few = (phases_bounds c.args.schedule.now c.from-figures.ensures.1).1 in
    let count = ap (λ k. k.phases) c.from-figures.ensures.0 in
    let granted = take-map-range_with_len (λ k. bytes_in 4 (get_or figures.starts k 0) ∷ bytes_in 4 (get_or figures.widths k 0) ∷ []) 0 16 figures.count (omega arith) in
    let flat = phases_are (drawn figures) (range_with_len 0 figures.count) in
    let same = ap schedule_frame c.from-figures.ensures.0 in
    let frame : Content = record { kind = Schedule; numbers = figures.period ∷ figures.proximity ∷ figures.count ∷ []; listed = c.as_flattened-2.result.now } in
    let is : frame ≡ schedule_frame c.args.schedule.now = cc in
    let lines : Appends (schedule_frame c.args.schedule.now ∷ []) c.args.self.now c.put_line.new.self = subst (λ f. Appends (f ∷ []) c.args.self.now c.put_line.new.self) is c.put_line.ensures in
    record { lines = lines; near = omega (arith, lines.no_further, schedule_lines c.args.schedule.now few) }
