-- The fixed fields and the listed bytes behind them are the frame.
use Rattle.std.proofs.Common.{◌≡◌, ◌+◌, ◌-◌, ◌*◌, length, Ok, sym, ap, ◌∙◌, subst, arith}
use borrow.Rule.Slice.PartMut.{put_mid}
use Rattle.frames.specs.Kinds.{fixed_width, item_width}
use Rattle.frames.specs.Contents.{content_of, count_of, Written}
use Rattle.frames.proofs.Writing.{whole_by, written}
use Rattle.frames.proofs.write.write.Goals as goal

pub returns : goal.returns
returns c =
    let kind = c.kind.ensures in
    let form = c.form-form.ensures in
    let fixed : c.form-form.result.fixed ≡ fixed_width (content_of c.args.frame.now).kind = ap (λ f. f.fixed) form ∙ ap fixed_width kind in
    let item : c.form-form.result.item ≡ item_width (content_of c.args.frame.now).kind = ap (λ f. f.item) form ∙ ap item_width kind in
    let listed = c.listing-count.ensures.0 in
    let count = c.listing-count.ensures.1 in
    let equal = c.if-listed-form.false in
    let length-is : length (content_of c.args.frame.now).listed ≡ item_width (content_of c.args.frame.now).kind * count_of c.args.frame.now = cc in
    subst
    (λ ys. Written (content_of c.args.frame.now) c.args.out.now (put_mid c.form-form.result.fixed (c.form-form.result.fixed + length c.listing-count.result.0.now - c.form-form.result.fixed) c.put_fields.new.out ys) (Ok (c.form-form.result.fixed + length c.listing-count.result.0.now)))
    (sym c.copy_from_slice.ensures.after)
    (written (content_of c.args.frame.now) c.args.out.now c.put_fields.new.out c.listing-count.result.0.now c.form-form.result.fixed _
    c.put_fields.ensures.fit
    (whole_by c.args.frame.now length-is)
    fixed
    listed
    (omega arith)
    (omega arith)
    c.put_fields.ensures.after)
