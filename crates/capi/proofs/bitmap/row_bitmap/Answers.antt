use Rattle.std.proofs.Common.{ap, subst, ◌∙◌, List}
use Rattle.std.specs.Prelude.{Bool}
use Rattle.picture.specs.Picture.{Picture, bars, enlargement, with_quiet_zone}
use Rattle.filter.specs.Symbol.{quiet_zone}
use Rattle.capi.specs.Bitmap.{PutsBitmap}
use Rattle.capi.proofs.BitLaws.{bitmap_of_modules}
use Rattle.capi.proofs.bitmap.row_bitmap.Goals as goal

pub returns-in-Ok : goal.returns-in-Ok
returns-in-Ok c =
    let label = c.args.label.now in
    let row : Picture = bars c.row_of.new.row.items label.height in
    bitmap_of_modules _ _ _ c.args.run.now _ c.args.symbology row (c.in-Ok.ensures.drawn label)
    (subst (λ (q : Picture). PutsBitmap (record {
      out = c.args.bits.now;
      out_after = c.offer_bitmap.new.bits;
      message = c.args.message.now;
      message_after = c.args.message.now;
    }) c.args.stride c.offer_bitmap.result
    (enlargement (with_quiet_zone q (quiet_zone c.args.symbology)) c.args.run.now.scale))
    (c.new-bars.ensures ∙ (ap (λ (r : List Bool). bars r c.from.result) c.as_slice.ensures.value
    ∙ ap (bars c.row_of.new.row.items) (c.from.ensures ∙ c.height.ensures.value)))
    (rw c.zone_of.ensures.zone at (c.offer_bitmap.ensures c.args.message.now)))

pub returns-in-Err : goal.returns-in-Err
returns-in-Err c = rw (c.in-Err.ensures.refused c.args.label.now) (c.no_bitmap.ensures _ _ _ _ (c.refused.ensures c.args.bits.now))
