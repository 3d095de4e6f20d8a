use Rattle.std.proofs.Common.{subst, arith, take}
use Rattle.std.proofs.lemmas.List.{length-take-le}
use Rattle.device.specs.Writing.{WritesText}
use Rattle.picture.specs.Private.Rows.{row_text}
use Rattle.picture.proofs.RepeatedLaws.{WritesText-repeated}
use Rattle.picture.proofs.kept_rows.repeat_row.Goals as goal

pub returns-then-repeat : goal.returns-then-repeat
returns-then-repeat g c =
    WritesText-repeated g.S.Sink _ _ _ _ c.repeat.result tt c.if-repeat.true
    (c.row_len.ensures _ (length-take-le c.args.width c.args.kept.now (omega arith))) c.requires.last c.repeat.ensures

pub returns : goal.returns
returns g c =
    let row = row_text g.T.PixelText.text g.T.PixelText.row_end (take c.args.width c.args.kept.now) in
    subst (λ s. WritesText g.S.Sink s c.write_row.new.sink row c.write_row.result)
    (c.repeat.ensures.kept c.if-repeat.false) c.write_row.ensures

pub write_row-requires : goal.write_row-requires
write_row-requires g c = c.requires.fits
