use Rattle.device.specs.Writing.{WritesText}
use Rattle.filter.proofs.Laws.Words.{ap, arith, subst, text_of}
use Rattle.picture.specs.Picture.{Picture, enlargement}
use Rattle.filter.proofs.Laws.FilterLaws.{enlarged}
use Rattle.filter.proofs.symbol.write_picture.Goals as goal

pub new-picture-requires-clause-fits : goal.new-picture-requires-clause-fits
new-picture-requires-clause-fits g c =
    let wide = ap (λ (p : Picture). p.width) c.new.ensures in
    let high = ap (λ (p : Picture). p.height) c.new.ensures in (
      enlarged _ c.from.result (omega (arith, c.requires.width)) (omega (arith, c.scale.ensures.high)),
      enlarged _ c.from.result (omega (arith, c.requires.height)) (omega (arith, c.scale.ensures.high)),
    )

pub returns : goal.returns
returns g c =
    subst (λ (p : Picture). WritesText g.O.Sink c.args.out.now c.write_text.new.out
    (text_of c.args.run.now.format (enlargement p c.args.run.now.scale)) c.write_text.result) c.new.ensures
    (rw (c.format.ensures, c.new-picture.ensures, c.from.ensures, c.scale.ensures.value) at c.write_text.ensures)
