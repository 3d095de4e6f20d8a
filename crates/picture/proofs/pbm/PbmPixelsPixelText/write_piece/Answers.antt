use Rattle.std.proofs.Common.{List, ℕ, map, refl, subst, arith}
use Rattle.std.proofs.lemmas.List.{length-map, take-map, take_more_set}
use Rattle.device.specs.Writing.{WritesText}
use Rattle.picture.specs.Text.{pbm_digit}
use Rattle.picture.proofs.pbm.PbmPixelsPixelText.write_piece.Goals as goal

pub returns : goal.returns
returns g c =
    let n = c.args.len in
    let ps = c.args.pixels.now in
    subst (λ (t : List ℕ). WritesText g.S.Sink c.args.sink.now c.write_whole.new.sink t c.write_whole.result)
    (rw (
      c.digits-text.ensures,
      take_more_set (map pbm_digit ps) n 10 (omega (arith, length-map ps pbm_digit)),
      take-map pbm_digit n ps,
    ) refl) c.write_whole.ensures
