use Rattle.std.proofs.Common.{◌∙◌, ◌++◌, Bool, List, false, ap, arith, map, replicate, sym}
use Rattle.qrmatrix.specs.Bits.{bit}
use Rattle.qrmatrix.proofs.Laws.RowBitsLaws.{above_bit}
use Rattle.picture.specs.Text.{below}
use Rattle.picture.proofs.Laws.SampleLaws.{map-range}
use Rattle.picture.proofs.bits.pixels_of.Goals as goal

pub returns : goal.returns
returns c =
    let row = c.args.row in
    ap (λ (pixels : List Bool). pixels ++ replicate 16 false) (c.copy_from_slice.ensures.after ∙ c.bits_of.ensures)
    ∙ ap (λ (pixels : List Bool). map (bit row) (below 64) ++ pixels)
    (sym (map-range (bit row) (λ _. false) 64 16 (λ x low high. above_bit row 64 x (omega arith) low)))
