use Rattle.std.proofs.Common.{◌∙◌, ap, arith, length, take}
use Rattle.std.proofs.lemmas.List.FromFn.{take-map-range_with_len}
use Rattle.qrmatrix.specs.Bits.{bit}
use Rattle.picture.proofs.Laws.GridLaws.{pixel_row-bits}
use Rattle.picture.proofs.scaled.read_pixels.Goals as goal

pub returns-in-Some : goal.returns-in-Some
returns-in-Some g c =
    let width = length c.args.pixels.now in
    c.copy_from_slice.ensures.after ∙ ap (take width) c.pixels_of.ensures
    ∙ take-map-range_with_len (bit c.in-Some.row) 0 80 width (omega arith)
    ∙ pixel_row-bits (g.G.Grid.picture c.args.grid.now) c.args.y c.in-Some.row width c.requires.whole c.in-Some.ensures
