use Rattle.std.proofs.Common.{arith}
use Rattle.qrmatrix.proofs.RowSumLaws.{points_are}
use Rattle.qrmatrix.proofs.row_bits.run_points.Goals as goal

pub returns-clause-value : goal.returns-clause-value
returns-clause-value g c =
    let bits = g.W.Word.bits in
    let points = points_are c.args.count (bits c.args.uniform) (bits c.args.begins) (bits c.and.result) c.and.ensures in
    omega (arith, points, c.plus.ensures, c.plus-2.ensures, c.ones_below-windows.ensures.value, c.ones_below-beginnings.ensures.value)
