use Rattle.std.proofs.Common.{arith}
use Rattle.reading.proofs.BitLaws.{rows_equal, rows_inside}
use Rattle.reading.proofs.bits.BitsGrid.equal_rows.Goals as goal

pub overflow_mul-row : goal.overflow_mul-row
overflow_mul-row c = grind (arith, rows_inside)

pub overflow_add-row-2 : goal.overflow_add-row-2
overflow_add-row-2 c = grind (arith, rows_inside)

pub equal_rows-requires-clause-inside : goal.equal_rows-requires-clause-inside
equal_rows-requires-clause-inside c = grind (arith, rows_inside)

pub returns : goal.returns
returns c =
    let s = c.args.self.now in
    rows_equal s.region c.args.y c.div_ceil-end.result c.requires c.div_ceil-end.ensures s.bytes.now c.equal_rows.result
    c.equal_rows.ensures.some c.equal_rows.ensures.most c.equal_rows.ensures.equal
