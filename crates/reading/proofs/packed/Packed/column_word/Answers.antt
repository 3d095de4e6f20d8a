use Rattle.std.proofs.Common.{ap, arith, slice_index, ◌==◌}
use Rattle.std.proofs.lemmas.Nat.Bits.{shr_and_one, bit_at-lt}
use Rattle.reading.proofs.SquareLaws.{column_fits, no_row, row_seen}
use Rattle.reading.proofs.packed.Packed.column_word.Goals as goal

pub loop-y-init : goal.loop-y-init
loop-y-init c = no_row c.args.self.now.rows c.args.x

pub loop-y-preserved : goal.loop-y-preserved
loop-y-preserved c =
    let rows = c.args.self.now.rows in
    let row = slice_index rows c.loop-y.y in
    let one = shr_and_one row c.args.x in
    let few = bit_at-lt row c.args.x in
    row_seen rows c.args.x c.loop-y.y c.loop-y.column _ c.loop-y.invariant (omega (arith, one, few)) (ap (λ z. z == 1) one)

pub overflow_mul-column : goal.overflow_mul-column
overflow_mul-column c =
    let few = column_fits c.args.self.now.rows c.args.x c.loop-y.y c.loop-y.column c.loop-y.invariant
    (omega (arith, c.loop-y-test.true, c.args.self.now.narrow)) in
    omega (arith, few)
