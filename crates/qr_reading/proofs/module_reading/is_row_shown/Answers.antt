use Rattle.std.proofs.Common.{◌-◌, ◌∙◌, ap, arith, length, slice_index}
use Rattle.std.specs.Prelude.{◌==◌, bit_and, bit_xor}
use Rattle.std.specs.Int.{bit_not, w64}
use Rattle.std.proofs.lemmas.Nat.{one_shl}
use Rattle.qrmatrix.specs.Square.{value_at}
use Rattle.qr_reading.proofs.Laws.PatternReadingLaws.{row_shown}
use Rattle.qr_reading.proofs.module_reading.is_row_shown.Goals as goal

pub returns : goal.returns
returns c =
    let n = length c.args.rows.now in
    let row = slice_index c.args.rows.now c.args.y in
    let free = c.row-free.result in
    let dark = c.row-dark.result in
    ap (λ ones. bit_and (bit_and (bit_xor row dark) (bit_not w64 free)) (ones - 1) == 0)
    (one_shl n 64 (omega (arith, c.requires.1)))
    ∙ row_shown n row free dark (λ x. value_at c.args.free.now x c.args.y) (λ x. value_at c.args.dark.now x c.args.y)
    c.requires.1 (omega (arith, c.row-free.ensures.bound)) c.row-free.ensures.bits c.row-dark.ensures.bits
