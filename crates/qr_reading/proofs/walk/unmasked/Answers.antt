use Rattle.std.proofs.Common.{arith, refl, slice_index}
use mathlib.Core.Bool.{xor}
use Rattle.qrmatrix.proofs.Laws.RowBitsLaws.{xor_bit}
use Rattle.qr_reading.proofs.walk.unmasked.Goals as goal

pub returns : goal.returns
unfolding xor
returns c = λ x wide.
    let flipped = c.mask_row_bits.ensures x c.args.y wide (omega (arith, c.requires.0, c.requires.1)) refl in
    let both = xor_bit c.mask_row_bits.result (slice_index c.args.rows.now c.args.y) x in
    grind (arith, flipped, both)
