use Rattle.std.proofs.Common.{◌∙◌, sym}
use Rattle.qrmatrix.specs.Private.Placing.{row_of}
use Rattle.qr_reading.specs.Private.Walking.{module_in}
use Rattle.qr_reading.proofs.Laws.WalkedBitLaws.{eight_bits, four_read}
use Rattle.qr_reading.proofs.walk.four_rows.Goals as goal

pub returns : goal.returns
returns c =
    λ free four.
    let modules = c.args.modules.now in
    let strip = c.args.strip in
    eight_bits c.pair_at-first.result c.pair_at-second.result c.pair_at-third.result c.pair_at-fourth.result
    c.pair_at-second.ensures.bound c.pair_at-third.ensures.bound c.pair_at-fourth.ensures.bound
    ∙ rw (
      c.pair_at-first.ensures.bits,
      c.pair_at-second.ensures.bits,
      c.pair_at-third.ensures.bits,
      c.pair_at-fourth.ensures.bits,
      c.row.ensures.value,
      c.row-2.ensures.value,
      c.row-3.ensures.value,
      c.row-4.ensures.value,
    )
    (sym (four_read free (module_in modules) strip.x c.args.t (row_of strip.side strip.number) four))
