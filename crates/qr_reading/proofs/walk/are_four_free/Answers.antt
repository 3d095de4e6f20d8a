use Rattle.std.proofs.Common.{◌≡◌, ◌<◌, ◌∙◌, ap, arith, min, sym, ◌+◌}
use Rattle.std.proofs.lemmas.Bool.{eqb-true}
use Rattle.qrdata.specs.Bits.{bits_of}
use Rattle.qrmatrix.specs.Private.Placing.{row_of}
use Rattle.qr_reading.proofs.Laws.WalkedBitLaws.{both_set, strip_highest, strip_row}
use Rattle.qr_reading.proofs.walk.are_four_free.Goals as goal

pub returns : goal.returns
returns c =
    λ set free are j few.
    let x = c.args.strip.x in
    let n = c.args.strip.side in
    let number = c.args.strip.number in
    let t = c.args.t in
    let three = eqb-true c.pair_at.result 3 set in
    let both = both_set _ x (ap (bits_of 2) (sym three) ∙ c.pair_at.ensures.bits) in
    let highest : c.min-highest.result ≡ min (row_of n number t) (row_of n number (t + 3)) =
    c.min-highest.ensures ∙ (λ i. min (c.row.ensures.value i) (c.row-2.ensures.value i)) in
    let inside : c.min-highest.result + 3 < n = omega (arith, highest, strip_highest n number t c.requires.row) in
    let row = strip_row n number t j c.requires.row few in
    let place : row_of n number (t + j) ≡ c.min-highest.result + row.0 = row.2 ∙ ap (λ y. y + row.0) (sym highest) in (
      rw place (are x c.min-highest.result inside both.1 row.0 row.1),
      rw place (are (x + 1) c.min-highest.result inside both.0 row.0 row.1),
    )
