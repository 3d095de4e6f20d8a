use Rattle.std.proofs.Common.{refl}
use Rattle.qrmatrix.proofs.row_bits.agreeing_five.Goals as goal

pub returns : goal.returns
returns g c = λ i l.
    rw (
      c.and-3.ensures i,
      c.and-2.ensures i,
      c.and.ensures i,
      c.agreeing.ensures i l,
      c.agreeing-2.ensures i l,
      c.agreeing-3.ensures i l,
      c.agreeing-4.ensures i l,
    ) refl
