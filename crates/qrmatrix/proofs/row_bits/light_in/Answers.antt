use Rattle.std.proofs.Common.{refl}
use Rattle.qrmatrix.proofs.row_bits.light_in.Goals as goal

pub returns : goal.returns
returns g c = λ i l.
    rw (
      c.and-3.ensures i,
      c.and-2.ensures i,
      c.and.ensures i,
      c.inverse.ensures i l,
      c.inverse-2.ensures i l,
      c.inverse-3.ensures i l,
      c.inverse-4.ensures i l,
    ) refl
