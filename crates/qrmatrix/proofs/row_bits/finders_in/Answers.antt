use Rattle.std.proofs.Common.{refl}
use Rattle.qrmatrix.proofs.row_bits.finders_in.Goals as goal

pub returns : goal.returns
returns g c = λ i l.
    rw (
      c.and-6.ensures i,
      c.and-5.ensures i,
      c.and-4.ensures i,
      c.and-3.ensures i,
      c.and-2.ensures i,
      c.and.ensures i,
      c.inverse.ensures i l,
      c.inverse-2.ensures i l,
    ) refl
