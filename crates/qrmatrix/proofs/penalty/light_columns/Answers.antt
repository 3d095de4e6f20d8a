use Rattle.std.proofs.Common.{refl}
use Rattle.qrmatrix.proofs.penalty.light_columns.Goals as goal

pub returns : goal.returns
returns g c = λ x l.
    rw (
      c.light_in.ensures x l,
      c.row_at.ensures x,
      c.row_at-2.ensures x,
      c.row_at-3.ensures x,
      c.row_at-4.ensures x,
    ) refl
