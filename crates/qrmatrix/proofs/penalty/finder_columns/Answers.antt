use Rattle.std.proofs.Common.{refl}
use Rattle.qrmatrix.proofs.penalty.finder_columns.Goals as goal

pub returns : goal.returns
returns g c = λ x l.
    rw (
      c.finders_in.ensures x l,
      c.row_at.ensures x,
      c.row_at-2.ensures x,
      c.row_at-3.ensures x,
      c.row_at-4.ensures x,
      c.row_at-5.ensures x,
      c.row_at-6.ensures x,
      c.row_at-7.ensures x,
    ) refl
