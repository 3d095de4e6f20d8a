use Rattle.std.proofs.Common.{sym}
use Rattle.qrmatrix.proofs.FinderLaws.{shows_finder-parts}
use Rattle.qrmatrix.proofs.penalty.column_windows.Goals as goal

pub returns : goal.returns
returns g c = λ x l.
    rw (
      c.or.ensures x,
      c.and-before_light.ensures x,
      c.and-after_light.ensures x,
      c.finder_columns.ensures x l,
      c.light_columns.ensures x l,
      c.light_columns-2.ensures x l,
      c.finder_columns-2.ensures x l,
    )
    (sym (shows_finder-parts (g.R.Rows.module_at c.args.rows.now x) c.args.y))
