use Rattle.std.proofs.Common.{◌≡◌, ◌*◌, ◌≤◌}
use Rattle.qrmatrix.specs.Private.Counting.{count_below, sum_below}
use Rattle.qrmatrix.specs.Penalty.{shows_finder}
use Rattle.qrmatrix.proofs.penalty.finders_of_columns.Given as goal

abbrev pub invariant-loop-y : goal.invariant-loop-y
invariant-loop-y g l = record {
  total : g.R.Row.Word.number l.total
      ≡ sum_below l.y (λ y. count_below l.side (λ x. shows_finder (g.R.Rows.module_at l.rows x) y));
  bound : g.R.Row.Word.number l.total ≤ 57 * l.y;
}
