use Rattle.std.proofs.Common.{◌≡◌, ◌-◌, ap, arith, ℕ}
use mathlib.Core.Path.{fun_ext}
use Rattle.qrmatrix.specs.Penalty.{shows_finder}
use Rattle.qrmatrix.specs.Private.Counting.{count_below}
use Rattle.qrmatrix.proofs.WindowLaws.{sum_next}
use Rattle.qrmatrix.proofs.penalty.finders_of_rows.Goals as goal

pub loop-y-preserved : goal.loop-y-preserved
loop-y-preserved g c =
    let n = c.args.side in
    let y = c.loop-y.y in
    let m = g.R.Rows.module_at c.args.rows.now in
    let f : ℕ → ℕ = λ y. count_below (n - 10) (shows_finder (λ x. m x y)) in
    let line : g.R.Row.Word.bits c.row_at.result ≡ (λ x. m x y) = fun_ext (λ x. c.row_at.ensures x) in
    let here = ap (λ z. count_below (n - 10) (shows_finder z)) line in
    record {
      total = omega (arith, c.loop-y.invariant.total, c.plus-total.ensures, c.row_finders.ensures.value, here, sum_next y f);
      bound = omega (arith, c.loop-y.invariant.bound, c.plus-total.ensures, c.row_finders.ensures.bound);
    }
