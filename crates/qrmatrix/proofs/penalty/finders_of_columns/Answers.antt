use Rattle.std.proofs.Common.{◌≡◌, ◌-◌, ◌∙◌, ap, arith, ℕ}
use Rattle.qrmatrix.specs.Private.Counting.{count_below, sum_below}
use Rattle.qrmatrix.specs.Penalty.{shows_finder}
use Rattle.qrmatrix.proofs.WindowLaws.{count_same, sum_next}
use Rattle.qrmatrix.proofs.penalty.finders_of_columns.Goals as goal

pub loop-y-preserved : goal.loop-y-preserved
loop-y-preserved g c =
    let n = c.args.side in
    let y = c.loop-y.y in
    let m = g.R.Rows.module_at c.args.rows.now in
    let f : ℕ → ℕ = λ y. count_below n (λ x. shows_finder (m x) y) in
    let here = count_same n (g.R.Row.Word.bits c.column_windows.result) (λ x. shows_finder (m x) y)
    (λ x l. c.column_windows.ensures x (omega arith)) in
    record {
      total = omega (arith, c.loop-y.invariant.total, c.plus-total.ensures, c.ones_below.ensures.value, here, sum_next y f);
      bound = omega (arith, c.loop-y.invariant.bound, c.plus-total.ensures, c.ones_below.ensures.bound);
    }

pub returns-clause-value : goal.returns-clause-value
returns-clause-value g c =
    let n = c.args.side in
    let m = g.R.Rows.module_at c.args.rows.now in
    let all : c.loop-y.y ≡ n - 10 = omega arith in
    c.wide.ensures ∙ c.loop-y.invariant.total
    ∙ ap (λ k. sum_below k (λ y. count_below n (λ x. shows_finder (m x) y))) all
