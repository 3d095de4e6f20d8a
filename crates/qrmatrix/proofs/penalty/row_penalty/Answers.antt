use Rattle.std.proofs.Common.{◌≡◌, ◌-◌, ◌*◌, ◌∙◌, ap, arith, sym, ℕ}
use mathlib.Core.Path.{fun_ext}
use Rattle.std.specs.Prelude.{nat_lt, if◌then◌else◌}
use Rattle.qrmatrix.specs.Private.Counting.{count_below, sum_below}
use Rattle.qrmatrix.specs.Penalty.{balance_penalty, dark_count, is_one_colour, run_penalty, square_penalty}
use Rattle.qrmatrix.proofs.FinderLaws.{all_but_last}
use Rattle.qrmatrix.proofs.PenaltySumLaws.{dark_count-sum, square_penalty-sum}
use Rattle.qrmatrix.proofs.WindowLaws.{sum_next}
use Rattle.qrmatrix.proofs.penalty.row_penalty.Goals as goal

pub loop-y-preserved : goal.loop-y-preserved
loop-y-preserved g c =
    let n = c.args.side in
    let y = c.loop-y.y in
    let m = g.R.Rows.module_at c.args.rows.now in
    let before = c.loop-y.invariant in
    let line : g.R.Row.Word.bits c.row_at-row.result ≡ (λ x. m x y) = fun_ext (λ x. c.row_at-row.ensures x) in
    let runs : ℕ → ℕ = λ y. run_penalty n (λ x. m x y) in
    let squares : ℕ → ℕ = λ y. if nat_lt y (n - 1) then count_below (n - 1) (is_one_colour m y) else 0 in
    let dark : ℕ → ℕ = λ y. count_below n (λ x. m x y) in
    record {
      runs = omega (arith, before.runs, c.plus-runs.ensures, c.row_runs.ensures.value, ap (run_penalty n) line, sum_next y runs);
      squares = omega (arith, before.squares, c.plus-squares.ensures, c.row_squares.ensures.value, sum_next y squares);
      dark = omega (arith, before.dark, c.plus-dark.ensures, c.ones_below.ensures.value, ap (count_below n) line, sum_next y dark);
      run_bound = omega (arith, before.run_bound, c.plus-runs.ensures, c.row_runs.ensures.bound);
      square_bound = omega (arith, before.square_bound, c.plus-squares.ensures, c.row_squares.ensures.bound);
      dark_bound = omega (arith, before.dark_bound, c.plus-dark.ensures, c.ones_below.ensures.bound);
    }

pub returns-clause-value : goal.returns-clause-value
returns-clause-value g c =
    let number = g.R.Row.Word.number in
    let n = c.args.side in
    let m = g.R.Rows.module_at c.args.rows.now in
    let all : c.loop-y.y ≡ n = omega arith in
    let runs : number c.loop-y.runs ≡ sum_below n (λ y. run_penalty n (λ x. m x y)) =
    c.loop-y.invariant.runs ∙ ap (λ k. sum_below k (λ y. run_penalty n (λ x. m x y))) all in
    let squares : 3 * number c.loop-y.squares ≡ square_penalty n m =
    ap (λ z. 3 * z) (c.loop-y.invariant.squares
    ∙ ap (λ k. sum_below k (λ y. if nat_lt y (n - 1) then count_below (n - 1) (is_one_colour m y) else 0)) all
    ∙ all_but_last n (λ y. count_below (n - 1) (is_one_colour m y))) ∙ sym (square_penalty-sum n m) in
    let dark : c.wide-3.result ≡ dark_count n m =
    c.wide-3.ensures ∙ c.loop-y.invariant.dark ∙ ap (λ k. sum_below k (λ y. count_below n (λ x. m x y))) all
    ∙ sym (dark_count-sum n m) in
    let balance : c.balance.result ≡ balance_penalty n (dark_count n m) =
    c.balance.ensures.value ∙ ap (balance_penalty n) dark in
    omega (arith, c.wide.ensures, c.wide-2.ensures, runs, squares, balance)
