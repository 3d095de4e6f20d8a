-- The parts of the penalty as sums below a bound.
use Rattle.std.proofs.Common.{◌≡◌, ℕ, ◌+◌, ◌-◌, ◌*◌, ap, arith, refl, Bool}
use Rattle.qrmatrix.specs.Private.Counting.{sum_below, count_below, one_if}
use Rattle.qrmatrix.specs.Penalty.{balance_penalty, dark_count, finder_penalty, is_one_colour, line_penalty, penalty}
use Rattle.qrmatrix.specs.Penalty.{run_penalty, shows_finder, square_penalty, window_points}
use Rattle.qrmatrix.specs.Private.PenaltyParts.{finder_windows, row_penalty}
use Rattle.qrmatrix.proofs.RowSumLaws.{sum_added, sum_exchanged, sum_scaled}
use Rattle.qrmatrix.proofs.Laws.SumLaws.{count_by-range, sum_below_same, sum_by-count_by, sum_by-range}

pub run_penalty-sum : (n : ℕ) (line : ℕ → Bool) → run_penalty n line ≡ sum_below (n - 4) (window_points line)
unfolding run_penalty
run_penalty-sum n line = sum_by-range (n - 4) (window_points line)

pub finder_penalty-count : (n : ℕ) (line : ℕ → Bool)
    → finder_penalty n line ≡ 40 * count_below (n - 10) (shows_finder line)
unfolding finder_penalty
finder_penalty-count n line = ap (λ z. 40 * z) (count_by-range (n - 10) (shows_finder line))

pub square_penalty-sum : (n : ℕ) (m : ℕ → ℕ → Bool)
    → square_penalty n m ≡ 3 * sum_below (n - 1) (λ y. count_below (n - 1) (is_one_colour m y))
unfolding square_penalty
square_penalty-sum n m = ap (λ z. 3 * z) (sum_by-count_by (n - 1) (is_one_colour m))

pub dark_count-sum : (n : ℕ) (m : ℕ → ℕ → Bool) → dark_count n m ≡ sum_below n (λ y. count_below n (λ x. m x y))
unfolding dark_count
dark_count-sum n m = sum_by-count_by n (λ y x. m x y)

pub penalty-sum : (n : ℕ) (m : ℕ → ℕ → Bool)
    → penalty n m ≡ sum_below n (λ y. line_penalty n (λ x. m x y)) + sum_below n (λ x. line_penalty n (λ y. m x y))
    + square_penalty n m + balance_penalty n (dark_count n m)
unfolding penalty
penalty-sum n m =
    rw (sum_by-range n (λ y. line_penalty n (λ x. m x y)), sum_by-range n (λ x. line_penalty n (λ y. m x y))) refl

-- the runs and the windows of lines
lines_summed : (n : ℕ) (lines : ℕ → ℕ → Bool) → sum_below n (λ y. line_penalty n (lines y))
    ≡ sum_below n (λ y. run_penalty n (lines y))
    + 40 * sum_below n (λ y. count_below (n - 10) (shows_finder (lines y)))
lines_summed n lines =
    let both = sum_added n (λ y. run_penalty n (lines y)) (λ y. finder_penalty n (lines y)) in
    let each = sum_below_same n (λ y. finder_penalty n (lines y))
    (λ y. 40 * count_below (n - 10) (shows_finder (lines y))) (λ y l. finder_penalty-count n (lines y)) in
    let scaled = sum_scaled n 40 (λ y. count_below (n - 10) (shows_finder (lines y))) in
    omega arith

-- what is counted row by row, the runs in columns, and the windows that look like a finder pattern
pub penalty_parts : (n : ℕ) (m : ℕ → ℕ → Bool)
    → penalty n m ≡ row_penalty n m + sum_below n (λ x. run_penalty n (λ y. m x y)) + 40 * finder_windows n m
penalty_parts n m =
    let whole = penalty-sum n m in
    let rows = lines_summed n (λ y x. m x y) in
    let columns = lines_summed n m in
    let exchanged = sum_exchanged n (n - 10) (λ x y. one_if (shows_finder (m x) y)) in
    omega arith
