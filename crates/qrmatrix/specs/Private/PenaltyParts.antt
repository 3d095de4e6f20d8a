-- Parts of the penalty of a symbol of n by n modules, m x y being the module at column x and row y (in the manner of
-- ISO/IEC 18004, 7.8.3).
use Rattle.std.specs.Prelude.{ℕ, ◌+◌, ◌-◌, Bool, not, ◌&&◌}
use Rattle.qrmatrix.specs.Penalty.{balance_penalty, dark_count, run_penalty, shows_finder, square_penalty}
use Rattle.qrmatrix.specs.Private.Counting.{count_below, sum_below}

-- seven modules are those of a finder pattern
abbrev pub is_finder : Bool → Bool → Bool → Bool → Bool → Bool → Bool → Bool
is_finder a b c d e f g = (((((a && not b) && c) && d) && e) && not f) && g

-- four modules are light
abbrev pub is_light : Bool → Bool → Bool → Bool → Bool
is_light a b c d = ((not a && not b) && not c) && not d

-- a line has a finder pattern from place i
abbrev pub finder_from : (ℕ → Bool) → ℕ → Bool
finder_from line i =
    is_finder (line i) (line (i + 1)) (line (i + 2)) (line (i + 3)) (line (i + 4)) (line (i + 5)) (line (i + 6))

-- a line has four light modules from place i
abbrev pub light_from : (ℕ → Bool) → ℕ → Bool
light_from line i = is_light (line i) (line (i + 1)) (line (i + 2)) (line (i + 3))

-- how many windows of all rows and columns look like a finder pattern
abbrev pub finder_windows : ℕ → (ℕ → ℕ → Bool) → ℕ
finder_windows n m = sum_below n (λ y. count_below (n - 10) (shows_finder (λ x. m x y)))
    + sum_below (n - 10) (λ y. count_below n (λ x. shows_finder (m x) y))

-- what is counted row by row: the runs in rows, the squares, and the balance
abbrev pub row_penalty : ℕ → (ℕ → ℕ → Bool) → ℕ
row_penalty n m =
    sum_below n (λ y. run_penalty n (λ x. m x y)) + square_penalty n m + balance_penalty n (dark_count n m)
