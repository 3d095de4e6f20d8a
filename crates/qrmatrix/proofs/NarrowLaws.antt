-- The penalty reads the modules of the symbol alone.
use Rattle.std.proofs.Common.{◌≡◌, ℕ, ◌+◌, ◌-◌, ◌*◌, ◌<◌, refl, sym, ap, ◌∙◌, arith, Bool}
use Rattle.qrmatrix.specs.Private.Counting.{count_below, sum_below}
use Rattle.qrmatrix.specs.Penalty.{balance_penalty, dark_count, is_one_colour, run_penalty, square_penalty, window_points}
use Rattle.qrmatrix.specs.Penalty.{penalty, shows_finder}
use Rattle.qrmatrix.proofs.FinderLaws.{shows_finder-parts}
use Rattle.qrmatrix.proofs.PenaltySumLaws.{dark_count-sum, penalty_parts, run_penalty-sum, square_penalty-sum}
use Rattle.qrmatrix.proofs.Laws.SumLaws.{sum_below_same}
use Rattle.qrmatrix.proofs.WindowLaws.{count_same, five_equal}

-- the points of a window
points-same : (l k : ℕ → Bool) (i : ℕ) → l (i - 1) ≡ k (i - 1) → l i ≡ k i → l (i + 1) ≡ k (i + 1)
    → l (i + 2) ≡ k (i + 2) → l (i + 3) ≡ k (i + 3) → l (i + 4) ≡ k (i + 4) → window_points l i ≡ window_points k i
points-same l k i before a b c d e = rw (five_equal l i, five_equal k i, before, a, b, c, d, e) refl

-- the runs of a line
runs-same : (n : ℕ) (l k : ℕ → Bool) → ((i : ℕ) → i < n → l i ≡ k i) → run_penalty n l ≡ run_penalty n k
runs-same n l k same =
    run_penalty-sum n l
    ∙ sum_below_same (n - 4) (window_points l) (window_points k) (λ i h.
    points-same l k i (same (i - 1) (omega arith)) (same i (omega arith)) (same (i + 1) (omega arith))
    (same (i + 2) (omega arith)) (same (i + 3) (omega arith)) (same (i + 4) (omega arith)))
    ∙ sym (run_penalty-sum n k)

-- a window that looks like a finder pattern
finder-same : (n i : ℕ) (l k : ℕ → Bool) → i < n - 10 → ((j : ℕ) → j < n → l j ≡ k j)
    → shows_finder l i ≡ shows_finder k i
finder-same n i l k h same =
    rw (
      shows_finder-parts l i,
      shows_finder-parts k i,
      same i (omega arith),
      same (i + 1) (omega arith),
      same (i + 2) (omega arith),
      same (i + 3) (omega arith),
      same (i + 4) (omega arith),
      same (i + 5) (omega arith),
      same (i + 6) (omega arith),
      same (i + 7) (omega arith),
      same (i + 7 + 1) (omega arith),
      same (i + 7 + 2) (omega arith),
      same (i + 7 + 3) (omega arith),
      same (i + 4 + 1) (omega arith),
      same (i + 4 + 2) (omega arith),
      same (i + 4 + 3) (omega arith),
      same (i + 4 + 4) (omega arith),
      same (i + 4 + 5) (omega arith),
      same (i + 4 + 6) (omega arith),
    ) refl

module _ (n : ℕ) (m k : ℕ → ℕ → Bool) (same : (x y : ℕ) → x < n → y < n → m x y ≡ k x y) where
  squares-same : square_penalty n m ≡ square_penalty n k
  squares-same =
      square_penalty-sum n m
      ∙ ap (λ z. 3 * z) (sum_below_same (n - 1) (λ y. count_below (n - 1) (is_one_colour m y))
      (λ y. count_below (n - 1) (is_one_colour k y)) (λ y ly.
      count_same (n - 1) (is_one_colour m y) (is_one_colour k y) (λ x lx.
      rw (
        same x y (omega arith) (omega arith),
        same (x + 1) y (omega arith) (omega arith),
        same x (y + 1) (omega arith) (omega arith),
        same (x + 1) (y + 1) (omega arith) (omega arith),
      ) refl)))
      ∙ sym (square_penalty-sum n k)

  dark-same : dark_count n m ≡ dark_count n k
  dark-same =
      dark_count-sum n m
      ∙ sum_below_same n (λ y. count_below n (λ x. m x y)) (λ y. count_below n (λ x. k x y))
      (λ y ly. count_same n (λ x. m x y) (λ x. k x y) (λ x lx. same x y lx ly))
      ∙ sym (dark_count-sum n k)

  runs_of_rows-same : sum_below n (λ y. run_penalty n (λ x. m x y)) ≡ sum_below n (λ y. run_penalty n (λ x. k x y))
  runs_of_rows-same =
      sum_below_same n (λ y. run_penalty n (λ x. m x y)) (λ y. run_penalty n (λ x. k x y))
      (λ y ly. runs-same n (λ x. m x y) (λ x. k x y) (λ x lx. same x y lx ly))

  runs_of_columns-same : sum_below n (λ x. run_penalty n (λ y. m x y)) ≡ sum_below n (λ x. run_penalty n (λ y. k x y))
  runs_of_columns-same =
      sum_below_same n (λ x. run_penalty n (λ y. m x y)) (λ x. run_penalty n (λ y. k x y))
      (λ x lx. runs-same n (λ y. m x y) (λ y. k x y) (λ y ly. same x y lx ly))

  finders_of_rows-same : sum_below n (λ y. count_below (n - 10) (shows_finder (λ x. m x y)))
      ≡ sum_below n (λ y. count_below (n - 10) (shows_finder (λ x. k x y)))
  finders_of_rows-same =
      sum_below_same n (λ y. count_below (n - 10) (shows_finder (λ x. m x y)))
      (λ y. count_below (n - 10) (shows_finder (λ x. k x y))) (λ y ly.
      count_same (n - 10) (shows_finder (λ x. m x y)) (shows_finder (λ x. k x y)) (λ x lx.
      finder-same n x (λ x. m x y) (λ x. k x y) lx (λ j lj. same j y lj ly)))

  finders_of_columns-same : sum_below (n - 10) (λ y. count_below n (λ x. shows_finder (m x) y))
      ≡ sum_below (n - 10) (λ y. count_below n (λ x. shows_finder (k x) y))
  finders_of_columns-same =
      sum_below_same (n - 10) (λ y. count_below n (λ x. shows_finder (m x) y))
      (λ y. count_below n (λ x. shows_finder (k x) y)) (λ y ly.
      count_same n (λ x. shows_finder (m x) y) (λ x. shows_finder (k x) y) (λ x lx.
      finder-same n y (m x) (k x) ly (λ j lj. same x j lx lj)))

  pub penalty-same : penalty n m ≡ penalty n k
  penalty-same =
      let balance = ap (balance_penalty n) dark-same in
      omega (
        arith,
        penalty_parts n m,
        penalty_parts n k,
        runs_of_rows-same,
        runs_of_columns-same,
        squares-same,
        finders_of_rows-same,
        finders_of_columns-same,
        balance,
      )
