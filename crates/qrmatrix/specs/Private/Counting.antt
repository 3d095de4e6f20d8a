-- Sums and counts over the numbers below a bound, by which the contracts of rows and penalties speak.
use Rattle.std.specs.Prelude.{ℕ, suc, zero, ◌+◌, Bool, if◌then◌else◌}

-- f 0 + f 1 + .. + f (n - 1)
abbrev pub sum_below : ℕ → (ℕ → ℕ) → ℕ
sum_below zero f = 0
sum_below (suc n) f = sum_below n f + f n

-- 1 where the test passes
abbrev pub one_if : Bool → ℕ
one_if b = if b then 1 else 0

-- how many numbers below n pass the test
abbrev pub count_below : ℕ → (ℕ → Bool) → ℕ
count_below n p = sum_below n (λ k. one_if (p k))
