-- Sums and counts of the bits of rows.
use Rattle.std.proofs.Common.{◌≡◌, ℕ, zero, suc, ◌+◌, ◌-◌, ◌*◌, ◌%◌, ◌<◌, ◌≤◌, refl, sym, ap, ◌∙◌, arith, Bool, true, false}
use Rattle.std.proofs.Common.{inl, inr}
use Rattle.std.specs.Prelude.{count_ones, bit_and, ◌^◌, if◌then◌else◌, nat_lt, ◌&&◌}
use Rattle.std.proofs.lemmas.Bool.{cases_eq}
use Rattle.std.proofs.lemmas.Bool.Decides.{nat_tests}
use Rattle.std.proofs.lemmas.Nat.{and_le_r, one_shl, pow_pos}
use Rattle.std.proofs.Math.Pow.{pow_mono}
use Rattle.qrmatrix.specs.Bits.{bit}
use Rattle.qrmatrix.proofs.OnesLaws.{ones_counted}
use Rattle.qrmatrix.proofs.Laws.RowBitsLaws.{and_bit, low_bit}
use Rattle.qrmatrix.specs.Private.Counting.{sum_below, count_below, one_if}
use Rattle.qrmatrix.proofs.Laws.SumLaws.{sum_below_same, sum_below_zero}

pub count_small : (n : ℕ) (p : ℕ → Bool) → count_below n p ≤ n
count_small zero p = omega arith
count_small (suc n) p = grind (arith, count_small n p)

-- a count that stops at n
pub count_cut : (k n : ℕ) (p q : ℕ → Bool) → n ≤ k → ((i : ℕ) → i < n → p i ≡ q i) → ((i : ℕ) → n ≤ i → p i ≡ false)
    → count_below k p ≡ count_below n q
count_cut zero n p q l same none = let e : n ≡ 0 = omega arith in rw e
count_cut (suc k) n p q l same none =
    elim (cases_eq n (suc k)) [
      | inl e ↦ rw e (sum_below_same (suc k) (λ i. one_if (p i)) (λ i. one_if (q i))
          (λ i m. let z : i < n = omega arith in ap one_if (same i z)))
      | inr ne ↦
          let a = count_cut k n p q (omega arith) same none in
          let b = ap one_if (none k (omega arith)) in
          omega arith
    ]

points_of_place : (p q : Bool) → one_if p + 2 * one_if (p && q) ≡ (if p then 1 + (if q then 2 else 0) else 0)
points_of_place true true = refl
points_of_place true false = refl
points_of_place false q = refl

-- the points of the places of windows and of those of them that begin a run
pub points_are : (n : ℕ) (uniform begins both : ℕ → Bool) → ((i : ℕ) → both i ≡ (uniform i && begins i))
    → count_below n uniform + 2 * count_below n both
    ≡ sum_below n (λ i. if uniform i then 1 + (if begins i then 2 else 0) else 0)
points_are zero uniform begins both are_both = refl
points_are (suc n) uniform begins both are_both =
    omega (arith, points_are n uniform begins both are_both, ap one_if (are_both n), points_of_place (uniform n) (begins n))

pub sum_added : (n : ℕ) (f g : ℕ → ℕ) → sum_below n (λ i. f i + g i) ≡ sum_below n f + sum_below n g
sum_added zero f g = refl
sum_added (suc n) f g = omega (arith, sum_added n f g)

pub sum_scaled : (n k : ℕ) (f : ℕ → ℕ) → sum_below n (λ i. k * f i) ≡ k * sum_below n f
sum_scaled zero k f = omega arith
sum_scaled (suc n) k f = omega (arith, sum_scaled n k f)

-- two sums may change places
pub sum_exchanged : (n m : ℕ) (f : ℕ → ℕ → ℕ)
    → sum_below n (λ x. sum_below m (f x)) ≡ sum_below m (λ y. sum_below n (λ x. f x y))
sum_exchanged zero m f = sym (sum_below_zero m (λ y. 0) (λ k l. refl))
sum_exchanged (suc n) m f = ap (λ z. z + sum_below m (f n)) (sum_exchanged n m f)
    ∙ sym (sum_added m (λ y. sum_below n (λ x. f x y)) (f n))

-- the row of the ones below n, where a word has k bits
pub lowest_bit : (k w n : ℕ) → n < k → (i : ℕ)
    → bit (bit_and w (1 * 2 ^ n % 2 ^ k - 1)) i ≡ (nat_lt i n && bit w i)
lowest_bit k w n l i = rw (one_shl n k l) (grind (arith, nat_tests, and_bit w (2 ^ n - 1) i, low_bit n i))

-- the ones of a row below n, where a word has k bits
pub ones_below : (k w n : ℕ) → n < k → count_ones (bit_and w (1 * 2 ^ n % 2 ^ k - 1)) ≡ count_below n (bit w)
ones_below k w n l =
    let low = 2 ^ n - 1 in
    let wide : 2 ^ n ≤ 2 ^ k = pow_mono (omega arith) in
    let p = pow_pos n in
    rw (one_shl n k l)
    (ones_counted k (bit_and w low) (let a = and_le_r w low in omega arith)
    ∙ count_cut k n (bit (bit_and w low)) (bit w) (omega arith)
    (λ i h. grind (arith, nat_tests, and_bit w low i, low_bit n i))
    (λ i h. grind (arith, nat_tests, and_bit w low i, low_bit n i)))

pub few_ones : (k w n : ℕ) → n < k → count_ones (bit_and w (1 * 2 ^ n % 2 ^ k - 1)) ≤ n
few_ones k w n l = omega (arith, ones_below k w n l, count_small n (bit w))
