-- The bits of rows that operators make.
use Rattle.std.proofs.Common.{◌≡◌, ℕ, ◌+◌, ◌-◌, ◌*◌, ◌/◌, ◌%◌, ◌^◌, ◌<◌, ◌≤◌, sym, ap, ◌∙◌, arith, Bool, true, false}
use Rattle.std.proofs.Common.{not, ◌&&◌, ◌||◌, inl, inr}
use Rattle.std.specs.Prelude.{bit_and, bit_or, bit_xor, ◌==◌, nat_le, nat_lt, if◌then◌else◌}
use Rattle.std.specs.Bool.{beq}
use Rattle.std.specs.Int.{bit_at, bit_not, Width, w64}
use mir.Val.{bits}
use Rattle.std.proofs.lemmas.Bool.{cases_lt}
use Rattle.std.proofs.lemmas.Bool.Decides.{nat_tests}
use Rattle.std.proofs.lemmas.Nat.{shr-shr, pow_pos}
use Rattle.std.proofs.lemmas.Nat.Bits.{bit_at_and, bit_at_or, bit_at_xor, bit_at_not, bit_at-lt, bit_at_above}
use Rattle.std.proofs.lemmas.Nat.Bits.{bit_at_ones, bit_at_ones_above, bit_at_cat_high, bit_at_cat_low, bit_at-zero}
use Rattle.std.proofs.Math.Pow.{pow_mono, shl_lt}
use Rattle.qrmatrix.specs.Bits.{bit}

pub xor_bit : (a b i : ℕ) → bit (bit_xor a b) i ≡ not (beq (bit a i) (bit b i))
xor_bit a b i = grind (arith, nat_tests, bit_at_xor a b i, bit_at-lt a i, bit_at-lt b i)

pub and_bit : (a b i : ℕ) → bit (bit_and a b) i ≡ (bit a i && bit b i)
and_bit a b i = grind (arith, nat_tests, bit_at_and a b i, bit_at-lt a i, bit_at-lt b i)

pub or_bit : (a b i : ℕ) → bit (bit_or a b) i ≡ (bit a i || bit b i)
or_bit a b i = grind (arith, nat_tests, bit_at_or a b i, bit_at-lt a i, bit_at-lt b i)

pub inverse_bit : (w : Width) (a i : ℕ) → a < 2 ^ bits w → i < bits w → bit (bit_not w a) i ≡ not (bit a i)
inverse_bit w a i h l = grind (arith, nat_tests, bit_at_not w a i h l, bit_at-lt a i)

pub not_bit : (a i : ℕ) → a < 2 ^ 64 → i < 64 → bit (bit_not w64 a) i ≡ not (bit a i)
not_bit a i h l = inverse_bit w64 a i h l

-- a row moved down by k places
pub shr_bit : (a k i : ℕ) → bit (a / 2 ^ k) i ≡ bit a (i + k)
shr_bit a k i =
    let e : k + i ≡ i + k = omega arith in
    ap (λ z. z % 2 == 1) (shr-shr a k i ∙ ap (λ z. a / 2 ^ z) e)

pub above_bit : (w k x : ℕ) → w < 2 ^ k → k ≤ x → bit w x ≡ false
above_bit w k x h g = ap (λ z. z == 1) (bit_at_above w k x h g)

-- a bit of four words
pub in_each : (a b c d x : ℕ) → bit (bit_and (bit_and (bit_and a b) c) d) x ≡ true
    → (bit a x ≡ true) × (bit b x ≡ true) × (bit c x ≡ true) × (bit d x ≡ true)
in_each a b c d x h =
    let last = and_bit (bit_and (bit_and a b) c) d x in
    let third = and_bit (bit_and a b) c x in
    let first = and_bit a b x in
    (grind arith, grind arith, grind arith, grind arith)

-- the row without ones
pub zero_bit : (i : ℕ) → bit 0 i ≡ false
zero_bit i = ap (λ z. z == 1) (bit_at-zero i)

-- the row of n ones
pub low_bit : (n i : ℕ) → bit (2 ^ n - 1) i ≡ nat_lt i n
low_bit n i = grind (arith, nat_tests, bit_at_ones n i, bit_at_ones_above n i)

pub ones_narrow : (n : ℕ) → n ≤ 57 → 2 ^ n - 1 < 2 ^ 57
ones_narrow n h = let p : 2 ^ n ≤ 2 ^ 57 = pow_mono h in omega arith

-- the low k bits of a number are those of its remainder
pub mod_bit : (k n i : ℕ) → i < k → bit (n % 2 ^ k) i ≡ bit n i
mod_bit k n i h =
    let p = pow_pos k in
    let whole : n ≡ (n / 2 ^ k) * 2 ^ k + n % 2 ^ k = omega arith in
    sym (ap (λ z. z == 1) (ap (λ z. bit_at z i) whole ∙ bit_at_cat_low (n / 2 ^ k) k (n % 2 ^ k) i h))

-- a row of n bits moved up by k places
pub moved_up_bit : (n w k i : ℕ) → i < n → bit (w * 2 ^ k % 2 ^ n) i ≡ (nat_le k i && bit w (i - k))
moved_up_bit n w k i l =
    let p = pow_pos k in
    let e : w * 2 ^ k ≡ w * 2 ^ k + 0 = omega arith in
    mod_bit n (w * 2 ^ k) i l
    ∙ rw e (grind (arith, nat_tests, bit_at_cat_low w k 0 i, bit_at_cat_high w k 0 i p, bit_at-zero i))

pub up_bit : (w k i : ℕ) → i < 64 → bit (w * 2 ^ k % 2 ^ 64) i ≡ (nat_le k i && bit w (i - k))
up_bit w k i l = moved_up_bit 64 w k i l

-- a number below 4 moved up
pub two_bits : (two x a : ℕ) → two < 4 → x + 1 < 64
    → bit (two * 2 ^ x % 2 ^ 64) a ≡ (if a == x then bit two 0 else (if a == x + 1 then bit two 1 else false))
two_bits two x a h b =
    elim (cases_lt a 64) [
      | inr g ↦ rw (above_bit (two * 2 ^ x % 2 ^ 64) 64 a (omega arith) g) (grind (arith, nat_tests))
      | inl l ↦ rw (up_bit two x a l) (grind (arith, nat_tests, above_bit two 2 (a - x) h))
    ]

-- a row moved up that stays within a row of a square
pub up_narrow : (w j k : ℕ) → w < 2 ^ j → j + k ≤ 57 → w * 2 ^ k % 2 ^ 64 < 2 ^ 57
up_narrow w j k h l =
    let small = shl_lt j k h in
    let wide : 2 ^ (j + k) ≤ 2 ^ 57 = pow_mono l in
    omega arith

pub same_beq : (a b : Bool) → beq a b ≡ true → a ≡ b
same_beq a b h = grind arith
