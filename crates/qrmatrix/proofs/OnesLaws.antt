-- How many bits of a row are set, as a count over its places.
use Rattle.std.proofs.Common.{◌≡◌, ℕ, zero, suc, ◌+◌, ◌*◌, ◌/◌, ◌%◌, ◌^◌, ◌<◌, refl, sym, ap, ◌∙◌, arith}
use Rattle.std.specs.Prelude.{count_ones}
use Rattle.std.specs.Int.Count.{ones}
use Rattle.std.proofs.lemmas.Nat.{ones_cat, ones_le_self, pow_pos}
use Rattle.std.proofs.lemmas.Bool.Decides.{nat_tests}
use Rattle.std.proofs.Math.Nat.{pow-suc, div-lt_iff_lt-mul}
use Rattle.qrmatrix.specs.Private.Counting.{count_below, one_if}
use Rattle.qrmatrix.specs.Bits.{bit}
use Rattle.qrmatrix.proofs.Laws.RowBitsLaws.{mod_bit}
use Rattle.qrmatrix.proofs.Laws.SumLaws.{sum_below_same}

one_if_bit : (n i : ℕ) → one_if (bit n i) ≡ n / 2 ^ i % 2
one_if_bit n i = grind (arith, nat_tests)

small_ones : (q : ℕ) → q < 2 → count_ones q ≡ q
unfolding ones
small_ones zero h = refl
small_ones (suc zero) h = refl
small_ones (suc (suc q)) h = absurd (omega arith)

pub ones_counted : (k n : ℕ) → n < 2 ^ k → count_ones n ≡ count_below k (bit n)
ones_counted zero n h = let l = ones_le_self n in omega arith
ones_counted (suc k) n h =
    let p = pow_pos k in
    let e = pow-suc 2 k in
    let whole : n ≡ (n / 2 ^ k) * 2 ^ k + n % 2 ^ k = omega arith in
    let r : n % 2 ^ k < 2 ^ k = omega arith in
    let q : n / 2 ^ k < 2 = (div-lt_iff_lt-mul p).1 (omega arith) in
    let top : one_if (bit n k) ≡ n / 2 ^ k = one_if_bit n k ∙ (let m : n / 2 ^ k % 2 ≡ n / 2 ^ k = omega arith in m) in
    let low = sum_below_same k (λ i. one_if (bit n i)) (λ i. one_if (bit (n % 2 ^ k) i))
    (λ i l. ap one_if (sym (mod_bit k n i l))) in
    let rest = ones_counted k (n % 2 ^ k) r in
    let cat = ones_cat k (n / 2 ^ k) (n % 2 ^ k) r in
    let one = small_ones (n / 2 ^ k) q in
    let all = ap count_ones whole in
    omega arith
