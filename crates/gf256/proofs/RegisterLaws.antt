-- The multiples of a polynomial in tables, and what the code writes, as lists.
use Rattle.std.proofs.Common.{◌≡◌, ℕ, zero, suc, ◌+◌, ◌-◌, ◌*◌, ◌/◌, ◌%◌, ◌^◌, ◌<◌, List, [], ◌∷◌, ◌++◌, length, take}
use Rattle.std.proofs.Common.{drop, refl, sym, ap, ◌∙◌, arith, eqb-true, true, ◌==◌}
use Rattle.std.specs.Prelude.{bit_xor, All}
use Rattle.std.specs.Int.Bits.{xor_comm, xor_shifted}
use Rattle.std.specs.List.{range_with_len}
use Rattle.std.proofs.lemmas.List.{append_assoc, replicate-append-replicate, take_at}
use Rattle.std.proofs.lemmas.List.Elements.{All-head, All-tail}
use Rattle.std.proofs.lemmas.Simd.{pick_l-range_with_len}
use Rattle.std.proofs.Math.Seq.{take-append-add}
use Rattle.std.specs.Simd.Lanes.{pick_l, zip2}
use Rattle.gf256.specs.BinaryPolynomial.{binary_product, binary_remainder}
use Rattle.gf256.specs.Field.{field_product, IsElement}
use Rattle.gf256.specs.ErrorCorrection.{IsEcCodewordCount, generator}
use Rattle.gf256.specs.Polynomial.{polynomial_sum, scalar_multiple}
use Rattle.gf256.specs.Private.{next_register, padded_generator, register_after, zeros}
use Rattle.gf256.proofs.Laws.AllBelowLaws.{all_below, all_below-at}
use Rattle.gf256.proofs.Laws.DistributivityLaws.{field_product-xor_left, field_product-zero_left, field_product-zero_right}
use Rattle.gf256.proofs.Laws.FieldLaws.{field_product-assoc, field_product-two_small}
use Rattle.gf256.proofs.Laws.EvaluationLaws.{field_product-one_left}
use Rattle.gf256.proofs.Laws.PolynomialSumLaws.{length-append_zeros, length-polynomial_sum, length-zeros}
use Rattle.gf256.proofs.Laws.PolynomialSumLaws.{polynomial_sum-assoc, length-scalar_multiple, polynomial_sum-comm}
use Rattle.gf256.proofs.Laws.DivisionLaws.{length-next_register, next_register-append_zeros}
use Rattle.gf256.proofs.Laws.GeneratorLaws.{length-low_of, low_of}

pub scalar_multiple-zero : (p : List ℕ) → scalar_multiple 0 p ≡ zeros (length p)
unfolding scalar_multiple
scalar_multiple-zero [] = refl
scalar_multiple-zero (a ∷ p) = λ i. field_product-zero_left a i ∷ scalar_multiple-zero p i

pub scalar_multiple-one : (p : List ℕ) → All IsElement p → scalar_multiple 1 p ≡ p
unfolding scalar_multiple
scalar_multiple-one [] h = refl
scalar_multiple-one (a ∷ p) h =
    λ i. field_product-one_left a (All-head IsElement a p h) i ∷ scalar_multiple-one p (All-tail IsElement a p h) i

scalar_multiple-product : (c d : ℕ) (p : List ℕ) → c < 256 → d < 256 → All IsElement p
    → scalar_multiple c (scalar_multiple d p) ≡ scalar_multiple (field_product c d) p
unfolding scalar_multiple
scalar_multiple-product c d [] hc hd h = refl
scalar_multiple-product c d (a ∷ p) hc hd h =
    λ i. sym (field_product-assoc c d a hc hd (All-head IsElement a p h)) i
    ∷ scalar_multiple-product c d p hc hd (All-tail IsElement a p h) i

scalar_multiple-sum : (c d : ℕ) (p : List ℕ) → polynomial_sum (scalar_multiple c p) (scalar_multiple d p)
    ≡ scalar_multiple (bit_xor c d) p
unfolding scalar_multiple polynomial_sum
scalar_multiple-sum c d [] = refl
scalar_multiple-sum c d (a ∷ p) = λ i. sym (field_product-xor_left c d a) i ∷ scalar_multiple-sum c d p i

scalar_multiple-append_zeros : (c : ℕ) (p : List ℕ) (n : ℕ) → scalar_multiple c (p ++ zeros n)
    ≡ scalar_multiple c p ++ zeros n
unfolding scalar_multiple
scalar_multiple-append_zeros c [] zero = refl
scalar_multiple-append_zeros c [] (suc n) =
    λ i. field_product-zero_right c i ∷ scalar_multiple-append_zeros c [] n i
scalar_multiple-append_zeros c (a ∷ p) n = ap (λ l. field_product c a ∷ l) (scalar_multiple-append_zeros c p n)

pub multiple-even : (i : ℕ) (p : List ℕ) → i < 128 → All IsElement p
    → scalar_multiple 2 (scalar_multiple i p) ≡ scalar_multiple (2 * i) p
multiple-even i p h elements =
    let twice : i * 2 % 256 ≡ 2 * i = omega arith in
    rw (scalar_multiple-product 2 i p (omega arith) (omega arith) elements, ← field_product-two_small i h, twice) refl

pub multiple-odd : (i : ℕ) (p : List ℕ) → i < 128 → All IsElement p
    → polynomial_sum (scalar_multiple 2 (scalar_multiple i p)) p ≡ scalar_multiple (2 * i + 1) p
multiple-odd i p h elements =
    let twice : 2 * i ≡ i * 2 ^ 1 = omega arith in
    rw (
      multiple-even i p h elements,
      twice,
      ← xor_shifted i 1 1 (omega arith),
      ← scalar_multiple-sum (i * 2 ^ 1) 1 p,
      scalar_multiple-one p elements,
    ) refl

sixteens : all_below (λ i. field_product i 16 == i * 2 ^ 4) 16 ≡ true
unfolding all_below field_product binary_product binary_remainder
sixteens = refl

-- each element is the sum of its remainder by 16 and of a multiple of 16
pub multiple-parts : (f : ℕ) (p : List ℕ) → f < 256 → All IsElement p
    → polynomial_sum (scalar_multiple (f % 16) p) (scalar_multiple (f / 16) (scalar_multiple 16 p))
    ≡ scalar_multiple f p
multiple-parts f p h elements =
    let whole : f / 16 * 2 ^ 4 + f % 16 ≡ f = omega arith in
    let sixteen : field_product (f / 16) 16 ≡ f / 16 * 2 ^ 4 =
    eqb-true _ _ (all_below-at (λ i. field_product i 16 == i * 2 ^ 4) 16 (f / 16) sixteens (omega arith)) in
    rw (scalar_multiple-product (f / 16) 16 p (omega arith) (omega arith) elements, sixteen)
    (scalar_multiple-sum (f % 16) (f / 16 * 2 ^ 4) p ∙ ap (λ c. scalar_multiple c p)
    (xor_comm (f % 16) (f / 16 * 2 ^ 4) ∙ xor_shifted (f / 16) 4 (f % 16) (omega arith) ∙ whole))

-- a register with zeros behind it, where the generator has them too
next_register-zeros : (low register : List ℕ) (codeword n : ℕ) → 0 < length low → length register ≡ length low
    → next_register (low ++ zeros n) (register ++ zeros n) codeword ≡ next_register low register codeword ++ zeros n
unfolding next_register
next_register-zeros low [] codeword n some long = absurd (omega arith)
next_register-zeros low (r ∷ rs) codeword n some long =
    let fed = bit_xor r codeword in
    let one_more : n + 1 ≡ suc n = omega arith in
    let behind : (rs ++ zeros n) ++ 0 ∷ [] ≡ rs ++ zeros (suc n) =
    append_assoc rs (zeros n) (0 ∷ []) ∙ ap (λ l. rs ++ l) (replicate-append-replicate {A = ℕ} n 1 0
    ∙ ap zeros one_more)
    in
    (λ i. polynomial_sum (behind i) (scalar_multiple-append_zeros fed low n i))
    ∙ polynomial_sum-comm (rs ++ zeros (suc n)) (scalar_multiple fed low ++ zeros n)
    ∙ sym (next_register-append_zeros low rs r codeword n (omega arith))

register_after-zeros : (low register codewords : List ℕ) (n : ℕ) → 0 < length low → length register ≡ length low
    → register_after (low ++ zeros n) (register ++ zeros n) codewords
    ≡ register_after low register codewords ++ zeros n
unfolding register_after
register_after-zeros low register [] n some long = refl
register_after-zeros low register (codeword ∷ codewords) n some long =
    rw (next_register-zeros low register codeword n some long)
    (register_after-zeros low (next_register low register codeword) codewords n some
    (length-next_register low register codeword some long))

-- the k codewords are in front of the 32 places of a register
pub ec_codewords-padded : (k : ℕ) (codewords : List ℕ) → IsEcCodewordCount k
    → length (register_after (low_of k) (zeros k) codewords) ≡ k
    → take k (register_after (padded_generator k) (zeros 32) codewords) ≡ register_after (low_of k) (zeros k) codewords
unfolding padded_generator low_of
ec_codewords-padded k codewords few long =
    let low = drop 1 (generator k) in
    let all : k + (32 - k) ≡ 32 = omega (arith, few.1) in
    let start : zeros 32 ≡ zeros k ++ zeros (32 - k) =
    sym (replicate-append-replicate {A = ℕ} k (32 - k) 0 ∙ ap zeros all) in
    rw (
      start,
      register_after-zeros low (zeros k) codewords (32 - k) (omega (arith, length-low_of k, few.0))
          (length-zeros k ∙ sym (length-low_of k)),
    ) (take_at (register_after low (zeros k) codewords) (zeros (32 - k)) k long)

-- an operator on two vectors
pub zip2-polynomial_sum : (p q : List ℕ) → length p ≡ length q → zip2 bit_xor p q ≡ polynomial_sum p q
unfolding polynomial_sum
zip2-polynomial_sum [] [] same = refl
zip2-polynomial_sum [] (b ∷ q) same = absurd (omega (arith, same))
zip2-polynomial_sum (a ∷ p) [] same = absurd (omega (arith, same))
zip2-polynomial_sum (a ∷ p) (b ∷ q) same = ap (λ l. bit_xor a b ∷ l) (zip2-polynomial_sum p q (omega (arith, same)))

pub ruleset of_sum = (zip2-polynomial_sum)

-- the sum of a vector and the rows of two tables, of which each holds a part of a multiple
pub zip2-parts : (p low high divisor : List ℕ) (fed : ℕ) → fed < 256 → All IsElement divisor
    → length p ≡ length divisor → low ≡ scalar_multiple (fed % 16) divisor
    → high ≡ scalar_multiple (fed / 16) (scalar_multiple 16 divisor)
    → zip2 bit_xor (zip2 bit_xor p low) high ≡ polynomial_sum p (scalar_multiple fed divisor)
zip2-parts p low high divisor fed small elements long is_low is_high =
    let front = scalar_multiple (fed % 16) divisor in
    let back = scalar_multiple (fed / 16) (scalar_multiple 16 divisor) in
    rw (
      is_low,
      is_high,
      zip2-polynomial_sum p front (omega (arith, length-scalar_multiple)),
      zip2-polynomial_sum (polynomial_sum p front) back (omega (arith, length-scalar_multiple, length-polynomial_sum)),
      polynomial_sum-assoc p front back,
      multiple-parts fed divisor small elements,
    ) refl

-- the places 1 to 32 of a register and of a vector of zeros behind it
pub next_places : (register : List ℕ) → length register ≡ 32
    → pick_l 0 (register ++ zeros 32) (range_with_len 1 32) ≡ drop 1 register ++ 0 ∷ []
next_places [] long = absurd (omega (arith, long))
next_places (r ∷ rs) long =
    let all = (r ∷ rs) ++ zeros 32 in
    let one_more : length rs + 1 ≡ 32 = omega (arith, long) in
    pick_l-range_with_len 0 all 1 32 (omega (arith, long, length-append_zeros (r ∷ rs) 32))
    ∙ ap (λ n. take n (rs ++ zeros 32)) (sym one_more) ∙ take-append-add rs (zeros 32) 1
