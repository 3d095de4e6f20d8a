-- The generator polynomial, and the error correction codewords as the remainder by it.
use Rattle.std.proofs.Common.{◌≡◌, ℕ, zero, suc, ◌+◌, ◌-◌, ◌<◌, List, [], ◌∷◌, ◌++◌, length, drop, refl, sym, ap, ◌∙◌}
use Rattle.std.proofs.Common.{arith, inl, inr}
use Rattle.std.specs.Prelude.{bit_xor, All}
use Rattle.std.specs.Int.Bits.{xor_zero_r, xor_self}
use Rattle.std.proofs.lemmas.Bool.{cases_lt}
use Rattle.std.proofs.lemmas.List.{length-append, length-drop, replicate-append-replicate}
use Rattle.std.proofs.lemmas.List.Elements.{All-head, All-tail, All-cons, All-nil, All-append, All-replicate}
use Rattle.gf256.specs.BinaryPolynomial.{binary_product, binary_remainder}
use Rattle.gf256.specs.Field.{field_product, field_power, IsElement}
use Rattle.gf256.specs.Private.{padded_generator, register_after, zeros}
use Rattle.gf256.specs.Polynomial.{evaluate, polynomial_sum, scalar_multiple, polynomial_product}
use Rattle.gf256.specs.ErrorCorrection.{generator, ec_codewords_of, remainder_of, IsRemainder, HasRoots}
use Rattle.gf256.specs.ErrorCorrection.{IsEcCodewordCount}
use Rattle.gf256.proofs.Laws.DistributivityLaws.{field_product-zero_left, field_product-zero_right}
use Rattle.gf256.proofs.Laws.FieldLaws.{field_product-one_right}
use Rattle.gf256.proofs.Laws.PolynomialSumLaws.{length-append_zeros, length-polynomial_sum, length-zeros}
use Rattle.gf256.proofs.Laws.PolynomialSumLaws.{polynomial_sum-append, polynomial_sum-zeros_left, polynomial_sum-zeros_right}
use Rattle.gf256.proofs.Laws.DivisionLaws.{All-polynomial_sum, All-scalar_multiple, IsDivision-register_after, IsRegister}
use Rattle.gf256.proofs.Laws.DivisionLaws.{length-polynomial_product, remainder_of-sum}
use Rattle.gf256.proofs.Laws.EvaluationLaws.{field_power-lt, field_product-one_left, evaluate-polynomial_product}
use Rattle.gf256.proofs.Laws.EvaluationLaws.{evaluate-polynomial_sum}

pub All-zeros : (n : ℕ) → All IsElement (zeros n)
All-zeros n = All-replicate IsElement n 0 (omega arith)

-- the product of elements' polynomials has elements
pub All-polynomial_product : (p q : List ℕ) → All IsElement p → All IsElement q → All IsElement (polynomial_product p q)
unfolding polynomial_product
All-polynomial_product [] [] hp hq = All-nil IsElement
All-polynomial_product [] (b ∷ q) hp hq = All-zeros (length q)
All-polynomial_product (c ∷ p) q hp hq = All-polynomial_sum _ _
    (All-append IsElement _ _ (All-scalar_multiple c q (All-head IsElement c p hp) hq) (All-zeros (length p)))
    (All-cons IsElement 0 _ (omega arith) (All-polynomial_product p q (All-tail IsElement c p hp) hq))

root_factor : (k : ℕ) → All IsElement (1 ∷ field_power 2 k ∷ [])
root_factor k = All-cons IsElement 1 (field_power 2 k ∷ []) (omega arith)
    (All-cons IsElement (field_power 2 k) [] (field_power-lt 2 k (omega arith)) (All-nil IsElement))

pub All-generator : (k : ℕ) → All IsElement (generator k)
unfolding generator
All-generator zero = All-cons IsElement 1 [] (omega arith) (All-nil IsElement)
All-generator (suc k) = All-polynomial_product (1 ∷ field_power 2 k ∷ []) (generator k) (root_factor k)
    (All-generator k)

-- the highest coefficient of a product with x + a
monic_product : (a : ℕ) (low : List ℕ) → polynomial_product (1 ∷ a ∷ []) (1 ∷ low)
    ≡ 1 ∷ drop 1 (polynomial_product (1 ∷ a ∷ []) (1 ∷ low))
unfolding polynomial_product polynomial_sum scalar_multiple field_product binary_product binary_remainder
monic_product a low = refl

-- the coefficients below the highest
unfoldable pub low_of : ℕ → List ℕ
low_of k = drop 1 (generator k)

-- the generator is x^k and lower terms
pub generator-low : (k : ℕ) → generator k ≡ 1 ∷ low_of k
unfolding low_of generator
generator-low zero = refl
generator-low (suc k) = rw (generator-low k) (monic_product (field_power 2 k) (low_of k))

pub length-low_of : (k : ℕ) → length (low_of k) ≡ k
unfolding low_of generator
length-low_of zero = refl
length-low_of (suc k) =
    let factor = 1 ∷ field_power 2 k ∷ [] in
    rw (generator-low k) (length-drop 1 (polynomial_product factor (1 ∷ low_of k))
    ∙ omega (arith, length-polynomial_product factor (low_of k) 1, length-low_of k))

pub All-low_of : (k : ℕ) → All IsElement (low_of k)
All-low_of k = All-tail IsElement 1 (low_of k) (rw generator-low at (All-generator k))

pub length-padded_generator : (k : ℕ) → IsEcCodewordCount k → length (padded_generator k) ≡ 32
unfolding padded_generator low_of
length-padded_generator k few =
    length-append_zeros (low_of k) (32 - k) ∙ omega (arith, length-low_of k, few.1)

pub All-padded_generator : (k : ℕ) → All IsElement (padded_generator k)
unfolding padded_generator low_of
All-padded_generator k = All-append IsElement (low_of k) (zeros (32 - k)) (All-low_of k) (All-zeros (32 - k))

-- the value of x + a at x
root_value : (a x : ℕ) → a < 256 → x < 256 → evaluate (1 ∷ a ∷ []) x ≡ bit_xor x a
unfolding evaluate field_power
root_value a x ha hx = rw (
  field_product-one_right x hx,
  field_product-one_left x hx,
  field_product-one_right a ha,
  xor_zero_r a,
) refl

-- a multiple of the generator, by the values of the other factor and of the generator
evaluate-multiple : (p : List ℕ) (k x : ℕ) → All IsElement p → x < 256
    → evaluate (polynomial_product p (generator k)) x ≡ field_product (evaluate p x) (evaluate (generator k) x)
evaluate-multiple p k x hp hx = rw (generator-low k) (evaluate-polynomial_product p (low_of k) 1 x hp
    (All-cons IsElement 1 (low_of k) (omega arith) (All-low_of k)) hx)

pub HasRoots-generator : (k : ℕ) → HasRoots k (generator k)
unfolding generator
HasRoots-generator zero i h = absurd (omega arith)
HasRoots-generator (suc k) i h =
    let a = field_power 2 k in
    let x = field_power 2 i in
    let hx = field_power-lt 2 i (omega arith) in
    evaluate-multiple (1 ∷ a ∷ []) k x (root_factor k) hx ∙ elim (cases_lt i k) [
      | inl below ↦ rw (HasRoots-generator k i below) (field_product-zero_right (evaluate (1 ∷ a ∷ []) x))
      | inr last ↦
          let at : i ≡ k = omega arith in
          rw (root_value a x (field_power-lt 2 k (omega arith)) hx, at, xor_self a)
          (field_product-zero_left (evaluate (generator k) a))
    ]

-- the message times x^k is what the register and the codewords to come represent at the start
start_whole : (k : ℕ) (message : List ℕ) → polynomial_sum (zeros k ++ zeros (length message)) (message ++ zeros k)
    ≡ message ++ zeros k
start_whole k message = rw (replicate-append-replicate {A = ℕ} k (length message) 0)
    (polynomial_sum-zeros_left (k + length message) (message ++ zeros k) (omega (arith, length-append_zeros message k)))

-- what the register holds after a block is a remainder
pub IsRemainder-register_after : (k : ℕ) (message : List ℕ) → 0 < k → All IsElement message
    → IsRemainder k message (register_after (low_of k) (zeros k) message)
IsRemainder-register_after k message pos hm =
    let low = low_of k in
    let long : length low ≡ k = length-low_of k in
    let start : IsRegister low (zeros k) = record { long = length-zeros k ∙ sym long; elements = All-zeros k } in
    let divided = IsDivision-register_after low (zeros k) message (omega (arith, long)) (All-low_of k) start hm in
    record {
      quotient = divided.quotient;
      quotient_elements = divided.quotient_elements;
      quotient_length = divided.quotient_length;
      ec_codewords_length = divided.last_register.long ∙ long;
      ec_codewords_elements = divided.last_register.elements;
      division = sym (start_whole k message)
          ∙ ap (λ m. polynomial_sum (zeros k ++ zeros (length message)) (message ++ zeros m)) (sym long)
          ∙ divided.division
          ∙ ap (λ g. polynomial_sum (polynomial_product divided.quotient g) (zeros (length message)
          ++ register_after low (zeros k) message)) (sym (generator-low k));
    }

-- a long division leaves any remainder that there is
left : (k : ℕ) (message r : List ℕ) → IsRemainder k message r
    → remainder_of (low_of k) (length message) (message ++ zeros k) ≡ r
left k message r w = rw (w.division, ← w.quotient_length, generator-low k) (remainder_of-sum (low_of k) w.quotient r
    (w.ec_codewords_length ∙ sym (length-low_of k)) w.quotient_elements)

-- there is no other remainder
pub IsRemainder-unique : (k : ℕ) (message p p' : List ℕ) → IsRemainder k message p → IsRemainder k message p' → p ≡ p'
IsRemainder-unique k message p p' h h' = sym (left k message p h) ∙ left k message p' h'

-- the error correction codewords of a block are what the register holds, and so a remainder
pub ec_codewords_of-register : (k : ℕ) (message : List ℕ) → 0 < k → All IsElement message
    → ec_codewords_of k message ≡ register_after (low_of k) (zeros k) message
unfolding ec_codewords_of low_of
ec_codewords_of-register k message pos hm = left k message _ (IsRemainder-register_after k message pos hm)

pub IsRemainder-ec_codewords_of : (k : ℕ) (message : List ℕ) → 0 < k → All IsElement message
    → IsRemainder k message (ec_codewords_of k message)
IsRemainder-ec_codewords_of k message pos hm =
    rw (ec_codewords_of-register k message pos hm) (IsRemainder-register_after k message pos hm)

-- the message followed by its error correction codewords is a multiple of the generator
pub HasRoots-remainder : (k : ℕ) (message p : List ℕ) → IsRemainder k message p → HasRoots k (message ++ p)
HasRoots-remainder k message p h i below =
    let n = length message in
    let x = field_power 2 i in
    let hx = field_power-lt 2 i (omega arith) in
    let multiple = polynomial_product h.quotient (generator k) in
    let behind = zeros n ++ p in
    let sum : message ++ p ≡ polynomial_sum (message ++ zeros k) behind = sym (
    polynomial_sum-append message (zeros k) (zeros n) p (sym (length-zeros n))
    ∙ rw (
      polynomial_sum-zeros_right n message (omega arith),
      polynomial_sum-zeros_left k p (omega (arith, h.ec_codewords_length)),
    ) refl) in
    let long : length multiple ≡ length behind = rw (generator-low k) (
    length-polynomial_product h.quotient (low_of k) 1
    ∙ omega (arith, h.quotient_length, h.ec_codewords_length, length-low_of k, length-append {A = ℕ}, length-zeros)) in
    let root : evaluate multiple x ≡ 0 = evaluate-multiple h.quotient k x h.quotient_elements hx
    ∙ rw (HasRoots-generator k i below) (field_product-zero_right (evaluate h.quotient x)) in
    rw (sum, h.division) (evaluate-polynomial_sum (polynomial_sum multiple behind) behind x
    (omega (arith, length-polynomial_sum multiple behind, long))
    ∙ rw (evaluate-polynomial_sum multiple behind x long, root) (xor_self (evaluate behind x)))
