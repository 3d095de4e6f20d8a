-- The shift register divides by the generator, and the remainder is the only one.
use Rattle.std.proofs.Common.{◌≡◌, ℕ, suc, ◌+◌, ◌<◌, ◌≤◌, List, [], ◌∷◌, ◌++◌, length, refl, sym, ap, ◌∙◌, arith}
use Rattle.std.specs.Prelude.{bit_xor, All}
use Rattle.std.specs.Int.Bits.{xor_zero_r}
use Rattle.std.proofs.lemmas.List.{length-append, append-nil, append_assoc}
use Rattle.std.proofs.lemmas.List.Elements.{All-head, All-tail, All-cons, All-nil, All-append, All-replicate}
use Rattle.std.proofs.lemmas.Nat.{xor_of_8}
use Rattle.gf256.specs.Field.{field_product, IsElement}
use Rattle.gf256.specs.ErrorCorrection.{remainder_of}
use Rattle.gf256.specs.Private.{next_register, register_after, zeros}
use Rattle.gf256.specs.Polynomial.{polynomial_sum, scalar_multiple, polynomial_product}
use Rattle.gf256.proofs.Laws.FieldLaws.{field_product-lt, field_product-one_right}
use Rattle.gf256.proofs.Laws.PolynomialSumLaws.{length-append_zeros, length-polynomial_sum, length-scalar_multiple}
use Rattle.gf256.proofs.Laws.PolynomialSumLaws.{length-zeros, polynomial_sum-append, polynomial_sum-assoc}
use Rattle.gf256.proofs.Laws.PolynomialSumLaws.{polynomial_sum-comm, polynomial_sum-twice, polynomial_sum-zeros_left}

-- a register for the division by x^k + low: k elements
pub record IsRegister (low register : List ℕ) : Type 0 where
  pub long : length register ≡ length low
  pub elements : All IsElement register

pub length-next_register : (low register : List ℕ) (codeword : ℕ) → 0 < length low → length register ≡ length low
    → length (next_register low register codeword) ≡ length low
unfolding next_register
length-next_register low [] codeword pos h = absurd (omega arith)
length-next_register low (r ∷ rs) codeword pos h =
    omega (arith, length-polynomial_sum, length-append {A = ℕ}, length-scalar_multiple)

pub All-polynomial_sum : (p q : List ℕ) → All IsElement p → All IsElement q → All IsElement (polynomial_sum p q)
unfolding polynomial_sum
All-polynomial_sum [] q hp hq = hq
All-polynomial_sum (a ∷ p) [] hp hq = hp
All-polynomial_sum (a ∷ p) (b ∷ q) hp hq = All-cons IsElement _ _ (xor_of_8 a b (All-head IsElement a p hp)
    (All-head IsElement b q hq)) (All-polynomial_sum p q (All-tail IsElement a p hp) (All-tail IsElement b q hq))

pub All-scalar_multiple : (c : ℕ) (p : List ℕ) → c < 256 → All IsElement p → All IsElement (scalar_multiple c p)
unfolding scalar_multiple
All-scalar_multiple c [] hc hp = All-nil IsElement
All-scalar_multiple c (a ∷ p) hc hp = All-cons IsElement _ _ (field_product-lt c a hc (All-head IsElement a p hp))
    (All-scalar_multiple c p hc (All-tail IsElement a p hp))

pub IsRegister-next : (low register : List ℕ) (codeword : ℕ) → 0 < length low → All IsElement low
    → IsRegister low register → codeword < 256 → IsRegister low (next_register low register codeword)
unfolding next_register
IsRegister-next low [] codeword pos hl h hw = absurd (omega (arith, h.long))
IsRegister-next low (r ∷ rs) codeword pos hl h hw = record {
  long = length-next_register low (r ∷ rs) codeword pos h.long;
  elements = All-polynomial_sum _ _ (All-append IsElement rs (0 ∷ []) (All-tail IsElement r rs h.elements)
      (All-replicate IsElement 1 0 (omega arith)))
      (All-scalar_multiple _ low (xor_of_8 r codeword (All-head IsElement r rs h.elements) hw) hl);
}

-- an element times the highest coefficient, 1, with nothing added
product_with_one : (a : ℕ) → a < 256 → bit_xor (bit_xor (field_product a 1) 0) 0 ≡ a
product_with_one a h = rw (xor_zero_r (bit_xor (field_product a 1) 0), xor_zero_r (field_product a 1))
    (field_product-one_right a h)

-- a register with zeros behind it, one step on
pub next_register-append_zeros : (low rs : List ℕ) (r codeword n : ℕ) → suc (length rs) ≡ length low →
    next_register low (r ∷ rs) codeword ++ zeros n ≡ polynomial_sum (scalar_multiple
    (bit_xor r codeword) low ++ zeros n) (rs ++ zeros (suc n))
unfolding next_register
next_register-append_zeros low rs r codeword n h =
    let A = rs ++ 0 ∷ [] in
    let S = scalar_multiple (bit_xor r codeword) low in
    sym (ap (polynomial_sum (S ++ zeros n)) (sym (append_assoc rs (0 ∷ []) (zeros n)))
    ∙ polynomial_sum-append S (zeros n) A (zeros n) (omega (arith, length-append {A = ℕ}, length-scalar_multiple))
    ∙ rw (polynomial_sum-zeros_left n (zeros n) (omega (arith, length-zeros n)), polynomial_sum-comm S A) refl)

-- the register and the codewords still to come, as one polynomial, are a quotient times the divisor plus the last
-- register
pub record IsDivision (low register codewords last : List ℕ) : Type 0 where
  pub quotient : List ℕ
  pub quotient_elements : All IsElement quotient
  pub quotient_length : length quotient ≡ length codewords
  pub last_register : IsRegister low last
  pub division : polynomial_sum (register ++ zeros (length codewords)) (codewords ++ zeros (length low))
      ≡ polynomial_sum (polynomial_product quotient (1 ∷ low)) (zeros (length codewords) ++ last)

pub IsDivision-register_after : (low register codewords : List ℕ) → 0 < length low → All IsElement low
    → IsRegister low register → All IsElement codewords
    → IsDivision low register codewords (register_after low register codewords)
unfolding register_after polynomial_sum polynomial_product scalar_multiple
IsDivision-register_after low register [] pos hl h hw = record {
  quotient = [];
  quotient_elements = All-nil IsElement;
  quotient_length = refl;
  last_register = h;
  division = rw (append-nil register) (polynomial_sum-comm register (zeros (length low)));
}
IsDivision-register_after low [] (codeword ∷ codewords) pos hl h hw = absurd (omega (arith, h.long))
IsDivision-register_after low (r ∷ rs) (codeword ∷ codewords) pos hl h hw =
    let fed = bit_xor r codeword in
    let n = length codewords in
    let element = xor_of_8 r codeword (All-head IsElement r rs h.elements) (All-head IsElement codeword codewords hw) in
    let rest = IsDivision-register_after low (next_register low (r ∷ rs) codeword) codewords pos hl
    (IsRegister-next low (r ∷ rs) codeword pos hl h (All-head IsElement codeword codewords hw))
    (All-tail IsElement codeword codewords hw) in
    let multiple = scalar_multiple fed low ++ zeros n in
    let ahead = rs ++ zeros (suc n) in
    let message = codewords ++ zeros (length low) in
    let product = polynomial_product rest.quotient (1 ∷ low) in
    let behind = zeros n ++ register_after low (next_register low (r ∷ rs) codeword) codewords in
    let long : length multiple ≤ length (polynomial_sum ahead message) =
    omega (arith, length-append_zeros, length-scalar_multiple, length-polynomial_sum) in
    let tail : polynomial_sum ahead message ≡ polynomial_sum (polynomial_sum multiple product) behind =
    sym (polynomial_sum-twice multiple (polynomial_sum ahead message) long)
    ∙ ap (polynomial_sum multiple) (sym (polynomial_sum-assoc multiple ahead message)
    ∙ ap (λ l. polynomial_sum l message) (sym (next_register-append_zeros low rs r codeword n (omega (arith, h.long))))
    ∙ rest.division)
    ∙ sym (polynomial_sum-assoc multiple product behind) in
    record {
      quotient = fed ∷ rest.quotient;
      quotient_elements = All-cons IsElement fed rest.quotient element rest.quotient_elements;
      quotient_length = ap suc rest.quotient_length;
      last_register = rest.last_register;
      division = rw (product_with_one fed element, rest.quotient_length) (ap (λ l. fed ∷ l) tail);
    }

pub length-polynomial_product : (p q : List ℕ) (b : ℕ) → length (polynomial_product p (b ∷ q)) ≡ length p + length q
unfolding polynomial_product
length-polynomial_product [] q b = length-zeros (length q) ∙ omega arith
length-polynomial_product (c ∷ p) q b =
    omega (arith, length-polynomial_sum, length-append_zeros, length-scalar_multiple, length-polynomial_product p q b)

-- a multiple of the divisor plus a remainder leaves this remainder, so that there is no other
pub remainder_of-sum : (low quotient p : List ℕ) → length p ≡ length low → All IsElement quotient
    → remainder_of low (length quotient) (polynomial_sum (polynomial_product quotient (1 ∷ low))
    (zeros (length quotient) ++ p)) ≡ p
unfolding remainder_of polynomial_sum polynomial_product scalar_multiple
remainder_of-sum low [] p long elements = polynomial_sum-zeros_left (length low) p (omega arith)
remainder_of-sum low (f ∷ quotient) p long elements =
    let n = length quotient in
    let multiple = scalar_multiple f low ++ zeros n in
    let product = polynomial_product quotient (1 ∷ low) in
    let behind = zeros n ++ p in
    let size : length multiple ≤ length (polynomial_sum product behind) =
    omega (arith, length-scalar_multiple, length-polynomial_sum, length-append {A = ℕ}, length-zeros) in
    rw (
      product_with_one f (All-head IsElement f quotient elements),
      polynomial_sum-assoc multiple product behind,
      polynomial_sum-twice multiple (polynomial_sum product behind) size,
    ) (remainder_of-sum low quotient p long (All-tail IsElement f quotient elements))
