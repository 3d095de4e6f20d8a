-- The product of the field is a remainder, and the only one: tests computed over all elements.
use Rattle.std.proofs.Common.{◌≡◌, ℕ, zero, suc, ◌+◌, ◌-◌, ◌*◌, ◌^◌, ◌<◌, ◌≤◌, true, nat_le, refl, sym, ap, subst, ◌∙◌}
use Rattle.std.proofs.Common.{arith, leb-true}
use Rattle.std.specs.Prelude.{bit_xor}
use Rattle.std.specs.Int.{bit_at}
use Rattle.std.specs.Int.Bits.{xor_zero_r, xor_assoc, xor_comm, xor_self, xor_lt}
use Rattle.std.proofs.lemmas.Nat.{mul-le}
use Rattle.std.proofs.lemmas.Nat.Bits.{bit_at_cat_low, bit_at_cat_high, bit_at_lowest, bit_at-lt}
use Rattle.std.proofs.Math.Nat.{pow-suc, mod-eq_of_lt}
use Rattle.gf256.specs.BinaryPolynomial.{binary_product, binary_remainder}
use Rattle.gf256.specs.Private.{field_modulus}
use Rattle.gf256.specs.Field.{field_product, IsFieldProduct, IsTheFieldProduct}
use Rattle.gf256.proofs.Laws.AllBelowLaws.{all_below, all_below-at}
use Rattle.gf256.proofs.Laws.DistributivityLaws.{binary_product-xor_right, xor_medial}
use Rattle.gf256.proofs.Laws.FieldLaws.{field_product-lt}

-- the quotient of the long division
unfoldable pub binary_quotient : (d modulus n a : ℕ) → ℕ
binary_quotient d modulus zero a = 0
binary_quotient d modulus (suc n) a =
    bit_at a (d + n) * 2 ^ n + binary_quotient d modulus n (bit_xor a (bit_at a (d + n) * (modulus * 2 ^ n)))

pub binary_quotient-lt : (d modulus n a : ℕ) → binary_quotient d modulus n a < 2 ^ n
unfolding binary_quotient
binary_quotient-lt d modulus zero a = omega arith
binary_quotient-lt d modulus (suc n) a =
    let low = binary_quotient-lt d modulus n (bit_xor a (bit_at a (d + n) * (modulus * 2 ^ n))) in
    let high = mul-le (bit_at a (d + n)) (2 ^ n) 1 (2 ^ n) (omega (arith, bit_at-lt a (d + n))) (omega arith) in
    let double : 2 ^ suc n ≡ 2 ^ n * 2 = pow-suc 2 n in
    omega (arith, low, high, double)

-- adding a number twice changes nothing
xor_twice : (a b : ℕ) → bit_xor (bit_xor a b) b ≡ a
xor_twice a b = rw (xor_assoc a b b, xor_self b) (xor_zero_r a)

-- two numbers whose sum is 0 are equal
pub same_from_xor : (a b : ℕ) → bit_xor a b ≡ 0 → a ≡ b
same_from_xor a b h = sym (xor_twice a b) ∙ ap (λ x. bit_xor x b) h

-- the terms of b from x^k on do not count
binary_product-low : (n k modulus u q : ℕ) → n ≤ k → binary_product n modulus (u * 2 ^ k + q)
    ≡ binary_product n modulus q
unfolding binary_product
binary_product-low zero k modulus u q h = refl
binary_product-low (suc n) k modulus u q h =
    rw (binary_product-low n k modulus u q (omega arith), bit_at_cat_low u k q n (omega arith)) refl

-- what was divided is the quotient times the modulus plus the remainder
pub binary_division : (d modulus n a : ℕ) →
    a ≡ bit_xor (binary_product n modulus (binary_quotient d modulus n a)) (binary_remainder d modulus n a)
unfolding binary_quotient binary_product binary_remainder
binary_division d modulus zero a = refl
binary_division d modulus (suc n) a =
    let u = bit_at a (d + n) in
    let M = u * (modulus * 2 ^ n) in
    let rest = bit_xor a M in
    let q = binary_quotient d modulus n rest in
    let r = binary_remainder d modulus n rest in
    let P = binary_product n modulus q in
    let place : n - n ≡ 0 = omega arith in
    let top : bit_at (u * 2 ^ n + q) n ≡ u =
    bit_at_cat_high u n q n (binary_quotient-lt d modulus n rest) (omega arith)
    ∙ ap (bit_at u) place ∙ bit_at_lowest u ∙ mod-eq_of_lt (bit_at-lt a (d + n)) in
    sym (xor_twice a M) ∙ ap (λ x. bit_xor x M) (binary_division d modulus n rest)
    ∙ rw (top, binary_product-low n n modulus u q (omega arith), xor_assoc P r M, xor_comm r M)
    (sym (xor_assoc P M r))

pub IsFieldProduct-field_product : (a b : ℕ) → a < 256 → b < 256 → IsFieldProduct a b (field_product a b)
unfolding field_product
IsFieldProduct-field_product a b ha hb = record {
  element = field_product-lt a b ha hb;
  quotient = binary_quotient 8 field_modulus 7 (binary_product 8 a b);
  quotient_degree = binary_quotient-lt 8 field_modulus 7 (binary_product 8 a b);
  division = binary_division 8 field_modulus 7 (binary_product 8 a b);
}

-- a multiple of the modulus has degree 8 or more, or is 0
multiples : all_below (λ q. nat_le 256 (binary_product 7 field_modulus (suc q))) 127 ≡ true
unfolding all_below binary_product
multiples = refl

multiple_below : (q : ℕ) → q < 128 → binary_product 7 field_modulus q < 256 → q ≡ 0
multiple_below zero below small = refl
multiple_below (suc q) below small = absurd (omega (
  arith,
  small,
  leb-true _ _ (all_below-at
      (λ q. nat_le 256 (binary_product 7 field_modulus (suc q))) 127 q multiples (omega arith)),
))

pub IsFieldProduct-unique : (a b r s : ℕ) → IsFieldProduct a b r → IsFieldProduct a b s → r ≡ s
IsFieldProduct-unique a b r s h k =
    let q = h.quotient in
    let t = k.quotient in
    let P = binary_product 7 field_modulus q in
    let R = binary_product 7 field_modulus t in
    let none : bit_xor (bit_xor P R) (bit_xor r s) ≡ 0 =
    xor_medial P R r s ∙ rw (← h.division, ← k.division) (xor_self (binary_product 8 a b)) in
    let same : binary_product 7 field_modulus (bit_xor q t) ≡ bit_xor r s =
    binary_product-xor_right 7 field_modulus q t ∙ same_from_xor (bit_xor P R) (bit_xor r s) none in
    let equal : q ≡ t = same_from_xor q t (multiple_below (bit_xor q t)
    (xor_lt 7 q t h.quotient_degree k.quotient_degree)
    (omega (arith, same, xor_lt 8 r s h.element k.element))) in
    same_from_xor r s (sym same ∙ binary_product-xor_right 7 field_modulus q t ∙ rw equal (xor_self R))

-- what equals the product has its clauses
pub IsTheFieldProduct-from_value : (a b r : ℕ) → a < 256 → b < 256 → r ≡ field_product a b → IsTheFieldProduct a b r
IsTheFieldProduct-from_value a b r ha hb value =
    let remainder = subst (IsFieldProduct a b) (sym value) (IsFieldProduct-field_product a b ha hb) in
    record { value = value; remainder = remainder; only = λ s h. IsFieldProduct-unique a b s r h remainder }
