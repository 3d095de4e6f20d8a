-- Sums of polynomials, as lists of coefficients.
use Rattle.std.proofs.Common.{◌≡◌, ℕ, zero, suc, ◌+◌, ◌≤◌, max, List, [], ◌∷◌, ◌++◌, length, refl, sym, ap, ◌∙◌, arith}
use Rattle.std.specs.Prelude.{bit_xor}
use Rattle.std.specs.Int.Bits.{xor_assoc, xor_comm, xor_self}
use Rattle.std.proofs.lemmas.List.{length-append, length-map, length-replicate}
use Rattle.gf256.specs.Field.{field_product}
use Rattle.gf256.specs.Private.{zeros}
use Rattle.gf256.specs.Polynomial.{polynomial_sum, scalar_multiple}

pub length-zeros : (n : ℕ) → length (zeros n) ≡ n
length-zeros n = length-replicate {A = ℕ} n 0

pub polynomial_sum-assoc : (p q r : List ℕ) → polynomial_sum (polynomial_sum p q) r
    ≡ polynomial_sum p (polynomial_sum q r)
unfolding polynomial_sum
polynomial_sum-assoc [] q r = refl
polynomial_sum-assoc (a ∷ p) [] r = refl
polynomial_sum-assoc (a ∷ p) (b ∷ q) [] = refl
polynomial_sum-assoc (a ∷ p) (b ∷ q) (c ∷ r) = rw (xor_assoc a b c, polynomial_sum-assoc p q r) refl

pub polynomial_sum-comm : (p q : List ℕ) → polynomial_sum p q ≡ polynomial_sum q p
unfolding polynomial_sum
polynomial_sum-comm [] [] = refl
polynomial_sum-comm [] (b ∷ q) = refl
polynomial_sum-comm (a ∷ p) [] = refl
polynomial_sum-comm (a ∷ p) (b ∷ q) = λ i. xor_comm a b i ∷ polynomial_sum-comm p q i

pub polynomial_sum-self : (p : List ℕ) → polynomial_sum p p ≡ zeros (length p)
unfolding polynomial_sum
polynomial_sum-self [] = refl
polynomial_sum-self (a ∷ p) = λ i. xor_self a i ∷ polynomial_sum-self p i

pub polynomial_sum-zeros_left : (n : ℕ) (p : List ℕ) → n ≤ length p → polynomial_sum (zeros n) p ≡ p
unfolding polynomial_sum
polynomial_sum-zeros_left zero p h = refl
polynomial_sum-zeros_left (suc n) [] h = absurd (omega arith)
polynomial_sum-zeros_left (suc n) (a ∷ p) h = ap (λ l. a ∷ l) (polynomial_sum-zeros_left n p (omega arith))

pub polynomial_sum-zeros_right : (n : ℕ) (p : List ℕ) → n ≤ length p → polynomial_sum p (zeros n) ≡ p
polynomial_sum-zeros_right n p h = polynomial_sum-comm p (zeros n) ∙ polynomial_sum-zeros_left n p h

-- adding p twice changes nothing
pub polynomial_sum-twice : (p q : List ℕ) → length p ≤ length q → polynomial_sum p (polynomial_sum p q) ≡ q
polynomial_sum-twice p q h =
    sym (polynomial_sum-assoc p p q) ∙ rw (polynomial_sum-self p) (polynomial_sum-zeros_left (length p) q h)

pub length-polynomial_sum : (p q : List ℕ) → length (polynomial_sum p q) ≡ max (length p) (length q)
unfolding polynomial_sum
length-polynomial_sum [] q = omega arith
length-polynomial_sum (a ∷ p) [] = omega arith
length-polynomial_sum (a ∷ p) (b ∷ q) = omega (arith, length-polynomial_sum p q)

-- a sum of parts of equal length
pub polynomial_sum-append : (p q r s : List ℕ) → length p ≡ length r
    → polynomial_sum (p ++ q) (r ++ s) ≡ polynomial_sum p r ++ polynomial_sum q s
unfolding polynomial_sum
polynomial_sum-append [] q [] s h = refl
polynomial_sum-append [] q (c ∷ r) s h = absurd (omega arith)
polynomial_sum-append (a ∷ p) q [] s h = absurd (omega arith)
polynomial_sum-append (a ∷ p) q (c ∷ r) s h = ap (λ l. bit_xor a c ∷ l) (polynomial_sum-append p q r s (omega arith))

pub length-scalar_multiple : (c : ℕ) (p : List ℕ) → length (scalar_multiple c p) ≡ length p
unfolding scalar_multiple
length-scalar_multiple c p = length-map p (field_product c)

pub length-append_zeros : (p : List ℕ) (n : ℕ) → length (p ++ zeros n) ≡ length p + n
length-append_zeros p n = length-append p (zeros n) ∙ omega (arith, length-zeros n)
