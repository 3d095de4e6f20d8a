-- The laws of the field's product on elements, which are the numbers below 256. The product distributes over exclusive
-- or, so that each law is computed for the powers of two alone.
use Rattle.std.proofs.Common.{◌≡◌, ℕ, zero, suc, ◌-◌, ◌*◌, ◌%◌, ◌^◌, ◌<◌, ◌≤◌, true, ◌==◌, nat_lt, cond, refl, sym}
use Rattle.std.proofs.Common.{subst, ◌∙◌, arith, eqb-true, ltb-true, inl, inr, Bool}
use Rattle.std.specs.Prelude.{bit_xor}
use Rattle.std.specs.Int.Bits.{xor_self, xor_shifted}
use Rattle.std.proofs.lemmas.Nat.{xor_lt}
use Rattle.std.proofs.lemmas.Bool.{cases_lt, lt-ltb, le-ltb}
use Rattle.std.proofs.Math.Nat.{pow-suc}
use Rattle.gf256.specs.BinaryPolynomial.{binary_product, binary_remainder}
use Rattle.gf256.specs.Field.{field_product}
use Rattle.gf256.proofs.Laws.AllBelowLaws.{all_below, all_below-at}
use Rattle.gf256.proofs.Laws.DistributivityLaws.{field_product-xor_left, field_product-xor_right}

below_power : (P : ℕ → Type 0) → ((a b : ℕ) → P a → P b → P (bit_xor a b)) → P 0 →
    (n : ℕ) → ((i : ℕ) → i < n → P (2 ^ i)) → (a : ℕ) → a < 2 ^ n → P a
below_power P sums none zero powers a h = let at : 0 ≡ a = omega arith in subst P at none
below_power P sums none (suc n) powers a h =
    let low = below_power P sums none n (λ i hi. powers i (omega (arith, hi))) in
    elim (cases_lt a (2 ^ n)) [
      | inl below ↦ low a below
      | inr past ↦
          let rest : a - 2 ^ n < 2 ^ n = omega (arith, h, pow-suc 2 n) in
          let one : 1 * 2 ^ n ≡ 2 ^ n = omega arith in
          let sum : bit_xor (2 ^ n) (a - 2 ^ n) ≡ a = rw one at (xor_shifted 1 n (a - 2 ^ n) rest) ∙ omega arith in
          subst P sum (sums (2 ^ n) (a - 2 ^ n) (powers n (omega arith)) (low (a - 2 ^ n) rest))
    ]

-- what holds of the powers of two, and of a sum with its terms, holds of each element
each_element : (P : ℕ → Type 0) → ((a b : ℕ) → P a → P b → P (bit_xor a b)) → ((i : ℕ) → i < 8 → P (2 ^ i)) →
    (a : ℕ) → a < 256 → P a
each_element P sums powers a h =
    let one = powers 0 (omega arith) in
    below_power P sums (subst P (xor_self 1) (sums 1 1 one one)) 8 powers a h

-- two functions that distribute over exclusive or, and that are equal at the powers of two, are equal at each element
same_at_elements : (f g : ℕ → ℕ) → ((a b : ℕ) → f (bit_xor a b) ≡ bit_xor (f a) (f b)) →
    ((a b : ℕ) → g (bit_xor a b) ≡ bit_xor (g a) (g b)) → ((i : ℕ) → i < 8 → f (2 ^ i) ≡ g (2 ^ i)) →
    (a : ℕ) → a < 256 → f a ≡ g a
same_at_elements f g sums_f sums_g = each_element (λ a. f a ≡ g a)
    (λ a b same_a same_b. rw (sums_f a b, sums_g a b, same_a, same_b) refl)

-- a test that is computed for all pairs of powers of two
abbrev all_pairs : (ℕ → ℕ → Bool) → Bool
all_pairs p = all_below (λ i. all_below (p i) 8) 8

all_pairs-at : (p : ℕ → ℕ → Bool) → all_pairs p ≡ true → (i j : ℕ) → i < 8 → j < 8 → p i j ≡ true
all_pairs-at p h i j hi hj = all_below-at (p i) 8 j (all_below-at (λ i. all_below (p i) 8) 8 i h hi) hj

ones : all_below (λ i. field_product (2 ^ i) 1 == 2 ^ i) 8 ≡ true
unfolding all_below field_product binary_product binary_remainder
ones = refl

pub field_product-one_right : (a : ℕ) → a < 256 → field_product a 1 ≡ a
field_product-one_right = same_at_elements (λ a. field_product a 1) (λ a. a) (λ a b. field_product-xor_left a b 1)
    (λ a b. refl) (λ i hi. eqb-true _ _ (all_below-at (λ i. field_product (2 ^ i) 1 == 2 ^ i) 8 i ones hi))

elements : all_pairs (λ i j. nat_lt (field_product (2 ^ i) (2 ^ j)) 256) ≡ true
unfolding all_below field_product binary_product binary_remainder
elements = refl

pub field_product-lt : (a b : ℕ) → a < 256 → b < 256 → field_product a b < 256
field_product-lt a b ha hb = each_element (λ a. field_product a b < 256)
    (λ x y hx hy. rw (field_product-xor_left x y b) (xor_lt 8 _ _ hx hy))
    (λ i hi. each_element (λ b. field_product (2 ^ i) b < 256)
    (λ x y hx hy. rw (field_product-xor_right (2 ^ i) x y) (xor_lt 8 _ _ hx hy))
    (λ j hj. ltb-true _ _ (all_pairs-at (λ i j. nat_lt (field_product (2 ^ i) (2 ^ j)) 256) elements i j hi hj)) b hb)
    a ha

exchanges : all_pairs (λ i j. field_product (2 ^ i) (2 ^ j) == field_product (2 ^ j) (2 ^ i)) ≡ true
unfolding all_below field_product binary_product binary_remainder
exchanges = refl

pub field_product-comm : (a b : ℕ) → a < 256 → b < 256 → field_product a b ≡ field_product b a
field_product-comm a b ha hb = same_at_elements (λ a. field_product a b) (field_product b)
    (λ x y. field_product-xor_left x y b) (field_product-xor_right b)
    (λ i hi. same_at_elements (field_product (2 ^ i)) (λ b. field_product b (2 ^ i)) (field_product-xor_right (2 ^ i))
    (λ x y. field_product-xor_left x y (2 ^ i)) (λ j hj. eqb-true _ _ (all_pairs-at
    (λ i j. field_product (2 ^ i) (2 ^ j) == field_product (2 ^ j) (2 ^ i)) exchanges i j hi hj)) b hb) a ha

unfoldable associates : ℕ → ℕ → ℕ → Bool
associates a b c = field_product (field_product a b) c == field_product a (field_product b c)

triples : all_below (λ k. all_pairs (λ i j. associates (2 ^ i) (2 ^ j) (2 ^ k))) 8 ≡ true
unfolding all_below associates field_product binary_product binary_remainder
triples = refl

powers-assoc : (i j k : ℕ) → i < 8 → j < 8 → k < 8 → field_product (field_product (2 ^ i) (2 ^ j)) (2 ^ k)
    ≡ field_product (2 ^ i) (field_product (2 ^ j) (2 ^ k))
unfolding associates
powers-assoc i j k hi hj hk = eqb-true _ _ (all_pairs-at (λ i j. associates (2 ^ i) (2 ^ j) (2 ^ k))
    (all_below-at (λ k. all_pairs (λ i j. associates (2 ^ i) (2 ^ j) (2 ^ k))) 8 k triples hk) i j hi hj)

pub field_product-assoc : (a b c : ℕ) → a < 256 → b < 256 → c < 256
    → field_product (field_product a b) c ≡ field_product a (field_product b c)
field_product-assoc a b c ha hb hc = same_at_elements (λ a. field_product (field_product a b) c)
    (λ a. field_product a (field_product b c))
    (λ x y. rw (field_product-xor_left x y b) (field_product-xor_left _ _ c))
    (λ x y. field_product-xor_left x y (field_product b c)) (λ i hi.
    same_at_elements (λ b. field_product (field_product (2 ^ i) b) c) (λ b. field_product (2 ^ i) (field_product b c))
    (λ x y. rw (field_product-xor_right (2 ^ i) x y) (field_product-xor_left _ _ c))
    (λ x y. rw (field_product-xor_left x y c) (field_product-xor_right (2 ^ i) _ _)) (λ j hj.
    same_at_elements (field_product (field_product (2 ^ i) (2 ^ j)))
    (λ c. field_product (2 ^ i) (field_product (2 ^ j) c))
    (field_product-xor_right _)
    (λ x y. rw (field_product-xor_right (2 ^ j) x y) (field_product-xor_right (2 ^ i) _ _))
    (λ k hk. powers-assoc i j k hi hj hk) c hc) b hb) a ha

-- a product by x is a shift, and where x^8 comes out, the modulus is added
doublings : all_below (λ a. field_product 2 a == cond (nat_lt a 128) (a * 2 % 256) (bit_xor (a * 2 % 256) 29)) 256
    ≡ true
unfolding all_below field_product binary_product binary_remainder
doublings = refl

doubling : (a : ℕ) → a < 256 → field_product 2 a ≡ cond (nat_lt a 128) (a * 2 % 256) (bit_xor (a * 2 % 256) 29)
doubling a h = eqb-true _ _ (all_below-at
    (λ a. field_product 2 a == cond (nat_lt a 128) (a * 2 % 256) (bit_xor (a * 2 % 256) 29)) 256 a doublings h)

pub field_product-two_small : (a : ℕ) → a < 128 → a * 2 % 256 ≡ field_product 2 a
field_product-two_small a h = sym (rw (lt-ltb a 128 h) at (doubling a (omega arith)))

pub field_product-two_large : (a : ℕ) → 128 ≤ a → a < 256 → bit_xor (a * 2 % 256) 29 ≡ field_product 2 a
field_product-two_large a h k = sym (rw (le-ltb a 128 h) at (doubling a k))

pub ruleset of_two = (field_product-two_small, field_product-two_large)
