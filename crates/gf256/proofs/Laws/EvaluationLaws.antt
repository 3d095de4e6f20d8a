-- The value of a polynomial at a point.
use Rattle.std.proofs.Common.{◌≡◌, ℕ, zero, suc, ◌+◌, ◌<◌, List, [], ◌∷◌, ◌++◌, length, refl, sym, ◌∙◌, arith, zero-add}
use Rattle.std.specs.Prelude.{bit_xor, All}
use Rattle.std.proofs.lemmas.List.{length-map}
use Rattle.std.proofs.lemmas.List.Elements.{All-head, All-tail}
use Rattle.std.proofs.lemmas.Nat.{xor_of_8}
use Rattle.gf256.specs.Field.{field_product, field_power, IsElement}
use Rattle.gf256.specs.Private.{zeros}
use Rattle.gf256.specs.Polynomial.{evaluate, polynomial_sum, scalar_multiple, polynomial_product}
use Rattle.gf256.proofs.Laws.DistributivityLaws.{field_product-xor_left, field_product-xor_right, field_product-zero_left}
use Rattle.gf256.proofs.Laws.DistributivityLaws.{field_product-zero_right, xor_medial}
use Rattle.gf256.proofs.Laws.FieldLaws.{field_product-lt, field_product-comm, field_product-assoc, field_product-one_right}
use Rattle.gf256.proofs.Laws.PolynomialSumLaws.{length-append_zeros, length-polynomial_sum, length-scalar_multiple}
use Rattle.gf256.proofs.Laws.DivisionLaws.{All-scalar_multiple, length-polynomial_product}

pub field_power-lt : (x i : ℕ) → x < 256 → field_power x i < 256
unfolding field_power
field_power-lt x zero h = omega arith
field_power-lt x (suc i) h = field_product-lt x (field_power x i) h (field_power-lt x i h)

pub field_product-one_left : (a : ℕ) → a < 256 → field_product 1 a ≡ a
field_product-one_left a h = field_product-comm 1 a (omega arith) h ∙ field_product-one_right a h

pub field_power-add : (x i j : ℕ) → x < 256 → field_power x (i + j) ≡ field_product (field_power x i) (field_power x j)
unfolding field_power
field_power-add x zero j h = rw zero-add (sym (field_product-one_left (field_power x j) (field_power-lt x j h)))
field_power-add x (suc i) j h =
    let one_more : suc i + j ≡ suc (i + j) = omega arith in
    rw (one_more, field_power-add x i j h)
    (sym (field_product-assoc x (field_power x i) (field_power x j) h (field_power-lt x i h) (field_power-lt x j h)))

pub evaluate-lt : (p : List ℕ) (x : ℕ) → All IsElement p → x < 256 → evaluate p x < 256
unfolding evaluate
evaluate-lt [] x hp hx = omega arith
evaluate-lt (c ∷ p) x hp hx =
    xor_of_8 (field_product c (field_power x (length p))) (evaluate p x)
    (field_product-lt c (field_power x (length p)) (All-head IsElement c p hp) (field_power-lt x (length p) hx))
    (evaluate-lt p x (All-tail IsElement c p hp) hx)

pub evaluate-polynomial_sum : (p q : List ℕ) (x : ℕ) → length p ≡ length q
    → evaluate (polynomial_sum p q) x ≡ bit_xor (evaluate p x) (evaluate q x)
unfolding evaluate polynomial_sum
evaluate-polynomial_sum [] q x h = refl
evaluate-polynomial_sum (a ∷ p) [] x h = absurd (omega arith)
evaluate-polynomial_sum (a ∷ p) (b ∷ q) x h =
    let tails : length p ≡ length q = omega arith in
    let long : length (polynomial_sum p q) ≡ length q = omega (arith, length-polynomial_sum p q) in
    let power = field_power x (length q) in
    rw (long, evaluate-polynomial_sum p q x tails, field_product-xor_left a b power, tails)
    (xor_medial (field_product a power) (field_product b power) (evaluate p x) (evaluate q x))

pub evaluate-scalar_multiple : (c : ℕ) (p : List ℕ) (x : ℕ) → c < 256 → All IsElement p → x < 256
    → evaluate (scalar_multiple c p) x ≡ field_product c (evaluate p x)
unfolding evaluate scalar_multiple
evaluate-scalar_multiple c [] x hc hp hx = sym (field_product-zero_right c)
evaluate-scalar_multiple c (a ∷ p) x hc hp hx =
    let power = field_power x (length p) in
    rw (
      length-map p (field_product c),
      field_product-assoc c a power hc (All-head IsElement a p hp) (field_power-lt x (length p) hx),
      evaluate-scalar_multiple c p x hc (All-tail IsElement a p hp) hx,
      field_product-xor_right c (field_product a power) (evaluate p x),
    ) refl

pub evaluate-zeros : (n x : ℕ) → evaluate (zeros n) x ≡ 0
unfolding evaluate
evaluate-zeros zero x = refl
evaluate-zeros (suc n) x = rw (field_product-zero_left (field_power x (length (zeros n))), evaluate-zeros n x) refl

-- p times x^n
pub evaluate-append_zeros : (p : List ℕ) (n x : ℕ) → All IsElement p → x < 256
    → evaluate (p ++ zeros n) x ≡ field_product (evaluate p x) (field_power x n)
unfolding evaluate
evaluate-append_zeros [] n x hp hx = evaluate-zeros n x ∙ sym (field_product-zero_left (field_power x n))
evaluate-append_zeros (c ∷ p) n x hp hx =
    let power = field_power x (length p) in
    rw (
      length-append_zeros p n,
      field_power-add x (length p) n hx,
      evaluate-append_zeros p n x (All-tail IsElement c p hp) hx,
      field_product-xor_left (field_product c power) (evaluate p x) (field_power x n),
      field_product-assoc c power (field_power x n) (All-head IsElement c p hp) (field_power-lt x (length p) hx)
          (field_power-lt x n hx),
    ) refl

pub evaluate-polynomial_product : (p q : List ℕ) (b x : ℕ) → All IsElement p → All IsElement (b ∷ q) → x < 256
    → evaluate (polynomial_product p (b ∷ q)) x ≡ field_product (evaluate p x) (evaluate (b ∷ q) x)
unfolding polynomial_product evaluate
evaluate-polynomial_product [] q b x hp hq hx = evaluate-zeros (length q) x ∙ sym (field_product-zero_left _)
evaluate-polynomial_product (c ∷ p) q b x hp hq hx =
    let g = b ∷ q in
    let S = scalar_multiple c g in
    let P = polynomial_product p g in
    let E = evaluate g x in
    let power = field_power x (length p) in
    let hc = All-head IsElement c p hp in
    let hE = evaluate-lt g x hq hx in
    let hpow = field_power-lt x (length p) hx in
    let lengths : length (S ++ zeros (length p)) ≡ length (0 ∷ P) =
    omega (arith, length-append_zeros S (length p), length-scalar_multiple c g, length-polynomial_product p q b) in
    evaluate-polynomial_sum (S ++ zeros (length p)) (0 ∷ P) x lengths
    ∙ rw (
      evaluate-append_zeros S (length p) x (All-scalar_multiple c g hc hq) hx,
      evaluate-scalar_multiple c g x hc hq hx,
      field_product-zero_left (field_power x (length P)),
      evaluate-polynomial_product p q b x (All-tail IsElement c p hp) hq hx,
      field_product-xor_left (field_product c power) (evaluate p x) E,
      field_product-assoc c E power hc hE hpow,
      field_product-comm E power hE hpow,
      field_product-assoc c power E hc hpow hE,
    ) refl
