-- Two codewords of one length differ in more places than there are error correction codewords.
use Rattle.std.proofs.Common.{◌≡◌, ℕ, zero, suc, ◌+◌, ◌-◌, ◌*◌, ◌<◌, ◌≤◌, List, [], ◌∷◌, length, refl, sym, ap, subst}
use Rattle.std.proofs.Common.{◌∙◌, arith, inl, inr, eq-eqb}
use Rattle.std.specs.Prelude.{bit_xor, All}
use Rattle.std.specs.Int.Bits.{xor_self, xor_zero_r}
use Rattle.std.proofs.lemmas.Bool.Decides.{eqb_tells, nat_tests}
use Rattle.std.proofs.lemmas.List.Elements.{All-head, All-tail, All-cons, All-nil}
use Rattle.std.proofs.Math.Nat.{suc-mul}
use Rattle.std.proofs.lemmas.Nat.{xor_of_8}
use Rattle.gf256.specs.Field.{field_product, field_power, IsElement}
use Rattle.gf256.specs.Polynomial.{evaluate, polynomial_sum}
use Rattle.gf256.specs.ErrorCorrection.{HasRoots, wrong_codewords, IsGuarded}
use Rattle.gf256.proofs.Laws.DistributivityLaws.{field_product-xor_left, field_product-xor_right, field_product-zero_left}
use Rattle.gf256.proofs.Laws.DistributivityLaws.{field_product-zero_right, xor_medial}
use Rattle.gf256.proofs.Laws.FieldLaws.{field_product-lt, field_product-comm, field_product-assoc, field_product-one_right}
use Rattle.gf256.proofs.Laws.ProductRemainderLaws.{same_from_xor}
use Rattle.gf256.proofs.Laws.PolynomialSumLaws.{length-polynomial_sum}
use Rattle.gf256.proofs.Laws.DivisionLaws.{All-polynomial_sum}
use Rattle.gf256.proofs.Laws.EvaluationLaws.{field_power-add, field_power-lt, evaluate-polynomial_sum}
use Rattle.gf256.proofs.Laws.PowerLaws.{field_product-positive, field_power-differs, field_power-power}

-- how many coefficients are not 0
unfoldable weight : List ℕ → ℕ
weight [] = 0
weight (zero ∷ p) = weight p
weight (suc c ∷ p) = suc (weight p)

weight-some : (c : ℕ) (p : List ℕ) → 0 < c → weight (c ∷ p) ≡ suc (weight p)
unfolding weight
weight-some zero p some = absurd (omega arith)
weight-some (suc c) p some = refl

weight-cons : (c : ℕ) (p : List ℕ) → weight (c ∷ p) ≤ suc (weight p)
unfolding weight
weight-cons zero p = omega arith
weight-cons (suc c) p = omega arith

evaluate-weightless : (p : List ℕ) (x : ℕ) → weight p ≡ 0 → evaluate p x ≡ 0
unfolding weight evaluate
evaluate-weightless [] x none = refl
evaluate-weightless (zero ∷ p) x none =
    rw (field_product-zero_left (field_power x (length p)), evaluate-weightless p x none) refl
evaluate-weightless (suc c ∷ p) x none = absurd (omega arith)

-- each coefficient times the sum of its place's power of alpha and x: where x is a place's power, its coefficient is 0
unfoldable without : ℕ → List ℕ → List ℕ
without x [] = []
without x (c ∷ p) = field_product c (bit_xor (field_power 2 (length p)) x) ∷ without x p

length-without : (x : ℕ) (p : List ℕ) → length (without x p) ≡ length p
unfolding without
length-without x [] = refl
length-without x (c ∷ p) = ap suc (length-without x p)

All-without : (x : ℕ) (p : List ℕ) → x < 256 → All IsElement p → All IsElement (without x p)
unfolding without
All-without x [] hx hp = All-nil IsElement
All-without x (c ∷ p) hx hp = All-cons IsElement _ _
    (field_product-lt c _ (All-head IsElement c p hp) (xor_of_8 _ x (field_power-lt 2 (length p) (omega arith)) hx))
    (All-without x p hx (All-tail IsElement c p hp))

weight-without : (x : ℕ) (p : List ℕ) → weight (without x p) ≤ weight p
unfolding without weight
weight-without x [] = omega arith
weight-without x (zero ∷ p) = rw (field_product-zero_left (bit_xor (field_power 2 (length p)) x)) (weight-without x p)
weight-without x (suc c ∷ p) =
    omega (
      arith,
      weight-cons (field_product (suc c) (bit_xor (field_power 2 (length p)) x)) (without x p),
      weight-without x p,
    )

-- where x is the power of a place further to the left, a coefficient that is not 0 stays so
weightless-without : (m : ℕ) (p : List ℕ) → m < 255 → length p ≤ m → All IsElement p
    → weight (without (field_power 2 m) p) ≡ 0 → weight p ≡ 0
unfolding without weight
weightless-without m [] hm short hp none = refl
weightless-without m (zero ∷ p) hm short hp none =
    let rest = rw (field_product-zero_left (bit_xor (field_power 2 (length p)) (field_power 2 m))) at none in
    weightless-without m p hm (omega arith) (All-tail IsElement zero p hp) rest
weightless-without m (suc c ∷ p) hm short hp none =
    let place = field_power 2 (length p) in
    let x = field_power 2 m in
    let sum = bit_xor place x in
    let differs : 0 < sum = elim (eqb_tells sum 0) [
      | inl is ↦ absurd (let same = field_power-differs (length p) m (omega arith) hm (same_from_xor place x is.1)
          in omega arith)
      | inr is_not ↦ omega (arith, is_not.1)
    ] in
    let two : 2 < 256 = omega arith in
    let small : sum < 256 = xor_of_8 place x (field_power-lt 2 (length p) two) (field_power-lt 2 m two) in
    let some : 0 < field_product (suc c) sum =
    field_product-positive (suc c) sum (omega arith) (All-head IsElement (suc c) p hp) differs small in
    absurd (omega (arith, weight-some (field_product (suc c) sum) (without x p) some, none))

next_power : (i n : ℕ) → field_power (field_power 2 (suc i)) n
    ≡ field_product (field_power 2 n) (field_power (field_power 2 i) n)
next_power i n =
    let two : 2 < 256 = omega arith in
    let next : suc i * n ≡ n + i * n = suc-mul i n ∙ omega arith in
    field_power-power 2 (suc i) n two ∙ ap (field_power 2) next ∙ field_power-add 2 n (i * n) two
    ∙ ap (field_product (field_power 2 n)) (sym (field_power-power 2 i n two))

-- the value of it: that at the next power of alpha, and x times that at this one
evaluate-without : (x : ℕ) (p : List ℕ) (i : ℕ) → x < 256 → All IsElement p
    → evaluate (without x p) (field_power 2 i)
    ≡ bit_xor (evaluate p (field_power 2 (suc i))) (field_product x (evaluate p (field_power 2 i)))
unfolding without evaluate
evaluate-without x [] i hx hp = sym (field_product-zero_right x)
evaluate-without x (c ∷ p) i hx hp =
    let n = length p in
    let place = field_power 2 n in
    let point = field_power 2 i in
    let Q = field_power point n in
    let two : 2 < 256 = omega arith in
    let hc = All-head IsElement c p hp in
    let hplace = field_power-lt 2 n two in
    let hQ = field_power-lt point n (field_power-lt 2 i two) in
    let moved : field_product x (field_product c Q) ≡ field_product c (field_product x Q) =
    sym (field_product-assoc x c Q hx hc hQ) ∙ ap (λ a. field_product a Q) (field_product-comm x c hx hc)
    ∙ field_product-assoc c x Q hc hx hQ in
    rw (
      length-without x p,
      evaluate-without x p i hx (All-tail IsElement c p hp),
      field_product-assoc c (bit_xor place x) Q hc (xor_of_8 place x hplace hx) hQ,
      field_product-xor_left place x Q,
      field_product-xor_right c (field_product place Q) (field_product x Q),
      next_power i n,
      field_product-xor_right x (field_product c Q) (evaluate p point),
      moved,
    ) (xor_medial (field_product c (field_product place Q)) (field_product c (field_product x Q))
    (evaluate p (field_power 2 (suc i))) (field_product x (evaluate p point)))

-- where a codeword is 0 at two neighbouring powers, what is left without its first coefficient is 0 at the lower one
root_without : (c : ℕ) (p : List ℕ) (i : ℕ) → All IsElement (c ∷ p)
    → evaluate (c ∷ p) (field_power 2 (suc i)) ≡ 0 → evaluate (c ∷ p) (field_power 2 i) ≡ 0
    → evaluate (without (field_power 2 (length p)) p) (field_power 2 i) ≡ 0
unfolding without evaluate
root_without c p i hp next this =
    let x = field_power 2 (length p) in
    let point = field_power 2 i in
    let whole : bit_xor (field_product (field_product c (bit_xor x x)) (field_power point (length (without x p))))
    (evaluate (without x p) point) ≡ 0 =
    evaluate-without x (c ∷ p) i (field_power-lt 2 (length p) (omega arith)) hp
    ∙ (λ j. bit_xor (next j) (field_product x (this j))) ∙ field_product-zero_right x in
    let place = field_power point (length (without x p)) in
    rw (xor_self x, field_product-zero_right c, field_product-zero_left place) at whole

-- a codeword of one coefficient alone is not 0 at 1
single : (c : ℕ) (p : List ℕ) → 0 < c → c < 256 → weight p ≡ 0 → evaluate (c ∷ p) (field_power 2 0) ≡ 0 → c ≡ 0
unfolding evaluate field_power
single c p some hc none root =
    let one : field_power (field_power 2 0) (length p) ≡ 1 =
    field_power-power 2 0 (length p) (omega arith) ∙ ap (field_power 2) {x = 0 * length p} {y = 0} (omega arith) in
    let value = rw (
      one,
      evaluate-weightless p (field_power 2 0) none,
      field_product-one_right c hc,
      xor_zero_r c,
    ) at root in
    value

-- a codeword that has at most k coefficients but 0 has none
light_codeword : (n k : ℕ) (p : List ℕ) → length p ≡ n → n ≤ 255 → All IsElement p → HasRoots k p → weight p ≤ k
    → weight p ≡ 0
unfolding weight evaluate
light_codeword zero k [] long short hp roots light = refl
light_codeword zero k (c ∷ p) long short hp roots light = absurd (omega arith)
light_codeword (suc n) k [] long short hp roots light = refl
light_codeword (suc n) k (zero ∷ p) long short hp roots light =
    light_codeword n k p (omega arith) (omega arith) (All-tail IsElement zero p hp)
    (λ i hi. rw (field_product-zero_left (field_power (field_power 2 i) (length p))) at (roots i hi)) light
light_codeword (suc n) k (suc c ∷ p) long short hp roots light =
    let x = field_power 2 (length p) in
    let hx : x < 256 = field_power-lt 2 (length p) (omega arith) in
    let tail = All-tail IsElement (suc c) p hp in
    let rest : weight p ≡ 0 = weightless-without (length p) p (omega arith) (omega arith) tail
    (light_codeword n (k - 1) (without x p) (length-without x p ∙ omega arith) (omega arith) (All-without x p hx tail)
    (λ i hi. root_without (suc c) p i hp (roots (suc i) (omega (arith, hi))) (roots i (omega (arith, hi))))
    (omega (arith, weight-without x p))) in
    absurd (omega (
      arith,
      single (suc c) p (omega arith) (All-head IsElement (suc c) p hp) rest
          (roots 0 (omega arith)),
    ))

-- the sum of two blocks has a coefficient but 0 only where they differ
weight-sum : (p q : List ℕ) → length p ≡ length q → weight (polynomial_sum p q) ≤ wrong_codewords p q
unfolding weight polynomial_sum wrong_codewords
weight-sum [] [] same = omega arith
weight-sum [] (b ∷ q) same = absurd (omega arith)
weight-sum (a ∷ p) [] same = absurd (omega arith)
weight-sum (a ∷ p) (b ∷ q) same =
    let rest = weight-sum p q (omega arith) in
    elim (eqb_tells a b) [
      | inl is ↦ rw (is.0, is.1, xor_self b) (omega (arith, rest))
      | inr is_not ↦ rw (is_not.0) (omega (arith, rest, weight-cons (bit_xor a b) (polynomial_sum p q)))
    ]

same_from_weightless : (p q : List ℕ) → length p ≡ length q → weight (polynomial_sum p q) ≡ 0 → p ≡ q
unfolding weight polynomial_sum
same_from_weightless [] [] same none = refl
same_from_weightless [] (b ∷ q) same none = absurd (omega arith)
same_from_weightless (a ∷ p) [] same none = absurd (omega arith)
same_from_weightless (a ∷ p) (b ∷ q) same none = elim (eqb_tells (bit_xor a b) 0) [
  | inl is ↦
      let rest = same_from_weightless p q (omega arith) (rw (is.1) at none) in
      λ i. same_from_xor a b is.1 i ∷ rest i
  | inr is_not ↦ absurd (omega (arith, is_not.1, weight-some (bit_xor a b) (polynomial_sum p q)))
]

-- multiples of the generator that differ in at most k places are one
pub close_codewords : (k : ℕ) (p q : List ℕ) → length p ≤ 255 → length q ≡ length p → All IsElement p → All IsElement q
    → HasRoots k p → HasRoots k q → wrong_codewords p q ≤ k → p ≡ q
close_codewords k p q short long hp hq roots other_roots close =
    let sum = polynomial_sum p q in
    let same : length p ≡ length q = omega arith in
    same_from_weightless p q same (light_codeword (length sum) k sum refl
    (omega (arith, length-polynomial_sum p q)) (All-polynomial_sum p q hp hq)
    (λ i hi. evaluate-polynomial_sum p q (field_power 2 i) same
    ∙ (λ j. bit_xor (roots i hi j) (other_roots i hi j)))
    (omega (arith, weight-sum p q same)))

same_not_wrong : (p : List ℕ) → wrong_codewords p p ≡ 0
unfolding wrong_codewords
same_not_wrong [] = refl
same_not_wrong (a ∷ p) = rw (eq-eqb a a refl) (omega (arith, same_not_wrong p))

-- a way by a third block is no shorter
pub wrong_codewords-by : (p q r : List ℕ) → length r ≡ length p → length q ≡ length p
    → wrong_codewords p q ≤ wrong_codewords p r + wrong_codewords q r
unfolding wrong_codewords
wrong_codewords-by [] q r hr hq = omega arith
wrong_codewords-by (a ∷ p) [] r hr hq = absurd (omega arith)
wrong_codewords-by (a ∷ p) (b ∷ q) [] hr hq = absurd (omega arith)
wrong_codewords-by (a ∷ p) (b ∷ q) (c ∷ r) hr hq =
    let rest = wrong_codewords-by p q r (omega arith) (omega arith) in
    grind (arith, nat_tests)

-- a multiple of the generator of at most 255 codewords is guarded
pub IsGuarded-roots : (k : ℕ) (p : List ℕ) → length p ≤ 255 → All IsElement p → HasRoots k p → IsGuarded k p
IsGuarded-roots k p short elements roots = record {
  detects = λ other long hq some few other_roots.
      let same = close_codewords k p other short long elements hq roots other_roots few in
      absurd (omega (arith, some, subst (λ q. wrong_codewords p q ≡ 0) same (same_not_wrong p)));
  corrects = λ seen other long same hq near other_near other_roots.
      sym (close_codewords k p other short same elements hq roots other_roots
      (omega (arith, wrong_codewords-by p other seen long same, near, other_near)));
}
