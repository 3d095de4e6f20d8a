-- What the check character of Code 128 sees (ISO/IEC 15417, check character).
use Rattle.std.proofs.Common.{◌≡◌, ℕ, zero, suc, ◌+◌, ◌*◌, ◌%◌, ◌<◌, ◌==◌, true, List, [], ◌∷◌, ◌++◌, length, refl, sym}
use Rattle.std.proofs.Common.{ap, ◌∙◌, arith}
use Rattle.std.specs.Prelude.{sum_by}
use Rattle.std.specs.List.{enumerate_from, list_all, position_or_len, range_with_len}
use Rattle.std.proofs.lemmas.Bool.{eqb-true}
use Rattle.std.proofs.lemmas.List.Sums.{sum_by-cons}
use Rattle.std.proofs.lemmas.Nat.{mul-mod, mul-mod_first}
use Rattle.std.proofs.Math.Nat.{mul_assoc}
use Rattle.linear.specs.CodingLaws.{WrongValuesAreSeen, NeighboursAreSeen}
use Rattle.labelcore.proofs.Laws.ComputedLaws.{passes}

-- the values, each times its place from n on, added
abbrev weighted : ℕ → List ℕ → ℕ
weighted n values = sum_by (λ (item : ℕ × ℕ). item.0 * item.1) (enumerate_from n values)

weighted-cons : (n value : ℕ) (values : List ℕ) → weighted n (value ∷ values) ≡ n * value + weighted (n + 1) values
weighted-cons n value values =
    sum_by-cons (λ (item : ℕ × ℕ). item.0 * item.1) (n, value) (enumerate_from (n + 1) values)

-- the values before others count as much, whatever these are
same_before : (n : ℕ) (before xs ys : List ℕ)
    → weighted n (before ++ xs) + weighted (n + length before) ys
    ≡ weighted n (before ++ ys) + weighted (n + length before) xs
same_before n [] xs ys = let same : n + 0 ≡ n = omega arith in rw same (omega arith)
same_before n (value ∷ before) xs ys =
    let next : n + suc (length before) ≡ n + 1 + length before = omega arith in
    let rest = same_before (n + 1) before xs ys in
    rw next (omega (arith, rest, weighted-cons n value (before ++ xs), weighted-cons n value (before ++ ys)))

-- each number from 1 to 102 has an inverse, since 103 is a prime
inverse : ℕ → ℕ
inverse r = position_or_len (λ i. (i * r) % 103 == 1) (range_with_len 0 103)

inverses : list_all (λ k. (inverse (suc k) * suc k) % 103 == 1) (range_with_len 0 102) ≡ true
unfolding inverse
inverses = refl

-- the value is known from its product with a place
by_inverse : (r value : ℕ) → 0 < r → r < 103 → value < 103 → (inverse r * (r * value)) % 103 ≡ value
by_inverse zero value some low small = absurd (omega arith)
by_inverse (suc k) value some low small =
    let one = eqb-true _ 1 (passes (λ k. (inverse (suc k) * suc k) % 103 == 1) 102 k inverses (omega arith)) in
    ap (λ n. n % 103) (sym (mul_assoc (inverse (suc k)) (suc k) value))
    ∙ sym (mul-mod_first (inverse (suc k) * suc k) value 103)
    ∙ ap (λ n. (n * value) % 103) one ∙ omega arith

same_value : (place value wrong : ℕ) → 0 < place % 103 → value < 103 → wrong < 103
    → (place * value) % 103 ≡ (place * wrong) % 103 → value ≡ wrong
same_value place value wrong some small low same =
    let r = place % 103 in
    let i = inverse r in
    let by = λ (v : ℕ). mul-mod i (r * v) 103 in
    sym (by_inverse r value some (omega arith) small)
    ∙ mul-mod i (r * value) 103
    ∙ ap (λ n. (i % 103 * n) % 103) (mul-mod_first place value 103 ∙ same ∙ sym (mul-mod_first place wrong 103))
    ∙ sym (mul-mod i (r * wrong) 103)
    ∙ by_inverse r wrong some (omega arith) low

pub wrong_values_are_seen : WrongValuesAreSeen
wrong_values_are_seen start before after value wrong some small low same =
    let place = 1 + length before in
    same_value place value wrong (omega (arith, some)) small low (omega (
      arith,
      same,
      same_before 1 before (value ∷ after) (wrong ∷ after),
      weighted-cons place value after,
      weighted-cons place wrong after,
    ))

pub neighbours_are_seen : NeighboursAreSeen
neighbours_are_seen start before after first second small low same =
    let place = 1 + length before in
    let e : (place + 1) * second ≡ place * second + second = grind arith in
    let f : (place + 1) * first ≡ place * first + first = grind arith in
    omega (
      arith,
      same,
      e,
      f,
      same_before 1 before (first ∷ second ∷ after) (second ∷ first ∷ after),
      weighted-cons place first (second ∷ after),
      weighted-cons (place + 1) second after,
      weighted-cons place second (first ∷ after),
      weighted-cons (place + 1) first after,
    )
