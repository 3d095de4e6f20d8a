-- What the check digit sees (ISO/IEC 15420, check digit).
use Rattle.std.proofs.Common.{◌≡◌, ℕ, suc, ◌+◌, ◌*◌, ◌%◌, ◌≤◌, ◌==◌, cond, List, [], ◌∷◌, ◌++◌, length, take, refl, sym}
use Rattle.std.proofs.Common.{◌∙◌, arith, if◌then◌else◌, inl, inr, length-append, length-take}
use Rattle.std.specs.Prelude.{◌⊎◌, All, slice_index}
use Rattle.std.specs.Char.{IsAsciiDigit}
use Rattle.std.specs.List.{AllByRecursion}
use Rattle.std.proofs.lemmas.Bool.Decides.{eqb_tells, nat_tests}
use Rattle.std.proofs.lemmas.List.{take_all, take_more}
use Rattle.std.proofs.lemmas.List.Elements.{All-take, recursion_from_All}
use Rattle.linear.specs.Digits.{digit_value, weighted_sum}
use Rattle.linear.specs.CodingLaws.{WrongDigitsAreSeen, ExchangesAreSeen}
use Rattle.linear.specs.Private.Data.{IsFull}

weight : ℕ → ℕ
weight after = cond (after % 2 == 0) 3 1

-- the weight of the next digit to the left
weights : (n : ℕ) → ((weight n ≡ 3) × (weight (suc n) ≡ 1)) ⊎ ((weight n ≡ 1) × (weight (suc n) ≡ 3))
unfolding weight
weights n = grind (arith, nat_tests)

-- the digits before others count as much before as many others
same_before : (before xs ys : List ℕ) → length xs ≡ length ys
    → weighted_sum (before ++ xs) + weighted_sum ys ≡ weighted_sum (before ++ ys) + weighted_sum xs
same_before [] xs ys same = omega arith
same_before (byte ∷ before) xs ys same =
    let rest = same_before before xs ys same in
    let long : length (before ++ xs) ≡ length (before ++ ys) = omega (arith, length-append {A = ℕ}) in
    rw long (omega (arith, rest))

first_alone : (digit : ℕ) (after : List ℕ) → weighted_sum (digit ∷ after)
    ≡ weight (length after) * digit_value digit + weighted_sum after
unfolding weight
first_alone digit after = refl

pub wrong_digits_are_seen : WrongDigitsAreSeen
wrong_digits_are_seen before after digit wrong h k same =
    let sums = same_before before (digit ∷ after) (wrong ∷ after) refl in
    let one = first_alone digit after in
    let two = first_alone wrong after in
    elim (weights (length after)) [
      | inl w ↦ (let a = rw w.0 at one in let b = rw w.0 at two in omega (arith, sums, same, a, b, h, k))
      | inr w ↦ (let a = rw w.0 at one in let b = rw w.0 at two in omega (arith, sums, same, a, b, h, k))
    ]

pub exchanges_are_seen : ExchangesAreSeen
exchanges_are_seen before after first second h k same =
    let sums = same_before before (first ∷ second ∷ after) (second ∷ first ∷ after) refl in
    let one = first_alone first (second ∷ after) in
    let two = first_alone second (first ∷ after) in
    let three = first_alone second after in
    let four = first_alone first after in
    elim (weights (length after)) [
      | inl w ↦ (let a = rw w.1 at one in let b = rw w.1 at two in let c = rw w.0 at three in let d = rw w.0 at four in
          omega (arith, sums, same, a, b, c, d, h, k))
      | inr w ↦ (let a = rw w.1 at one in let b = rw w.1 at two in let c = rw w.0 at three in let d = rw w.0 at four in
          omega (arith, sums, same, a, b, c, d, h, k))
    ]

-- ---- one wrong digit of full data

-- in how many places two lists of digits differ
unfoldable pub wrong_digits : List ℕ → List ℕ → ℕ
wrong_digits [] other = 0
wrong_digits (a ∷ digits) [] = 0
wrong_digits (a ∷ digits) (b ∷ other) = (if a == b then 0 else 1) + wrong_digits digits other

pub wrong_digits-append : (p e q f : List ℕ) → length q ≡ length p
    → wrong_digits (p ++ e) (q ++ f) ≡ wrong_digits p q + wrong_digits e f
unfolding wrong_digits
wrong_digits-append [] e [] f long = omega arith
wrong_digits-append [] e (y ∷ q) f long = absurd (omega arith)
wrong_digits-append (x ∷ p) e [] f long = absurd (omega arith)
wrong_digits-append (x ∷ p) e (y ∷ q) f long = omega (arith, wrong_digits-append p e q f (omega arith))

pub same_digits : (xs ys : List ℕ) → length ys ≡ length xs → wrong_digits xs ys ≡ 0 → xs ≡ ys
unfolding wrong_digits
same_digits [] [] long none = refl
same_digits [] (y ∷ ys) long none = absurd (omega arith)
same_digits (x ∷ xs) [] long none = absurd (omega arith)
same_digits (x ∷ xs) (y ∷ ys) long none = elim (eqb_tells x y) [
  | inl same ↦ λ i. same.1 i ∷ same_digits xs ys (omega arith) (let n = rw same.0 at none in omega arith) i
  | inr differ ↦ absurd (let some = rw differ.0 at none in omega arith)
]

-- digits and a last one, of which at most one differs, and whose sums have the same remainder
sums_tell : (xs ys : List ℕ) (c d : ℕ) → length ys ≡ length xs → AllByRecursion IsAsciiDigit xs
    → AllByRecursion IsAsciiDigit ys → IsAsciiDigit c → IsAsciiDigit d
    → (weighted_sum xs + digit_value c) % 10 ≡ (weighted_sum ys + digit_value d) % 10
    → wrong_digits xs ys + (if c == d then 0 else 1) ≤ 1 → (xs ≡ ys) × (c ≡ d)
unfolding wrong_digits
sums_tell [] [] c d long hx hy hc hd sums few = (refl, omega arith)
sums_tell [] (y ∷ ys) c d long hx hy hc hd sums few = absurd (omega arith)
sums_tell (x ∷ xs) [] c d long hx hy hc hd sums few = absurd (omega arith)
sums_tell (x ∷ xs) (y ∷ ys) c d long hx hy hc hd sums few = elim (eqb_tells x y) [
  | inl same ↦
      let others = rw same.0 at few in
      let whole = rw (sym same.1) at sums in
      let rest = sums_tell xs ys c d (omega arith) hx.1 hy.1 hc hd
      (omega (arith, whole, same_before (x ∷ []) xs ys (omega arith))) (omega (arith, others)) in
      ((λ i. same.1 i ∷ rest.0 i), rest.1)
  | inr differ ↦
      let others = rw differ.0 at few in
      let rest : xs ≡ ys = same_digits xs ys (omega arith) (omega (arith, others)) in
      let last : c ≡ d = elim (eqb_tells c d) [
        | inl same ↦ same.1
        | inr unlike ↦ absurd (let two = rw unlike.0 at others in omega arith)
      ] in
      let whole = rw (sym rest, sym last) at sums in
      absurd (differ.1 (wrong_digits_are_seen [] xs x y hx.0 hy.0 (omega (arith, whole))))
]

-- two of which at most one digit differs are the same
pub full_digits_tell : (count : ℕ) (xs ys : List ℕ) → IsFull count xs → IsFull count ys → wrong_digits xs ys ≤ 1
    → xs ≡ ys
unfolding wrong_digits
full_digits_tell count xs ys f g few =
    let long = f.digits.long in
    let other_long = g.digits.long in
    let cut = λ (l : List ℕ) (n : length l ≡ count + 1). sym (take_all (count + 1) l (omega (arith, n)))
    ∙ take_more l count 0 (omega (arith, n)) in
    let one = cut xs long in
    let two = cut ys other_long in
    let fronts = λ (l : List ℕ) (d : All IsAsciiDigit l).
    recursion_from_All IsAsciiDigit (take count l) (All-take IsAsciiDigit count l d) in
    let wrong = rw (sym one, sym two) at (wrong_digits-append (take count xs) (slice_index xs count ∷ [])
    (take count ys) (slice_index ys count ∷ []) (omega (arith, length-take {A = ℕ}))) in
    let same = sums_tell (take count xs) (take count ys) (slice_index xs count) (slice_index ys count)
    (omega (arith, length-take {A = ℕ})) (fronts xs f.digits.digits) (fronts ys g.digits.digits)
    (f.digits.digits count 0 (omega arith)) (g.digits.digits count 0 (omega arith))
    (let r = f.right in let q = g.right in omega arith) (omega (arith, wrong, few)) in
    one ∙ (λ i. same.0 i ++ same.1 i ∷ []) ∙ sym two
