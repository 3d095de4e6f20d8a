-- Bits of words: codewords in a word, two bits of a row, and the ones at an end of a word.
use Rattle.std.proofs.Common.{◌≡◌, ℕ, zero, suc, ◌+◌, ◌-◌, ◌*◌, ◌/◌, ◌%◌, ◌^◌, ◌<◌, ◌≤◌, refl, ap, ◌∙◌, arith}
use Rattle.std.proofs.Common.{true, false, List, inl, inr, [], ◌∷◌, ◌++◌, drop}
use lib.Count.{leading_length}
use Rattle.std.specs.Int.{bit_not, leading_zeros, trailing_zeros, w64}
use Rattle.std.proofs.lemmas.Nat.Bits.{bit_at-trailing_zeros}
use Rattle.std.proofs.Math.ListN.{replicate}
use Rattle.std.proofs.lemmas.List.{get_or-drop}
use Rattle.std.specs.Prelude.{◌==◌, bit_and, bit_or, slice_index}
use Rattle.std.proofs.lemmas.Bool.{cases_lt}
use Rattle.std.proofs.lemmas.Bool.Decides.{nat_tests}
use Rattle.qrmatrix.specs.Bits.{bit}
use Rattle.qrmatrix.specs.Placement.{codeword_bit}
use Rattle.qrmatrix.specs.Private.Placing.{HasBits}
use Rattle.qrmatrix.proofs.Laws.RowBitsLaws.{above_bit, and_bit, not_bit, or_bit, shr_bit, up_bit, zero_bit}

-- ---- codewords in a word

-- a word of j codewords, from number `first` on
abbrev pub HasCodewords : ℕ → List ℕ → ℕ → ℕ → Type 0
HasCodewords word codewords first j =
    (k : ℕ) → k < 8 * j → bit word k ≡ codeword_bit codewords (8 * (first + j) - 1 - k)

-- one codeword more
pub codeword_more : (word j first b : ℕ) (codewords : List ℕ) → j < 8 → b < 256 → b ≡ slice_index codewords (first + j)
    → HasCodewords word codewords first j → HasCodewords (bit_or (word * 2 ^ 8 % 2 ^ 64) b) codewords first (j + 1)
codeword_more word j first b codewords few small is has k l =
    let i = 8 * (first + (j + 1)) - 1 - k in
    rw (or_bit (word * 2 ^ 8 % 2 ^ 64) b k, up_bit word 8 k (omega arith))
    (elim (cases_lt k 8) [
      | inl low ↦
          let number : i / 8 ≡ first + j = omega arith in
          let place : 7 - i % 8 ≡ k = omega arith in
          rw (number, place, ← is) (grind (arith, nat_tests))
      | inr high ↦
          let before : 8 * (first + j) - 1 - (k - 8) ≡ i = omega arith in
          rw (above_bit b 8 k small high, has (k - 8) (omega arith), before) (grind (arith, nat_tests))
    ])

-- the word from bit i on
pub word_from : (word i : ℕ) (codewords : List ℕ) → HasCodewords word codewords (i / 8) 8
    → HasBits 57 (word * 2 ^ (i % 8) % 2 ^ 64) codewords i
word_from word i codewords has j l =
    let low = 63 - j - i % 8 in
    let at : 8 * (i / 8 + 8) - 1 - low ≡ i + j = omega arith in
    rw (up_bit word (i % 8) (63 - j) (omega arith), has low (omega arith), at) (grind (arith, nat_tests))

-- a word without its first bits
pub bits_after : (all count more word i : ℕ) (codewords : List ℕ) → all < 64 → count + more ≤ all
    → HasBits all word codewords i → HasBits more (word * 2 ^ count % 2 ^ 64) codewords (i + count)
bits_after all count more word i codewords short few has j l =
    let at : 63 - j - count ≡ 63 - (count + j) = omega arith in
    let is : i + (count + j) ≡ i + count + j = omega arith in
    rw (up_bit word count (63 - j) (omega arith), at, has (count + j) (omega arith), is) (grind (arith, nat_tests))

-- ---- two bits of a word

pub two_low : (w k : ℕ) → bit (bit_and (w / 2 ^ k) 3) 0 ≡ bit w k
two_low w k = grind (arith, and_bit (w / 2 ^ k) 3 0, shr_bit w k 0)

pub two_high : (w k : ℕ) → bit (bit_and (w / 2 ^ k) 3) 1 ≡ bit w (k + 1)
two_high w k = grind (arith, and_bit (w / 2 ^ k) 3 1, shr_bit w k 1)

-- ---- the ones at an end of a word

low_zeros : (n j : ℕ) → n < 2 ^ 64 → j < trailing_zeros w64 n → bit n j ≡ false
low_zeros n j h l =
    elim (cases_lt 0 n) [
      | inl some ↦ ap (λ z. z == 1) ((bit_at-trailing_zeros w64 n some h).2 j l)
      | inr none ↦ let e : n ≡ 0 = omega arith in rw e (zero_bit j)
    ]

high_zeros : (n j : ℕ) → n < 2 ^ 64 → j < leading_zeros w64 n → bit n (63 - j) ≡ false
high_zeros n j h l =
    let top = leading_length 64 n h in
    above_bit n top.0 (63 - j) top.2 (omega (arith, top.1, l))

-- the ones from bit t on, upwards
pub ones_up : (word t j : ℕ) → word < 2 ^ 64 → bit_not w64 (word / 2 ^ t) < 2 ^ 64 → j < 64
    → j < trailing_zeros w64 (bit_not w64 (word / 2 ^ t)) → bit word (t + j) ≡ true
ones_up word t j h g few l =
    let place : j + t ≡ t + j = omega arith in
    let none = low_zeros (bit_not w64 (word / 2 ^ t)) j g l in
    let turned = not_bit (word / 2 ^ t) j (omega arith) few in
    let moved = shr_bit word t j ∙ ap (bit word) place in
    grind (arith, none, turned, moved)

-- the ones from a bit on, downwards: the word is moved up so far that this bit is the highest
pub ones_down : (word side t j : ℕ) → side ≤ 57 → t + j < side
    → bit_not w64 (word * 2 ^ (64 - side + t) % 2 ^ 64) < 2 ^ 64
    → j < leading_zeros w64 (bit_not w64 (word * 2 ^ (64 - side + t) % 2 ^ 64)) → bit word (side - 1 - (t + j)) ≡ true
ones_down word side t j narrow inside g l =
    let up = 64 - side + t in
    let place : 63 - j - up ≡ side - 1 - (t + j) = omega arith in
    let none = high_zeros (bit_not w64 (word * 2 ^ up % 2 ^ 64)) j g l in
    let turned = not_bit (word * 2 ^ up % 2 ^ 64) (63 - j) (omega arith) (omega arith) in
    let moved = up_bit word up (63 - j) (omega arith) in
    grind (arith, nat_tests, none, turned, moved, ap (bit word) place)

-- ---- the codewords with zeros after them

zeros : (n k : ℕ) → slice_index (replicate n 0) k ≡ 0
zeros zero k = refl
zeros (suc n) zero = refl
zeros (suc n) (suc k) = zeros n k

pub before_zeros : (xs : List ℕ) (n m k : ℕ) → slice_index (xs ++ drop n (replicate m 0)) k ≡ slice_index xs k
before_zeros [] n m k = get_or-drop n (replicate m 0) k 0 ∙ zeros m (n + k)
before_zeros (x ∷ xs) n m zero = refl
before_zeros (x ∷ xs) n m (suc k) = before_zeros xs n m k
