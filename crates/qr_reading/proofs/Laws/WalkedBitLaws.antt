-- The bits that the walk over the modules writes.
use Rattle.std.proofs.Common.{get_or, set, min, inl, inr, ◌≡◌, ℕ, zero, suc, ◌+◌, ◌-◌, ◌<◌, ◌≤◌, Bool, true, false, List, [], ◌∷◌, ◌++◌, ap, length, length-append, refl, sym, ◌∙◌, append_assoc, arith}
use Rattle.std.specs.Int.{from_bool}
use Rattle.std.proofs.lemmas.Bool.{cases_eq}
use Rattle.std.proofs.lemmas.Grind.{get_or-set_at}
use Rattle.std.proofs.lemmas.List.{get_or-set_other}
use Rattle.std.specs.Prelude.{◌==◌, if◌then◌else◌, bit_and, ◌*◌, ◌/◌, ◌%◌, ◌^◌}
use Rattle.std.specs.List.{flat_map, range_with_len}
use Rattle.qrdata.specs.Bits.{bits_of}
use Rattle.qrdata.proofs.Laws.BitStringLaws.{bits_of-joined}
use Rattle.qrmatrix.specs.Bits.{bit}
use Rattle.labelcore.proofs.Laws.ComputedLaws.{by_four}
use Rattle.qrmatrix.proofs.Laws.RowBitsLaws.{and_bit, in_each, shr_bit}
use Rattle.qrmatrix.specs.Square.{value_at}
use Rattle.qrmatrix.specs.Private.Placing.{row_of}
use Rattle.qr_reading.specs.Private.Walking.{module_in, row_read}

-- what is written and what is to come, when one piece more is written
pub next_walked : (f : ℕ → List Bool) (written : List Bool) (k count : ℕ) → k < count
    → written ++ flat_map f (range_with_len k (count - k))
    ≡ (written ++ f k) ++ flat_map f (range_with_len (k + 1) (count - (k + 1)))
next_walked f written k count inside =
    let more : count - k ≡ suc (count - (k + 1)) = omega arith in rw (more, append_assoc written (f k)) refl

-- all that is written has room, so what is written next has
pub has_room : (f : ℕ → List Bool) (written all : List Bool) (k count : ℕ) → k < count
    → written ++ flat_map f (range_with_len k (count - k)) ≡ all → length all ≤ 2775
    → length written + length (f k) ≤ 2775
has_room f written all k count inside is room =
    let later = flat_map f (range_with_len (k + 1) (count - (k + 1))) in
    omega (
      arith,
      ap length (sym (next_walked f written k count inside) ∙ is),
      length-append (written ++ f k) later,
      length-append written (f k),
    )

-- what of a range is written, and what comes after it
range_parts : (f : ℕ → List Bool) (a m k : ℕ)
    → flat_map f (range_with_len a (m + k)) ≡ flat_map f (range_with_len a m) ++ flat_map f (range_with_len (a + m) k)
range_parts f a zero k =
    let none : 0 + k ≡ k = omega arith in let here : a + 0 ≡ a = omega arith in rw (none, here) refl
range_parts f a (suc m) k =
    let more : suc m + k ≡ suc (m + k) = omega arith in
    let later : a + suc m ≡ a + 1 + m = omega arith in
    rw (more, later, range_parts f (a + 1) m k, append_assoc (f a)) refl

-- what is written and what is to come, when the pieces up to one are written
pub next_pieces : (f : ℕ → List Bool) (written : List Bool) (a m n : ℕ) → a + m ≤ n
    → written ++ flat_map f (range_with_len a (n - a))
    ≡ (written ++ flat_map f (range_with_len a m)) ++ flat_map f (range_with_len (a + m) (n - (a + m)))
next_pieces f written a m n inside =
    let parts : n - a ≡ m + (n - (a + m)) = omega (arith, inside) in
    rw (parts, range_parts f a m (n - (a + m)), append_assoc written (flat_map f (range_with_len a m))) refl

-- all that is written has room, so the pieces up to one have
pub pieces_have_room : (f : ℕ → List Bool) (written all : List Bool) (a m n : ℕ) → a + m ≤ n
    → written ++ flat_map f (range_with_len a (n - a)) ≡ all → length all ≤ 2775
    → length written + length (flat_map f (range_with_len a m)) ≤ 2775
pieces_have_room f written all a m n inside is room =
    let here = flat_map f (range_with_len a m) in
    let later = flat_map f (range_with_len (a + m) (n - (a + m))) in
    omega (
      arith,
      room,
      ap length (sym (next_pieces f written a m n inside) ∙ is),
      length-append (written ++ here) later,
      length-append written here,
    )

-- pieces that are the same are so together
pub same_pieces : (f g : ℕ → List Bool) (a m : ℕ) → ((k : ℕ) → a ≤ k → k < a + m → f k ≡ g k)
    → flat_map f (range_with_len a m) ≡ flat_map g (range_with_len a m)
same_pieces f g a zero same = refl
same_pieces f g a (suc m) same = rw (
  same a (omega arith) (omega arith),
  same_pieces f g (a + 1) m (λ k low high. same k (omega (arith, low)) (omega (arith, high))),
) refl

-- a module as a number
pub one_bit : (dark : Bool) → bits_of 1 (from_bool dark) ≡ dark ∷ []
unfolding bits_of
one_bit true = refl
one_bit false = refl

-- four rows of a strip whose modules are free
pub four_read : (free modules : ℕ → ℕ → Bool) (x t : ℕ) (row : ℕ → ℕ)
    → ((j : ℕ) → j < 4 → (free x (row (t + j)) ≡ true) × (free (x + 1) (row (t + j)) ≡ true))
    → flat_map (λ t. row_read free modules x (row t)) (range_with_len t 4)
    ≡ (modules (x + 1) (row t) ∷ modules x (row t) ∷ [])
    ++ ((modules (x + 1) (row (t + 1)) ∷ modules x (row (t + 1)) ∷ [])
    ++ ((modules (x + 1) (row (t + 2)) ∷ modules x (row (t + 2)) ∷ [])
    ++ (modules (x + 1) (row (t + 3)) ∷ modules x (row (t + 3)) ∷ [])))
four_read free modules x t row four =
    let none : t + 0 ≡ t = omega arith in
    let two : t + 1 + 1 ≡ t + 2 = omega arith in
    let three : t + 1 + 1 + 1 ≡ t + 3 = omega arith in
    let first = rw none at (four 0 (omega arith)) in
    let second = four 1 (omega arith) in
    let third = four 2 (omega arith) in
    let fourth = four 3 (omega arith) in
    rw (
      three,
      two,
      first.0,
      first.1,
      second.0,
      second.1,
      third.0,
      third.1,
      fourth.0,
      fourth.1,
    ) refl

-- two bits more of a number
two_more : (count value two : ℕ) → two < 4 → bits_of (count + 2) (4 * value + two) ≡ bits_of count value ++ bits_of 2 two
two_more count value two few =
    let same : 4 * value + two ≡ value * 2 ^ 2 + two % 2 ^ 2 = omega (arith, few) in
    rw same (bits_of-joined count 2 value two)

-- eight bits of a number
pub eight_bits : (a b c d : ℕ) → b < 4 → c < 4 → d < 4
    → bits_of 8 (4 * (4 * (4 * a + b) + c) + d) ≡ bits_of 2 a ++ (bits_of 2 b ++ (bits_of 2 c ++ bits_of 2 d))
eight_bits a b c d second third fourth =
    two_more 6 (4 * (4 * a + b) + c) d fourth ∙ rw (
      two_more 4 (4 * a + b) c third,
      two_more 2 a b second,
      append_assoc (bits_of 2 a),
      append_assoc (bits_of 2 a),
      append_assoc (bits_of 2 b),
    ) refl

-- two bits of a row
pub pair_bits : (row x : ℕ) → bits_of 2 (bit_and (row / 2 ^ x) 3) ≡ bit row (x + 1) ∷ bit row x ∷ []
unfolding bits_of
pair_bits row x =
    let low : bit (bit_and (row / 2 ^ x) 3) 0 ≡ bit row x = grind (arith, and_bit (row / 2 ^ x) 3 0, shr_bit row x 0) in
    let high : bit (bit_and (row / 2 ^ x) 3) 1 ≡ bit row (x + 1) =
    grind (arith, and_bit (row / 2 ^ x) 3 1, shr_bit row x 1) in
    λ i. high i ∷ low i ∷ []

-- two bits that are set
pub both_set : (row x : ℕ) → bits_of 2 3 ≡ bit row (x + 1) ∷ bit row x ∷ []
    → (bit row (x + 1) ≡ true) × (bit row x ≡ true)
unfolding bits_of
both_set row x e =
    (sym (ap (λ l. get_or l 0 true) e), sym (ap (λ l. get_or l 1 true) e))

-- a row more of those that have the columns that are free in four rows
pub fours_more : (free : List (List Bool)) (fours : List ℕ) (next a b c d : ℕ) → next < length fours
    → ((x : ℕ) → bit a x ≡ value_at free x next) → ((x : ℕ) → bit b x ≡ value_at free x (next + 1))
    → ((x : ℕ) → bit c x ≡ value_at free x (next + 2)) → ((x : ℕ) → bit d x ≡ value_at free x (next + 3))
    → ((x y : ℕ) → y < next → module_in fours x y ≡ true → (k : ℕ) → k < 4 → value_at free x (y + k) ≡ true)
    → (x y : ℕ) → y < next + 1 → module_in (set fours next (bit_and (bit_and (bit_and a b) c) d)) x y ≡ true
    → (k : ℕ) → k < 4 → value_at free x (y + k) ≡ true
fours_more free fours next a b c d inside first second third fourth before x y early on k few = elim (cases_eq y next) [
  | inl e ↦
      let word = bit_and (bit_and (bit_and a b) c) d in
      let each = in_each a b c d x (sym (ap (λ w. bit w x) (get_or-set_at fours next y word 0 e inside)) ∙ on) in
      let none : next + 0 ≡ next = omega arith in
      rw e (by_four (λ k. value_at free x (next + k) ≡ true) (rw none (sym (first x) ∙ each.0)) (sym (second x) ∙ each.1)
      (sym (third x) ∙ each.2) (sym (fourth x) ∙ each.3) k few)
  | inr other ↦
      before x y (omega (arith, early, other))
      (sym (ap (λ w. bit w x) (get_or-set_other fours next y (bit_and (bit_and (bit_and a b) c) d) 0 other)) ∙ on) k few
]

-- one of four rows of a strip, by the highest of them
pub strip_row : (n number t j : ℕ) → t + 3 < n → j < 4
    → (k : ℕ) × (k < 4) × (row_of n number (t + j) ≡ min (row_of n number t) (row_of n number (t + 3)) + k)
strip_row n number t j inside few =
    elim (number % 2 == 0) as (λ up. (k : ℕ) × (k < 4) × ((if up then n - 1 - (t + j) else t + j)
    ≡ min (if up then n - 1 - t else t) (if up then n - 1 - (t + 3) else t + 3) + k)) [
      | true ↦ (3 - j, omega arith, omega (arith, inside, few))
      | false ↦ (j, few, omega arith)
    ]

pub strip_highest : (n number t : ℕ) → t + 3 < n → min (row_of n number t) (row_of n number (t + 3)) + 3 < n
strip_highest n number t inside =
    elim (number % 2 == 0) as (λ up. min (if up then n - 1 - t else t) (if up then n - 1 - (t + 3) else t + 3) + 3 < n) [
      | true ↦ omega (arith, inside)
      | false ↦ omega (arith, inside)
    ]
