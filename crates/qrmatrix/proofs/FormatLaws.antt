-- How far the format information is drawn, bit by bit.
use Rattle.std.proofs.Common.{◌≡◌, ℕ, ◌+◌, ◌*◌, ◌/◌, ◌%◌, ◌^◌, ◌<◌, ◌≤◌, refl, ◌∙◌, arith, Bool, true, false, ◌&&◌}
use Rattle.std.proofs.Common.{◌||◌, Option, None, Some, List, inl, inr}
use Rattle.std.specs.Prelude.{bit_and, nat_lt, ◌==◌}
use Rattle.std.specs.Int.{bit_at}
use Rattle.std.proofs.lemmas.Bool.{cases_Bool}
use Rattle.std.proofs.lemmas.Bool.Decides.{nat_tests}
use Rattle.std.proofs.lemmas.Nat.Bits.{bit_at-lt, shr_and_one}
use Rattle.qrmatrix.specs.Bits.{bit}
use Rattle.qrmatrix.specs.Functions.{Role, format_bit}
use Rattle.qrmatrix.specs.Modules.{is_inside}
use Rattle.qrmatrix.specs.Private.Drawing.{format_module}
use Rattle.qrmatrix.specs.Private.FunctionRows.{column_of_bit, row_of_bit}
use Rattle.qrmatrix.specs.Private.Squares.{flip_if}
use Rattle.qrmatrix.specs.Square.{value_at}
use Rattle.qrmatrix.proofs.Laws.FunctionRowLaws.{index_of}
use Rattle.qrmatrix.proofs.Laws.RowBitsLaws.{two_bits}

-- a module shows a bit below i that is one
abbrev pub shows_below : ℕ → ℕ → Option ℕ → Bool
shows_below i information None = false
shows_below i information (Some k) = nat_lt k i && bit information k

abbrev shows_bit : ℕ → Option ℕ → Bool
shows_bit i None = false
shows_bit i (Some k) = k == i

shows_next : (i information : ℕ) (index : Option ℕ) (z : Bool)
    → flip_if (shows_bit i index && bit information i) (flip_if (shows_below i information index) z)
    ≡ flip_if (shows_below (i + 1) information index) z
shows_next i information None z = refl
shows_next i information (Some k) z = grind (arith, nat_tests)

-- a bit has a module in column 8 and one in row 8
bit_places : (n i x y : ℕ) → 21 ≤ n → i < 15 → x < n → y < n → shows_bit i (format_bit n x y)
    ≡ (((x == 8) && (y == row_of_bit n i)) || ((y == 8) && (x == column_of_bit n i)))
unfolding format_bit row_of_bit column_of_bit
bit_places n i x y least li lx ly = grind (arith, nat_tests)

apart : (n i : ℕ) → 21 ≤ n → row_of_bit n i ≡ 8 → column_of_bit n i ≡ 8 → ⊥
unfolding row_of_bit column_of_bit
apart n i least r c = grind (arith, nat_tests)

two_flips : (p q d z : Bool) → (p ≡ true → q ≡ true → ⊥)
    → flip_if (q && d) (flip_if (p && d) z) ≡ flip_if ((p || q) && d) z
two_flips p q d z h = grind arith

-- bit i of a number, moved up by k places
moved : (information i dark k x : ℕ) → dark ≡ bit_and (information / 2 ^ i) 1 → k + 1 < 64
    → bit (dark * 2 ^ k % 2 ^ 64) x ≡ ((x == k) && bit information i)
moved information i dark k x e h =
    let small = bit_at-lt information i in
    rw (e, shr_and_one information i, two_bits (bit_at information i) k x (omega arith) h) (grind (arith, nat_tests))

-- the modules of the bits below i are drawn
abbrev pub DrawnTo : ℕ → ℕ → ℕ → List (List Bool) → List (List Bool) → Type 0
DrawnTo n information i old new = (x y : ℕ) → value_at new x y
    ≡ flip_if (is_inside n x y && shows_below i information (format_bit n x y)) (value_at old x y)

pub none_drawn : (n information : ℕ) (m : List (List Bool)) → DrawnTo n information 0 m m
none_drawn n information m x y = grind (arith, nat_tests)

-- one more bit is drawn
-- n is the side, and a and b are the places of bit i: m, r and s are before the bit, between its modules and after it
pub drawn_next : (n information i dark a b : ℕ) (old m r s : List (List Bool)) → 21 ≤ n → n ≤ 57 → i < 15
    → dark ≡ bit_and (information / 2 ^ i) 1 → a ≡ row_of_bit n i → a < n → b ≡ column_of_bit n i → b < n
    → DrawnTo n information i old m
    → ((x y : ℕ) → value_at r x y
    ≡ flip_if ((y == a) && bit (dark * 2 ^ 8 % 2 ^ 64) x) (value_at m x y))
    → ((x y : ℕ) → value_at s x y
    ≡ flip_if ((y == 8) && bit (dark * 2 ^ b % 2 ^ 64) x) (value_at r x y))
    → DrawnTo n information (i + 1) old s
drawn_next n information i dark a b old m r s least most li ed ea la eb lb before first second x y =
    let p = (x == 8) && (y == a) in
    let q = (y == 8) && (x == b) in
    let d = bit information i in
    let both : value_at s x y ≡ flip_if (q && d) (flip_if (p && d) (value_at m x y)) =
    second x y
    ∙ rw (first x y, moved information i dark 8 x ed (omega arith), moved information i dark b x ed (omega arith))
    (grind arith) in
    let once : value_at s x y ≡ flip_if ((p || q) && d) (value_at m x y) =
    both
    ∙ two_flips p q d (value_at m x y)
    (λ hp hq. apart n i least (grind (arith, nat_tests)) (grind (arith, nat_tests))) in
    once ∙ elim (cases_Bool (is_inside n x y)) [
      | inl inside ↦
          let places : shows_bit i (format_bit n x y) ≡ (p || q) =
          bit_places n i x y least li (grind (arith, nat_tests)) (grind (arith, nat_tests)) ∙ rw (ea, eb) refl in
          rw (← places, before x y, inside) (shows_next i information (format_bit n x y) (value_at old x y))
      | inr outside ↦
          let none : (p || q) ≡ false = grind (arith, nat_tests) in
          rw (none, before x y, outside) refl
    ]

-- fifteen bits have places
few_bits : (n i x y : ℕ) → 21 ≤ n → x < n → y < n → format_bit n x y ≡ Some i → i < 15
unfolding format_bit
few_bits n i x y least lx ly e = grind (arith, nat_tests)

-- all bits are drawn
pub all_drawn : (n information x y : ℕ) (r : Option Role) (z : Bool) → 21 ≤ n → x < n → y < n
    → index_of r ≡ format_bit n x y
    → flip_if (is_inside n x y && shows_below 15 information (format_bit n x y)) z
    ≡ flip_if (format_module information r) z
unfolding index_of
all_drawn n information x y r z least lx ly e =
    let few = λ (i : ℕ) (h : format_bit n x y ≡ Some i). few_bits n i x y least lx ly h in
    grind (arith, nat_tests, few)
