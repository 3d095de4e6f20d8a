-- The rows of the masks, 64 bits each.
use Rattle.std.proofs.Common.{◌≡◌, ℕ, ◌+◌, ◌%◌, ◌<◌, ◌^◌, ◌*◌, ◌/◌, refl, sym, ◌∙◌, arith, Bool, true}
use Rattle.std.proofs.Common.{List, [], inl, inr}
use Rattle.std.specs.Prelude.{slice_index_or, ◌==◌, bit_and, bit_xor, if◌then◌else◌}
use Rattle.std.specs.Bool.{beq}
use Rattle.qrmatrix.specs.declared.mask.TheConstants.{PATTERNS}
use Rattle.qrmatrix.specs.Bits.{bit}
use Rattle.qrmatrix.specs.Masks.{is_flipped}
use Rattle.qrmatrix.specs.Square.{value_at}
use Rattle.qrmatrix.specs.Private.Drawing.{IsMaskedTo, module_under_mask}
use Rattle.qrmatrix.proofs.Laws.SumLaws.{all_below, all_below_at}
use Rattle.qrmatrix.proofs.Laws.RowBitsLaws.{above_bit, and_bit, same_beq, xor_bit}
use Rattle.std.proofs.lemmas.Bool.Decides.{nat_tests}
use Rattle.std.proofs.lemmas.Bool.{cases_eq, cases_lt}
use Rattle.std.proofs.lemmas.Nat.{mul-mod}

-- the row that the table of patterns gives
abbrev mask_row : ℕ → ℕ → ℕ
mask_row mask place = slice_index_or (slice_index_or {A = List ℕ} PATTERNS mask []) place 0

is_right : ℕ → ℕ → ℕ → Bool
is_right mask y x = beq (bit (mask_row mask y) x) (is_flipped mask x y)

-- computed for each mask, column and one of twelve rows
are_right : all_below 8 (λ mask. all_below 12 (λ y. all_below 57 (is_right mask y))) ≡ true
unfolding is_flipped is_right
are_right = refl

same_product : (a b c m : ℕ) → a % m ≡ b % m → (a * c) % m ≡ (b * c) % m
same_product a b c m e = mul-mod a c m ∙ rw e (sym (mul-mod b c m))

-- the masks repeat after twelve rows
is_flipped-repeats : (mask x y : ℕ) → is_flipped mask x y ≡ is_flipped mask x (y % 12)
unfolding is_flipped
is_flipped-repeats mask x y =
    let i = y % 12 in
    let row : y % 2 ≡ i % 2 = omega arith in
    let twos : (y + x) % 2 ≡ (i + x) % 2 = omega arith in
    let threes : (y + x) % 3 ≡ (i + x) % 3 = omega arith in
    let blocks : (y / 2 + x / 3) % 2 ≡ (i / 2 + x / 3) % 2 = omega arith in
    rw (row, twos, threes, blocks, same_product y i x 2 row, same_product y i x 3 (omega arith)) refl

pub mask_row_is : (mask place x y : ℕ) → mask < 8 → x < 57 → y < 57 → y % 12 ≡ place
    → bit (mask_row mask place) x ≡ is_flipped mask x y
unfolding is_right
mask_row_is mask place x y lm lx ly at =
    rw (is_flipped-repeats mask x y, at)
    (same_beq _ _ (all_below_at 57 (is_right mask place) (all_below_at 12 (λ y. all_below 57 (is_right mask y))
    (all_below_at 8 (λ mask. all_below 12 (λ y. all_below 57 (is_right mask y))) are_right mask lm) place (omega arith))
    x lx))

-- a row of modules that is flipped at the free ones
pub row_masked : (mask p y : ℕ) (free modules : List (List Bool)) (f w : ℕ) → f < 2 ^ 57
    → ((x : ℕ) → x < 57 → bit p x ≡ is_flipped mask x y) → ((x : ℕ) → bit f x ≡ value_at free x y)
    → ((x : ℕ) → bit w x ≡ value_at modules x y) → (x : ℕ)
    → bit (bit_xor w (bit_and p f)) x ≡ module_under_mask mask free modules x y
row_masked mask p y free modules f w narrow pattern is_free is_module x =
    let xor = xor_bit w (bit_and p f) x in
    let and = and_bit p f x in
    elim (cases_lt x 57) [
      | inl l ↦ grind (arith, xor, and, pattern x l, is_free x, is_module x)
      | inr g ↦ grind (arith, xor, and, above_bit f 57 x narrow g, is_free x, is_module x)
    ]

-- one more row is under the mask
pub masked_more : (last mask w : ℕ) (free modules start m new : List (List Bool))
    → IsMaskedTo last mask free modules start m
    → ((x y : ℕ) → value_at new x y ≡ (if y == last then bit w x else value_at m x y))
    → ((x : ℕ) → bit w x ≡ module_under_mask mask free modules x last)
    → IsMaskedTo (last + 1) mask free modules start new
masked_more last mask w free modules start m new before put row x y =
    put x y ∙ elim (cases_eq y last) [
      | inl e ↦ rw (e, row x) (grind (arith, nat_tests))
      | inr ne ↦ rw (before x y) (grind (arith, nat_tests))
    ]
