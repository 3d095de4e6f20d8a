-- A square kept as 64 bits a row, seen row by row.
use Rattle.std.proofs.Common.{◌≡◌, ℕ, zero, suc, ◌^◌, ◌<◌, refl, sym, ap, ◌∙◌, arith, false, List}
use Rattle.std.proofs.Common.{[], ◌∷◌, get_or, length, inl, inr, set, get_or-set_other, get_or-set_same, ◌&&◌}
use Rattle.std.proofs.Common.{length-set}
use Rattle.std.specs.Prelude.{map, ◌==◌, All, slice_index, if◌then◌else◌, bit_xor}
use Rattle.std.proofs.lemmas.Bool.Decides.{nat_tests}
use Rattle.std.proofs.lemmas.Bool.{cases_lt, cases_eq, ne_eqb, eq-eqb}
use Rattle.std.proofs.lemmas.List.{get_or_past}
use Rattle.std.proofs.lemmas.List.Elements.{All-head, All-tail, All-set}
use Rattle.std.proofs.lemmas.List.FromFn.{get_or-map-range_with_len}
use Rattle.std.proofs.lemmas.Nat.{xor_lt}
use Rattle.qrmatrix.specs.Private.Squares.{flip_if}
use Rattle.qrmatrix.proofs.Laws.RowBitsLaws.{above_bit, xor_bit}
use Rattle.qrmatrix.specs.Bits.{bit}
use Rattle.qrmatrix.specs.Square.{value_at}
use Rattle.qrmatrix.specs.Private.RowBits.{low_bits, AreRows}

row_bits : (w : ℕ) → w < 2 ^ 57 → (x : ℕ) → get_or (low_bits w) x false ≡ bit w x
row_bits w h x =
    elim (cases_lt x 57) [
      | inl l ↦ get_or-map-range_with_len (bit w) 0 57 x x false l (omega arith)
      | inr g ↦ get_or_past (low_bits w) x false g ∙ sym (above_bit w 57 x h g)
    ]

pub rows_seen : (ws : List ℕ) → All (λ w. w < 2 ^ 57) ws → (x y : ℕ)
    → value_at (map low_bits ws) x y ≡ bit (slice_index ws y) x
rows_seen [] h x y = sym (above_bit 0 0 x (omega arith) (omega arith))
rows_seen (w ∷ ws) h x zero = row_bits w (All-head (λ w. w < 2 ^ 57) w ws h) x
rows_seen (w ∷ ws) h x (suc y) = rows_seen ws (All-tail (λ w. w < 2 ^ 57) w ws h) x y

-- a whole row is written
pub row_put : (ws : List ℕ) (w y : ℕ) → AreRows ws → w < 2 ^ 57 → y < 57 → (a b : ℕ)
    → value_at (map low_bits (set ws y w)) a b ≡ (if b == y then bit w a else value_at (map low_bits ws) a b)
row_put ws w y rows narrow ly a b =
    let l : y < length ws = let e = rows.count in omega arith in
    rw (rows_seen ws rows.narrow a b, rows_seen (set ws y w) (All-set (λ w. w < 2 ^ 57) ws y w narrow rows.narrow) a b)
    (elim (cases_eq b y) [
      | inl e ↦ rw (e, get_or-set_same ws y w 0 l, eq-eqb y y refl) refl
      | inr ne ↦ rw (ne_eqb b y ne) (ap (λ z. bit z a) (get_or-set_other ws y b w 0 ne))
    ])

pub narrow_at : (ws : List ℕ) → All (λ w. w < 2 ^ 57) ws → (y : ℕ) → get_or ws y 0 < 2 ^ 57
narrow_at [] h y = omega arith
narrow_at (w ∷ ws) h zero = All-head (λ w. w < 2 ^ 57) w ws h
narrow_at (w ∷ ws) h (suc y) = narrow_at ws (All-tail (λ w. w < 2 ^ 57) w ws h) y

pub flipped_rows : (ws : List ℕ) (w y : ℕ) → AreRows ws → w < 2 ^ 57 → y < 57
    → AreRows (set ws y (bit_xor (get_or ws y 0) w))
flipped_rows ws w y rows l ly =
    record {
      count = length-set ws y _ ∙ rows.count;
      narrow =
          All-set (λ w. w < 2 ^ 57) ws y _ (xor_lt 57 _ w (narrow_at ws rows.narrow y) l) rows.narrow;
    }

-- a row is turned over where other row bits are set
pub row_flipped : (ws : List ℕ) (w y : ℕ) → AreRows ws → w < 2 ^ 57 → y < 57 → (a b : ℕ)
    → value_at (map low_bits (set ws y (bit_xor (get_or ws y 0) w))) a b
    ≡ flip_if ((b == y) && bit w a) (value_at (map low_bits ws) a b)
row_flipped ws w y rows narrow ly a b =
    let turned = xor_bit (get_or ws y 0) w a in
    row_put ws _ y rows (xor_lt 57 _ w (narrow_at ws rows.narrow y) narrow) ly a b
    ∙ elim (cases_eq b y) [
      | inl e ↦ rw (e, rows_seen ws rows.narrow a y) (grind (arith, nat_tests))
      | inr ne ↦ grind (arith, nat_tests)
    ]
