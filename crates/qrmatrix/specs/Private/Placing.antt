-- The placement of the codewords row by row of a strip (ISO/IEC 18004, 7.7.3).
use Rattle.std.specs.Prelude.{◌≡◌, ◌≤◌, ℕ, ◌+◌, ◌-◌, ◌*◌, ◌/◌, ◌%◌, ◌<◌, Bool, ◌&&◌, ◌==◌, nat_lt, List}
use Rattle.std.specs.Prelude.{if◌then◌else◌}
use Rattle.qrdata.specs.Versions.{side_of}
use Rattle.qrmatrix.specs.Bits.{bit}
use Rattle.qrmatrix.specs.Functions.{is_free}
use Rattle.qrmatrix.specs.Placement.{codeword_bit, key, rank}
use Rattle.qrmatrix.specs.Modules.{is_inside}
use Rattle.qrmatrix.specs.Square.{value_at}
use Rattle.qrmatrix.specs.Private.Counting.{count_below, sum_below}
use Rattle.qrmatrix.specs.Private.Drawing.{MarksFree}
use Rattle.qrmatrix.specs.Private.Squares.{flip_if}
use Rattle.qrmatrix.specs.declared.placement.Strip.{Strip}

-- how many free modules have a key below k
unfoldable pub free_below : ℕ → ℕ → ℕ
free_below v k =
    let n = side_of v in
    sum_below n (λ y. count_below n (λ x. is_free v x y && nat_lt (key n x y) k))

-- the right column of a strip
abbrev pub right_column : ℕ → ℕ → ℕ
right_column n number = if nat_lt number ((n - 7) / 2) then n - 1 - 2 * number else n - 2 - 2 * number

-- the row that a strip reaches after t others
abbrev pub row_of : ℕ → ℕ → ℕ → ℕ
row_of n number t = if number % 2 == 0 then n - 1 - t else t

-- the highest bits of a word of 64, `count` of them, are those of the codewords from bit i on
abbrev pub HasBits : ℕ → ℕ → List ℕ → ℕ → Type 0
HasBits count word codewords i = (j : ℕ) → j < count → bit word (63 - j) ≡ codeword_bit codewords (i + j)

-- the highest bits of a word for two modules, the right one (bit 1) first; one that is not free gets none
pub record ShowsFree (two free word : ℕ) : Type 0 where
  pub right : bit two 1 ≡ (bit free 1 && bit word 63)
  pub left : bit two 0 ≡ (bit free 0 && (if bit free 1 then bit word 62 else bit word 63))

-- a free module with a key below k
abbrev pub is_before : ℕ → ℕ → ℕ → ℕ → Bool
is_before v k x y = is_inside (side_of v) x y && (is_free v x y && nat_lt (key (side_of v) x y) k)

-- the free modules with a key below k, of which there are i, are turned over by their bits, and no other module is
pub record Placed (v : ℕ) (codewords : List ℕ) (old new : ℕ → ℕ → Bool) (i k : ℕ) : Type 0 where
  pub counted : i ≡ free_below v k
  pub shown : (x y : ℕ) → new x y ≡ flip_if (is_before v k x y && codeword_bit codewords (rank v x y)) (old x y)

-- a strip of a symbol of a version
pub record IsStrip (v : ℕ) (strip : Strip) : Type 0 where
  pub least : 1 ≤ v
  pub most : v ≤ 10
  pub side : strip.side ≡ side_of v
  pub number : strip.number < (side_of v - 1) / 2
  pub column : strip.x + 1 ≡ right_column (side_of v) strip.number

-- the bits from i on, and before j, are placed on the rows of a strip from t on, and before u
abbrev pub MovesOn : Strip → List (List Bool) → List ℕ → List (List Bool) → List (List Bool) → ℕ → ℕ → ℕ → ℕ → Type 0
MovesOn strip free codewords old new i t j u =
    (v : ℕ) (start : ℕ → ℕ → Bool) → IsStrip v strip → MarksFree v free
    → Placed v codewords start (value_at old) i (2 * side_of v * strip.number + 2 * t)
    → Placed v codewords start (value_at new) j (2 * side_of v * strip.number + 2 * u)

-- `count` bits, the highest of a word, are placed on a row of each strip that has the row and the columns
abbrev pub MovesRow : List (List Bool) → List (List Bool) → List (List Bool) → ℕ → ℕ → ℕ → ℕ → Type 0
MovesRow free old new x y word count =
    (strip : Strip) (t : ℕ) (codewords : List ℕ) (i : ℕ) → x ≡ strip.x → y ≡ row_of strip.side strip.number t
    → t < strip.side → HasBits 2 word codewords i → MovesOn strip free codewords old new i t (i + count) (t + 1)
