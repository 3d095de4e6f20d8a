-- The order in which the codewords are placed on the free modules (ISO/IEC 18004, 7.7.3 and Table 1).
-- Why: `key`, `rank`: 7.7.3, as an order of the modules; only the code has a cursor.
-- Why: `free_count`: 7.7.3; `remainder_bits`: table 1; it is proved that no other modules are free.
use Rattle.std.specs.Prelude.{◌≡◌, ◌≤◌, ℕ, ◌+◌, ◌-◌, ◌*◌, ◌/◌, ◌%◌, Bool, ◌&&◌, ◌==◌, nat_lt, List}
use Rattle.std.specs.Prelude.{if◌then◌else◌, [], ◌∷◌, slice_index, sum_by, count_by}
use Rattle.std.specs.List.{range_with_len}
use Rattle.qrdata.specs.Versions.{side_of, total_codewords}
use Rattle.qrmatrix.specs.Bits.{bit}
use Rattle.qrmatrix.specs.Functions.{is_free}

-- the place of a module in the order of placement: strips of two columns from the right, upwards and downwards in turn,
-- in each row the right module first. To its right are d columns, the timing column 6 not counted.
unfoldable pub key : ℕ → ℕ → ℕ → ℕ
key n x y =
    let d = if nat_lt 6 x then n - 1 - x else n - 2 - x in
    let row = if (d / 2) % 2 == 0 then n - 1 - y else y in
    2 * n * (d / 2) + 2 * row + d % 2

-- how many free modules are placed before the module: those whose key is lower
unfoldable pub rank : ℕ → ℕ → ℕ → ℕ
rank v x y =
    let n = side_of v in
    let k = key n x y in
    sum_by (λ j. count_by (λ i. is_free v i j && nat_lt (key n i j) k) (range_with_len 0 n)) (range_with_len 0 n)

-- bit i of the codewords, the high bit of each codeword first, and 0 past their end
abbrev pub codeword_bit : List ℕ → ℕ → Bool
codeword_bit codewords i = bit (slice_index codewords (i / 8)) (7 - i % 8)

-- how many modules of a version are free
unfoldable pub free_count : ℕ → ℕ
free_count v =
    let places = range_with_len 0 (side_of v) in sum_by (λ y. count_by (λ x. is_free v x y) places) places

-- the free modules that are left after the last codeword (Table 1, remainder bits)
unfoldable pub remainder_bits : ℕ → ℕ
remainder_bits v = slice_index (0 ∷ 0 ∷ 7 ∷ 7 ∷ 7 ∷ 7 ∷ 7 ∷ 0 ∷ 0 ∷ 0 ∷ 0 ∷ []) v

-- in each version the free modules are the bits of the codewords and the remainder bits
abbrev pub CodewordsFillFreeModules : Type 0
CodewordsFillFreeModules =
    (v : ℕ) → 1 ≤ v → v ≤ 10 → free_count v ≡ 8 * total_codewords v + remainder_bits v
