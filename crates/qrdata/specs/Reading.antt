-- Reading the codewords of a symbol, with no correction (ISO/IEC 18004, 12).
-- Why: `deinterleaving`, `has_roots`, `segments_at`, `data_in`: clause 12, with no correction.
-- Why: `AreNear`, `IsGuarded`, `AreCorrectable`, `IsCorrected`: 7.5.1, the errors that are detected and corrected.
use Rattle.std.specs.Prelude.{ℕ, zero, suc, ◌+◌, ◌*◌, ◌/◌, ◌%◌, ◌^◌, List, [], ◌∷◌, ◌++◌, map, length, take, drop}
use Rattle.std.specs.Prelude.{◌≡◌, ◌<◌, ◌≤◌, ◌⊎◌, All, slice_index_or}
use Rattle.std.specs.Prelude.{replicate, slice_index, min, nat_lt, nat_le, ◌==◌, if◌then◌else◌, ◌&&◌, ◌||◌, Bool}
use Rattle.std.specs.Prelude.{Option, Some, None}
use Rattle.std.specs.List.{concat, count_by, find, list_all, range_with_len, sum_by, zip}
use Rattle.gf256.specs.Field.{alpha, field_power}
use Rattle.gf256.specs.Polynomial.{evaluate}
use Rattle.gf256.specs.ErrorCorrection.{wrong_codewords}
use Rattle.labelcore.specs.declared.level.Level.{Level}
use Rattle.labelcore.specs.Steps.{◌>>=◌}
use Rattle.qrdata.specs.declared.mode.Mode.{Mode}
use Rattle.qrdata.specs.declared.mode.Mode.TheVariants.{Numeric, Alphanumeric, Byte}
use Rattle.qrdata.specs.Bits.{number_of}
use Rattle.qrdata.specs.Segments.{alphanumeric_characters, byte_bits, count_width, mode_indicator, modes}
use Rattle.qrdata.specs.Versions.{block_lengths, data_codewords, ec_codewords_per_block, total_codewords}

-- the number in the first bits, if it is below a limit, and the bits after it
unfoldable pub number_at : ℕ → ℕ → List Bool → Option (ℕ × List Bool)
number_at limit width bits =
    if nat_lt (length bits) width || nat_le limit (number_of (take width bits)) then None
    else Some (number_of (take width bits), drop width bits)

-- `count` digits, and the bits after them
unfoldable pub digits_at : ℕ → List Bool → Option (List ℕ × List Bool)
digits_at zero bits = Some ([], bits)
digits_at (suc zero) bits = number_at 10 4 bits >>= λ n. Some ((48 + n.0) ∷ [], n.1)
digits_at (suc (suc zero)) bits = number_at 100 7 bits >>= λ n. Some ((48 + n.0 / 10) ∷ (48 + n.0 % 10) ∷ [], n.1)
digits_at (suc (suc (suc count))) bits = number_at 1000 10 bits >>= λ n. digits_at count n.1 >>= λ others.
    Some ((48 + n.0 / 100) ∷ (48 + n.0 / 10 % 10) ∷ (48 + n.0 % 10) ∷ others.0, others.1)

-- the character of an alphanumeric value
abbrev pub alphanumeric_character : ℕ → ℕ
alphanumeric_character value = slice_index alphanumeric_characters value

-- `count` alphanumeric characters, and the bits after them
unfoldable pub characters_at : ℕ → List Bool → Option (List ℕ × List Bool)
characters_at zero bits = Some ([], bits)
characters_at (suc zero) bits = number_at 45 6 bits >>= λ n. Some (alphanumeric_character n.0 ∷ [], n.1)
characters_at (suc (suc count)) bits = number_at 2025 11 bits >>= λ n. characters_at count n.1 >>= λ others.
    Some (alphanumeric_character (n.0 / 45) ∷ alphanumeric_character (n.0 % 45) ∷ others.0, others.1)

-- `count` bytes, and the bits after them
unfoldable pub bytes_at : ℕ → List Bool → Option (List ℕ × List Bool)
bytes_at zero bits = Some ([], bits)
bytes_at (suc count) bits = number_at 256 8 bits >>= λ n. bytes_at count n.1 >>= λ others.
    Some (n.0 ∷ others.0, others.1)

-- the payload of `count` bytes, and the bits after it
abbrev pub payload_at : Mode → ℕ → List Bool → Option (List ℕ × List Bool)
payload_at Numeric count bits = digits_at count bits
payload_at Alphanumeric count bits = characters_at count bits
payload_at Byte count bits = bytes_at count bits

-- the payload of the segment at the front, and the bits after it
unfoldable pub segment_at : ℕ → List Bool → Option (List ℕ × List Bool)
segment_at version bits = do
  indicator ← number_at 16 4 bits
  mode ← find (λ mode. mode_indicator mode == indicator.0) modes
  count ← number_at (2 ^ count_width version mode) (count_width version mode) indicator.1
  payload_at mode count.0 count.1

-- whether the segments end here: fewer than four bits are left, or the next four are zeros
abbrev pub is_end : List Bool → Bool
is_end bits = number_of (take 4 bits) == 0 || nat_lt (length bits) 4

-- the payloads of at most n segments, joined
unfoldable pub segments_at : ℕ → ℕ → List Bool → Option (List ℕ)
segments_at version zero bits = if is_end bits then Some [] else None
segments_at version (suc n) bits = if is_end bits then Some [] else do
  first ← segment_at version bits
  others ← segments_at version n first.1
  Some (first.0 ++ others)

-- Where codeword i of block b is among the interleaved codewords of blocks of these lengths: after the codewords of the
-- rounds before it, and in its own round after those of the blocks before it. A block that is at its end has none.
abbrev pub interleaving_place : List ℕ → ℕ → ℕ → ℕ
interleaving_place lengths b i = sum_by (min i) lengths + count_by (nat_lt i) (take b lengths)

-- the blocks of these lengths whose codewords are interleaved
unfoldable pub deinterleaving : List ℕ → List ℕ → List (List ℕ)
deinterleaving lengths codewords =
    map (λ b. map (λ i. slice_index codewords (interleaving_place lengths b i))
    (range_with_len 0 (slice_index lengths b))) (range_with_len 0 (length lengths))

-- whether the polynomial of a block and its error correction codewords is 0 at alpha^0 to alpha^(k-1)
abbrev pub has_roots : ℕ → List ℕ × List ℕ → Bool
has_roots k block = list_all (λ i. evaluate (block.0 ++ block.1) (field_power alpha i) == 0) (range_with_len 0 k)

-- The data that the codewords of a symbol hold. They are taken back to their blocks, each block has to be a multiple of
-- its generator, and the data codewords are joined and read as segments.
unfoldable pub data_in : ℕ → Level → List ℕ → Option (List ℕ)
data_in version level codewords =
    let size = data_codewords version level in
    let ec_codewords = ec_codewords_per_block version level in
    let lengths = block_lengths version level in
    let blocks = deinterleaving lengths (take size codewords) in
    let ec_blocks = deinterleaving (replicate (length lengths) ec_codewords) (drop size codewords) in
    if length codewords == total_codewords version && list_all (has_roots ec_codewords) (zip blocks ec_blocks)
    then segments_at version (8 * size) (byte_bits (concat blocks)) else None

-- block b among the codewords of a symbol: its data codewords, and then its error correction codewords
unfoldable pub block_in : ℕ → Level → List ℕ → ℕ → List ℕ
block_in version level codewords b =
    let size = data_codewords version level in
    let lengths = block_lengths version level in
    let ec_lengths = replicate (length lengths) (ec_codewords_per_block version level) in
    slice_index_or (deinterleaving lengths (take size codewords)) b []
    ++ slice_index_or (deinterleaving ec_lengths (drop size codewords)) b []

-- in each block at most as many codewords are wrong as are for error correction
unfoldable pub AreNear : ℕ → Level → List ℕ → List ℕ → Type 0
AreNear version level codewords other =
    (b : ℕ) → b < length (block_lengths version level)
    → wrong_codewords (block_in version level codewords b) (block_in version level other b)
    ≤ ec_codewords_per_block version level

-- codewords that are so near are read as this data, or as nothing
abbrev pub IsGuarded : ℕ → Level → List ℕ → List ℕ → Type 0
IsGuarded version level codewords bytes =
    (other : List ℕ) → All (λ codeword. codeword < 256) other → AreNear version level codewords other
    → (data_in version level other ≡ None) ⊎ (data_in version level other ≡ Some bytes)

-- in each block at most half as many codewords are wrong as are for error correction
unfoldable pub AreCorrectable : ℕ → Level → (codewords seen : List ℕ) → Type 0
AreCorrectable version level codewords seen =
    (b : ℕ) → b < length (block_lengths version level)
    → 2 * wrong_codewords (block_in version level codewords b) (block_in version level seen b)
    ≤ ec_codewords_per_block version level

-- where no more are wrong in what was seen, whoever corrects it to codewords that are read, and corrects no more, finds
-- this data
abbrev pub IsCorrected : ℕ → Level → List ℕ → List ℕ → Type 0
IsCorrected version level codewords bytes =
    (seen corrected found : List ℕ) → All (λ codeword. codeword < 256) corrected
    → AreCorrectable version level codewords seen → AreCorrectable version level corrected seen
    → data_in version level corrected ≡ Some found → found ≡ bytes
