-- The reading of a symbol's modules, m x y being the module at column x and row y of n by n (ISO/IEC 18004, 12).
-- Why: `read_matrix`: clause 12, with no correction.
-- Why: `AgreeBut`, `IsGuarded`: 7.5.1 and annexes C and D, the errors that are detected.
use Rattle.std.specs.Prelude.{ℕ, ◌+◌, ◌-◌, ◌*◌, ◌/◌, ◌%◌, ◌^◌, Bool, not, ◌&&◌, ◌||◌, ◌==◌, nat_le, if◌then◌else◌}
use Rattle.std.specs.Prelude.{◌≡◌, ◌≤◌, ◌<◌, All, IfSome, false, length}
use Rattle.std.specs.Prelude.{List, [], ◌∷◌, ◌++◌, map, reverse, Option, None, Some, bit_xor, unwrap_or}
use Rattle.std.specs.Bool.{beq, xor}
use Rattle.std.specs.List.{range_with_len, filter, find, flat_map, list_all, list_any}
use Rattle.gf256.specs.BinaryPolynomial.{binary_remainder}
use Rattle.gf256.specs.ErrorCorrection.{wrong_codewords}
use Rattle.labelcore.specs.declared.level.Level.{Level}
use Rattle.labelcore.specs.declared.level.Level.TheVariants.{L, M, Q, H}
use Rattle.labelcore.specs.Steps.{◌>>=◌}
use Rattle.qrdata.specs.Bits.{number_of, codewords_of}
use Rattle.qrdata.specs.Reading.{data_in}
use Rattle.qrdata.specs.Versions.{total_codewords, side_of}
use Rattle.qrmatrix.specs.Functions.{fixed_module, is_free}
use Rattle.qrmatrix.specs.Masks.{is_flipped}

-- the places of the bits of the format information, bit 0 first, in its first copy
abbrev pub format_copy_1 : List (ℕ × ℕ)
format_copy_1 =
    map (λ i. (8, i)) (range_with_len 0 6) ++ ((8, 7) ∷ (8, 8) ∷ (7, 8) ∷ map (λ i. (14 - i, 8)) (range_with_len 9 6))

-- the places of the bits of the format information in its second copy
abbrev pub format_copy_2 : ℕ → List (ℕ × ℕ)
format_copy_2 n = map (λ i. (n - 1 - i, 8)) (range_with_len 0 8) ++ map (λ i. (8, n - 15 + i)) (range_with_len 8 7)

-- the places of the bits of the version information, bit 0 first, in its first copy
abbrev pub version_copy_1 : ℕ → List (ℕ × ℕ)
version_copy_1 n = map (λ i. (n - 11 + i % 3, i / 3)) (range_with_len 0 18)

-- the places of the bits of the version information in its second copy
abbrev pub version_copy_2 : ℕ → List (ℕ × ℕ)
version_copy_2 n = map (λ i. (i / 3, n - 11 + i % 3)) (range_with_len 0 18)

-- the number whose bits are at a list of places, bit 0 at the first
abbrev pub information_at : (ℕ → ℕ → Bool) → List (ℕ × ℕ) → ℕ
information_at m places = number_of (reverse (map (λ (p : ℕ × ℕ). m p.0 p.1) places))

-- the level that an error correction level indicator names
abbrev pub level_of : ℕ → Level
level_of indicator = if indicator == 0 then M else if indicator == 1 then L else if indicator == 2 then H else Q

-- the level and the mask, where both copies of the format information agree, and without the format mask are a multiple
-- of the generator
unfoldable pub read_format : ℕ → (ℕ → ℕ → Bool) → Option (Level × ℕ)
read_format n m =
    let first = information_at m format_copy_1 in
    let unmasked = bit_xor first 0x5412 in
    if (first == information_at m (format_copy_2 n)) && (binary_remainder 10 0x537 5 unmasked == 0)
    then Some (level_of (unmasked / 2 ^ 13), unmasked / 2 ^ 10 % 8) else None

-- whether both copies of the version information are that of the version, where the version has it
unfoldable pub shows_version : ℕ → ℕ → (ℕ → ℕ → Bool) → Bool
shows_version v n m =
    let first = information_at m (version_copy_1 n) in
    let second = information_at m (version_copy_2 n) in
    not (nat_le 7 v) || ((first == second) && ((binary_remainder 12 0x1F25 6 first == 0) && (first / 2 ^ 12 == v)))

-- whether every module that the codewords do not choose is right
unfoldable pub shows_functions : ℕ → Level → ℕ → (ℕ → ℕ → Bool) → Bool
shows_functions v level mask m =
    let places = range_with_len 0 (side_of v) in
    list_all (λ y. list_all (λ x. beq (unwrap_or (fixed_module v level mask x y) (m x y)) (m x y)) places) places

-- a strip of two columns: in each of its rows the right module, then the left one
abbrev pub strip : ℕ → List ℕ → List (ℕ × ℕ)
strip right ys = flat_map (λ y. (right, y) ∷ (right - 1, y) ∷ []) ys

-- strips one after another, their rows in one order and the other in turn
abbrev pub strips : List ℕ → List ℕ → List ℕ → List (ℕ × ℕ)
strips [] rows other_rows = []
strips (right ∷ rights) rows other_rows = strip right rows ++ strips rights other_rows rows

-- the right columns of the strips, from the right; column 6 is in none
abbrev pub right_columns : ℕ → List ℕ
right_columns n = map (λ s. n - 1 - 2 * s) (range_with_len 0 ((n - 7) / 2)) ++ (5 ∷ 3 ∷ 1 ∷ [])

-- the modules in the order of reading, the first strip upwards
unfoldable pub walk : ℕ → List (ℕ × ℕ)
walk n = strips (right_columns n) (reverse (range_with_len 0 n)) (range_with_len 0 n)

-- the bits of the codewords: the free modules in the order of reading, with the mask taken off
unfoldable pub read_bits : ℕ → ℕ → (ℕ → ℕ → Bool) → List Bool
read_bits v mask m = map (λ (p : ℕ × ℕ). xor (is_flipped mask p.0 p.1) (m p.0 p.1))
    (filter (λ (p : ℕ × ℕ). is_free v p.0 p.1) (walk (side_of v)))

-- what the modules of a symbol are read as
pub record Reading : Type 0 where
  pub version : ℕ
  pub level : Level
  pub codewords : List ℕ

-- the reading, from the level and the mask that the format information gives
abbrev pub read_with : ℕ → (ℕ → ℕ → Bool) → Level × ℕ → Option Reading
read_with v m format =
    let codewords = codewords_of (total_codewords v) (read_bits v format.1 m) in
    if shows_version v (side_of v) m && shows_functions v format.0 format.1 m
    then Some (record { version = v; level = format.0; codewords = codewords }) else None

-- the version, the level and the codewords of a symbol; there is no reading where any check fails
unfoldable pub read_matrix : ℕ → (ℕ → ℕ → Bool) → Option Reading
read_matrix n m = find (λ v. side_of v == n) (range_with_len 1 10) >>= λ v. read_format n m >>= read_with v m

-- the data of a symbol
abbrev pub read_square : ℕ → (ℕ → ℕ → Bool) → Option (List ℕ)
read_square n m = read_matrix n m >>= λ symbol. data_in symbol.version symbol.level symbol.codewords

-- a square in its seven other positions: with columns for rows, left for right and upside down; then turned by a half,
-- by a quarter either way, and with columns for rows along the other diagonal
abbrev pub other_positions : ℕ → (ℕ → ℕ → Bool) → List (ℕ → ℕ → Bool)
other_positions n m =
    (λ x y. m y x) ∷ (λ x y. m (n - 1 - x) y) ∷ (λ x y. m x (n - 1 - y)) ∷ (λ x y. m (n - 1 - x) (n - 1 - y))
    ∷ (λ x y. m y (n - 1 - x)) ∷ (λ x y. m (n - 1 - y) x) ∷ (λ x y. m (n - 1 - y) (n - 1 - x)) ∷ []

-- in no other position than upright is a symbol read
abbrev pub IsUpright : ℕ → (ℕ → ℕ → Bool) → Type 0
IsUpright n m = All (λ other. read_square n other ≡ None) (other_positions n m)

-- whether a place is among some
abbrev pub is_among : List (ℕ × ℕ) → ℕ → ℕ → Bool
is_among places x y = list_any (λ (p : ℕ × ℕ). x == p.0 && y == p.1) places

-- two symbols have the same modules, but for those at some places, which may differ
abbrev pub AgreeBut : List (ℕ × ℕ) → (ℕ → ℕ → Bool) → (ℕ → ℕ → Bool) → Type 0
AgreeBut places m other = (x y : ℕ) → is_among places x y ≡ false → other x y ≡ m x y

-- the same version and level, as many codewords, and at most `count` wrong ones
pub record IsLike (count : ℕ) (reading other : Reading) : Type 0 where
  pub version : other.version ≡ reading.version
  pub level : other.level ≡ reading.level
  pub codewords : length other.codewords ≡ length reading.codewords
  pub bytes : All (λ codeword. codeword < 256) other.codewords
  pub few : wrong_codewords reading.codewords other.codewords ≤ count

-- Where at most 13 modules are turned, whichever they are, a symbol is not read, or read as the same version and level,
-- with at most as many wrong codewords.
abbrev pub IsGuarded : ℕ → (ℕ → ℕ → Bool) → Reading → Type 0
IsGuarded n m reading =
    (turned : List (ℕ × ℕ)) (other : ℕ → ℕ → Bool) → length turned ≤ 13 → AgreeBut turned m other
    → IfSome (read_matrix n other) (IsLike (length turned) reading)
