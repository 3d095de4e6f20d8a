-- The sizes of versions 1 to 10 (ISO/IEC 18004, tables 1 and 9). In each list place v is of version v, and place 0 of
-- none.
-- Why: `side_of`, `total_codewords`, `ec_codewords_per_block`, `data_codewords`, `capacity`, `block_lengths`:
-- tables 1, 7 and 9; the split of blocks follows from total, count and error correction codewords.
use Rattle.std.specs.Prelude.{ℕ, ◌+◌, ◌-◌, ◌*◌, ◌≤◌, List, [], ◌∷◌, map, slice_index, slice_index_or, sum}
use Rattle.std.specs.Prelude.{replicate}
use Rattle.std.specs.List.{flat_map}
use Rattle.labelcore.specs.declared.level.Level.{Level}
use Rattle.labelcore.specs.declared.level.Level.TheVariants.{L, M, Q, H}

-- the versions are 1 to 10
abbrev pub IsVersion : ℕ → Type 0
IsVersion version = (1 ≤ version) × (version ≤ 10)

-- how many modules a side has
abbrev pub side_of : ℕ → ℕ
side_of version = 17 + 4 * version

-- how many codewords a symbol has, data and error correction codewords (table 1)
unfoldable pub total_codewords : ℕ → ℕ
total_codewords version =
    slice_index (0 ∷ 26 ∷ 44 ∷ 70 ∷ 100 ∷ 134 ∷ 172 ∷ 196 ∷ 242 ∷ 292 ∷ 346 ∷ []) version

-- The blocks of the symbols of each version (table 9), those of one length together: how many blocks there are, the
-- codewords of each, and how many of these are data codewords.
unfoldable pub block_table : Level → List (List (ℕ × ℕ × ℕ))
block_table L =
    [] ∷ ((1, 26, 19) ∷ []) ∷ ((1, 44, 34) ∷ []) ∷ ((1, 70, 55) ∷ []) ∷ ((1, 100, 80) ∷ []) ∷ ((1, 134, 108) ∷ []) ∷
    ((2, 86, 68) ∷ []) ∷ ((2, 98, 78) ∷ []) ∷ ((2, 121, 97) ∷ []) ∷ ((2, 146, 116) ∷ []) ∷
    ((2, 86, 68) ∷ (2, 87, 69) ∷ []) ∷ []
block_table M =
    [] ∷ ((1, 26, 16) ∷ []) ∷ ((1, 44, 28) ∷ []) ∷ ((1, 70, 44) ∷ []) ∷ ((2, 50, 32) ∷ []) ∷ ((2, 67, 43) ∷ []) ∷
    ((4, 43, 27) ∷ []) ∷ ((4, 49, 31) ∷ []) ∷ ((2, 60, 38) ∷ (2, 61, 39) ∷ []) ∷ ((3, 58, 36) ∷ (2, 59, 37) ∷ []) ∷
    ((4, 69, 43) ∷ (1, 70, 44) ∷ []) ∷ []
block_table Q =
    [] ∷ ((1, 26, 13) ∷ []) ∷ ((1, 44, 22) ∷ []) ∷ ((2, 35, 17) ∷ []) ∷ ((2, 50, 24) ∷ []) ∷
    ((2, 33, 15) ∷ (2, 34, 16) ∷ []) ∷ ((4, 43, 19) ∷ []) ∷ ((2, 32, 14) ∷ (4, 33, 15) ∷ []) ∷
    ((4, 40, 18) ∷ (2, 41, 19) ∷ []) ∷ ((4, 36, 16) ∷ (4, 37, 17) ∷ []) ∷ ((6, 43, 19) ∷ (2, 44, 20) ∷ []) ∷ []
block_table H =
    [] ∷ ((1, 26, 9) ∷ []) ∷ ((1, 44, 16) ∷ []) ∷ ((2, 35, 13) ∷ []) ∷ ((4, 25, 9) ∷ []) ∷
    ((2, 33, 11) ∷ (2, 34, 12) ∷ []) ∷ ((4, 43, 15) ∷ []) ∷ ((4, 39, 13) ∷ (1, 40, 14) ∷ []) ∷
    ((4, 40, 14) ∷ (2, 41, 15) ∷ []) ∷ ((4, 36, 12) ∷ (4, 37, 13) ∷ []) ∷ ((6, 43, 15) ∷ (2, 44, 16) ∷ []) ∷ []

-- the blocks of a symbol, by their lengths
unfoldable pub groups_of : ℕ → Level → List (ℕ × ℕ × ℕ)
groups_of version level = slice_index_or (block_table level) version []

-- the data codewords of each block
unfoldable pub block_lengths : ℕ → Level → List ℕ
block_lengths version level = flat_map (λ (group : ℕ × ℕ × ℕ). replicate group.0 group.2) (groups_of version level)

-- how many data codewords a symbol has
unfoldable pub data_codewords : ℕ → Level → ℕ
data_codewords version level = sum (block_lengths version level)

-- how many error correction codewords each block has: all blocks have as many as the first
unfoldable pub ec_codewords_per_block : ℕ → Level → ℕ
ec_codewords_per_block version level =
    slice_index (map (λ (group : ℕ × ℕ × ℕ). group.1 - group.2) (groups_of version level)) 0

-- how many data bits a symbol has
abbrev pub capacity : ℕ → Level → ℕ
capacity version level = 8 * data_codewords version level
