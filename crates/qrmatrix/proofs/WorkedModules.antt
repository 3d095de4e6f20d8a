-- Modules of QR symbols one by one (ISO/IEC 18004, 7.7, 7.9 and 7.10): the order of placement, and symbols with one
-- wrong module, which are not read.
use Rattle.std.specs.Prelude.{◌≡◌, ℕ, ◌+◌, ◌-◌, ◌*◌, ◌/◌, ◌%◌, ◌^◌, ◌==◌, nat_lt, refl, Bool, true, false, List, []}
use Rattle.std.specs.Prelude.{◌∷◌, ◌++◌, map, Option, None, Some, codes, slice_index, slice_set, bit_xor, replicate}
use Rattle.std.specs.Prelude.{if◌then◌else◌, zip}
use Rattle.std.specs.List.{range_with_len}
use Rattle.gf256.specs.BinaryPolynomial.{binary_remainder}
use mathlib.Core.Bool.{xor}
use Rattle.labelcore.specs.declared.level.Level.{Level}
use Rattle.labelcore.specs.declared.level.Level.TheVariants.{L, M, Q, H}
use Rattle.qrdata.specs.Bits.{codewords_of, number_of}
use Rattle.qrdata.specs.Versions.{total_codewords}
use Rattle.qrmatrix.specs.Bits.{bit}
use Rattle.qrmatrix.specs.Functions.{fixed_module, is_free, role}
use Rattle.qrmatrix.specs.Information.{format_information, version_information}
use Rattle.qrmatrix.specs.Masks.{is_flipped}
use Rattle.qrmatrix.specs.Modules.{module_at}
use Rattle.qrmatrix.specs.Placement.{codeword_bit, key, rank}
use Rattle.qrmatrix.specs.Reading.{is_among, read_bits, read_format, read_matrix, shows_functions}
use Rattle.qrmatrix.specs.Reading.{shows_version, walk}

-- ---- a symbol of version 2 at level Q under mask 5, as Zint draws it (`zint -b 58 --vers=2 --secure=3 --mask=5
-- --verbose --dump -d "WRONG MODULES"`)

-- bit x of a row is its module at column x
rows : List ℕ
rows =
    0x1fced7f ∷ 0x1049541 ∷ 0x175585d ∷ 0x174d85d ∷ 0x174e45d ∷ 0x1056641 ∷ 0x1fd557f ∷ 0x3e00 ∷ 0x182cdc2 ∷ 0x1b44631
    ∷ 0x7416ef ∷ 0x15dc3be ∷ 0x8e784d ∷ 0xfc5d2d ∷ 0x1ba7dd ∷ 0xd93c85 ∷ 0x1f86e9 ∷ 0x1f10300 ∷ 0x15b17f ∷ 0x51d241 ∷
    0x1df345d ∷ 0x14a7a5d ∷ 0x16d085d ∷ 0x3cbd41 ∷ 0x1b5d67f ∷ []

-- the codewords, which Zint prints as the data stream
codewords : List ℕ
codewords =
    32 ∷ 109 ∷ 187 ∷ 137 ∷ 235 ∷ 209 ∷ 251 ∷ 38 ∷ 119 ∷ 126 ∷ 224 ∷ 0 ∷ 236 ∷ 17 ∷ 236 ∷ 17 ∷ 236 ∷ 17 ∷ 236 ∷ 17 ∷
    236 ∷ 17 ∷ 56 ∷ 82 ∷ 138 ∷ 186 ∷ 13 ∷ 50 ∷ 69 ∷ 180 ∷ 164 ∷ 205 ∷ 254 ∷ 207 ∷ 68 ∷ 239 ∷ 176 ∷ 253 ∷ 237 ∷ 95 ∷ 44
    ∷ 14 ∷ 106 ∷ 92 ∷ []

modules_of : List ℕ → ℕ → ℕ → Bool
modules_of rows x y = bit (slice_index rows y) x

-- the rows with the module at a place changed
changed : List ℕ → ℕ × ℕ → List ℕ
changed rows p = slice_set rows p.1 (bit_xor (slice_index rows p.1) (2 ^ p.0))

-- ---- placement

-- how many modules are placed before a module, strip by strip from the lower right corner (ISO/IEC 18004, 7.7.3)
ranks : ℕ → List (ℕ × ℕ) → List ℕ
ranks v places = map (λ (p : ℕ × ℕ). rank v p.0 p.1) places

ranks_in_version_1 : ranks 1 (
    (20, 20) ∷ (19, 20) ∷ (20, 19) ∷ (19, 19) ∷ (20, 9) ∷ (19, 9) ∷ (18, 9) ∷ (17, 9) ∷ (17, 20) ∷ (16, 20) ∷ (14, 9)
    ∷ (13, 20) ∷ (12, 20) ∷ (11, 13) ∷ (12, 12) ∷ (11, 9) ∷ (12, 8) ∷ (9, 3) ∷ (10, 4) ∷ (9, 12) ∷ (10, 13) ∷ (9, 13)
    ∷ (9, 20) ∷ (8, 12) ∷ (4, 12) ∷ (3, 12) ∷ (0, 12) ∷ []) ≡
    0 ∷ 1 ∷ 2 ∷ 3 ∷ 22 ∷ 23 ∷ 24 ∷ 25 ∷ 47 ∷ 48 ∷ 72 ∷ 95 ∷ 96 ∷ 111 ∷ 112 ∷ 119 ∷ 120 ∷ 143 ∷ 144 ∷ 159 ∷ 160 ∷ 161 ∷
    175 ∷ 176 ∷ 191 ∷ 192 ∷ 207 ∷ []
unfolding ranks rank key is_free role
ranks_in_version_1 = refl

-- the walk has all modules but for column 6, in this order
keys : map (λ (p : ℕ × ℕ). key 21 p.0 p.1) (walk 21) ≡ range_with_len 0 420
unfolding key walk
keys = refl

bits_of_codewords : map (codeword_bit (0x81 ∷ 0x40 ∷ [])) (range_with_len 0 17) ≡
    map (λ c. c == 49) (codes "10000001010000000")
bits_of_codewords = refl

-- ---- wrong modules

reading : read_matrix 25 (modules_of rows) ≡ Some (record { version = 2; level = Q; codewords = codewords })
unfolding rows codewords modules_of read_matrix xor total_codewords read_format shows_version
    shows_functions read_bits walk codewords_of number_of fixed_module role is_free is_flipped format_information
    version_information binary_remainder
reading = refl

-- the symbol with a module changed: the first one that is placed, which is the high bit of the first codeword, with no
-- correction; a finder pattern, a separator, a timing pattern, an alignment pattern, the dark module, and the format
-- information in either copy
no_readings : map (λ (p : ℕ × ℕ). read_matrix 25 (modules_of (changed rows p))) (
    (24, 24) ∷ (3, 3) ∷ (7, 0) ∷ (10, 6) ∷ (18, 18) ∷ (8, 17) ∷ (8, 0) ∷ (24, 8) ∷ []) ≡
    Some (record { version = 2; level = Q; codewords = slice_set codewords 0 160 }) ∷ replicate 7 None
unfolding rows codewords modules_of changed read_matrix xor total_codewords read_format shows_version
    shows_functions read_bits walk codewords_of number_of fixed_module role is_free is_flipped format_information
    version_information binary_remainder
no_readings = refl

-- no version has this side
no_sides : map (λ n. read_matrix n (modules_of rows)) (24 ∷ 26 ∷ 17 ∷ 61 ∷ []) ≡ replicate 4 None
unfolding rows modules_of read_matrix
no_sides = refl

-- a remainder module, the last free one of the walk, is not looked at
remainder : read_matrix 25 (modules_of (changed rows (0, 16))) ≡ read_matrix 25 (modules_of rows)
unfolding rows modules_of changed read_matrix xor total_codewords read_format shows_version shows_functions read_bits
    walk codewords_of number_of fixed_module role is_free is_flipped format_information version_information
    binary_remainder
remainder = refl

-- among places, a column and a row
among : map (λ places. is_among places 2 3) ([] ∷ ((2, 3) ∷ []) ∷ ((3, 2) ∷ []) ∷ ((2, 4) ∷ (1, 3) ∷ [])
    ∷ ((5, 5) ∷ (2, 3) ∷ []) ∷ []) ≡ false ∷ true ∷ false ∷ false ∷ true ∷ []
among = refl

-- whether the function modules are right where the module at a place is changed
shown : List (ℕ × ℕ) → List Bool
shown places = map (λ p. shows_functions 2 Q 5 (modules_of (changed rows p))) places

-- each ring of the three finder patterns and their separators; then dark and light modules of the timing patterns, each
-- ring of the alignment pattern, and the dark module; then modules of codewords
modules_changed : shown (
    (3, 3) ∷ (2, 3) ∷ (1, 3) ∷ (0, 3) ∷ (7, 3) ∷ (3, 7) ∷ (0, 0) ∷ (6, 6) ∷ (7, 7) ∷ (21, 3) ∷ (21, 2) ∷ (21, 5) ∷
    (24, 3) ∷ (17, 3) ∷ (21, 7) ∷ (24, 0) ∷ (17, 7) ∷ (3, 21) ∷ (4, 21) ∷ (5, 21) ∷ (3, 24) ∷ (3, 17) ∷ (7, 21) ∷ (
      0,
      24,
    ) ∷ (7, 17)
    ∷ (8, 6) ∷ (9, 6) ∷ (16, 6) ∷ (6, 8) ∷ (6, 11) ∷ (6, 16) ∷ (18, 18) ∷ (17, 18) ∷ (18, 19) ∷ (16, 18) ∷ (18, 20) ∷
    (20, 20) ∷ (16, 16) ∷ (8, 17) ∷ (24, 24) ∷ (12, 12) ∷ (9, 0) ∷ (0, 9) ∷ (15, 18) ∷ []) ≡
    replicate 39 false ++ replicate 5 true
unfolding shown rows modules_of changed shows_functions fixed_module role format_information binary_remainder
modules_changed = refl

-- another level or mask than that of the format information, and another version
not_as_told : (map (λ level. shows_functions 2 level 5 (modules_of rows)) (L ∷ M ∷ Q ∷ H ∷ []) ≡
    false ∷ false ∷ true ∷ false ∷ [])
    × (map (λ mask. shows_functions 2 Q mask (modules_of rows)) (range_with_len 0 8) ≡
    slice_set (replicate 8 false) 5 true) × (shows_functions 1 Q 5 (modules_of rows) ≡ false)
unfolding rows modules_of shows_functions fixed_module role format_information binary_remainder
not_as_told = (refl, refl, refl)

-- ---- format and version information

-- the places of bits 0 to 14 in the first copy and in the second one (ISO/IEC 18004, 7.9)
copies : List (ℕ × ℕ) × List (ℕ × ℕ)
copies = (
  (8, 0) ∷ (8, 1) ∷ (8, 2) ∷ (8, 3) ∷ (8, 4) ∷ (8, 5) ∷ (8, 7) ∷ (8, 8) ∷ (7, 8) ∷ (5, 8) ∷ (4, 8) ∷ (3, 8) ∷ (2, 8)
      ∷ (1, 8) ∷ (0, 8) ∷ [],
  (24, 8) ∷ (23, 8) ∷ (22, 8) ∷ (21, 8) ∷ (20, 8) ∷ (19, 8) ∷ (18, 8) ∷ (17, 8) ∷ (8, 18) ∷ (8, 19) ∷ (8, 20) ∷ (
    8,
    21,
  ) ∷ (8, 22) ∷ (8, 23) ∷ (8, 24) ∷ [],
)

format : List ℕ → Option (Level × ℕ)
unfolding modules_of read_format number_of binary_remainder
format rows = read_format 25 (modules_of rows)

format_of_rows : format rows ≡ Some (Q, 5)
unfolding format rows
format_of_rows = refl

-- a bit of one copy changed, and the same bit of both
formats_changed : map (λ p. format (changed rows p)) (copies.0 ++ copies.1) ≡ replicate 30 None
unfolding format rows copies changed
formats_changed = refl

both_formats_changed :
    map (λ (p : (ℕ × ℕ) × (ℕ × ℕ)). format (changed (changed rows p.0) p.1)) (zip copies.0 copies.1) ≡
    replicate 15 None
unfolding format rows copies changed
both_formats_changed = refl

-- the rows with the bits of a number changed in both copies
laid : ℕ → List ((ℕ × ℕ) × (ℕ × ℕ)) → List ℕ → List ℕ
laid number [] rows = rows
laid number (p ∷ ps) rows =
    laid (number / 2) ps (if number % 2 == 1 then changed (changed rows p.0) p.1 else rows)

-- format information of each level (Annex C) in place of the symbol's own, 0x2183
formats_of_levels : map (λ n. format (laid (bit_xor 0x2183 n) (zip copies.0 copies.1) rows))
    (0x6318 ∷ 0x77C4 ∷ 0x4AA0 ∷ 0x355F ∷ 0x0255 ∷ 0x19D0 ∷ []) ≡
    Some (L, 5) ∷ Some (L, 0) ∷ Some (M, 7) ∷ Some (Q, 0) ∷ Some (H, 5) ∷ Some (H, 3) ∷ []
unfolding format rows copies changed laid
formats_of_levels = refl

-- the modules of two copies of version information in version 7: bit i is in row i / 3 above and in column i / 3 at the
-- left (ISO/IEC 18004, 7.10), all others dark
with_versions : ℕ → ℕ → ℕ → ℕ → Bool
with_versions above left x y =
    if nat_lt y 6 then bit above (3 * y + (x - 34)) else if nat_lt x 6 then bit left (3 * x + (y - 34)) else true

shows : ℕ → ℕ → Bool
unfolding shows_version number_of binary_remainder
shows above left = shows_version 7 45 (with_versions above left)

versions_shown : (shows 0x07C94 0x07C94 ≡ true)
    × (map (λ v. shows_version v 45 (with_versions 0x07C94 0x07C94)) (6 ∷ 8 ∷ []) ≡ true ∷ false ∷ [])
unfolding shows with_versions shows_version number_of binary_remainder
versions_shown = (refl, refl)

-- a bit of either copy changed, and the same bit of both
versions_changed : (map (λ i. shows (bit_xor 0x07C94 (2 ^ i)) 0x07C94) (range_with_len 0 18) ≡ replicate 18 false)
    × (map (λ i. shows 0x07C94 (bit_xor 0x07C94 (2 ^ i))) (range_with_len 0 18) ≡ replicate 18 false)
    × (map (λ i. shows (bit_xor 0x07C94 (2 ^ i)) (bit_xor 0x07C94 (2 ^ i))) (range_with_len 0 18) ≡ replicate 18 false)
unfolding shows with_versions
versions_changed = (refl, refl, refl)

-- ---- drawing

-- modules of codewords, of patterns and of information, and those outside
some_modules : map (λ (p : ℕ × ℕ). module_at 2 Q 5 codewords p.0 p.1) (
    (24, 24) ∷ (23, 24) ∷ (24, 23) ∷ (12, 12) ∷ (9, 0) ∷ (0, 9) ∷ (15, 18) ∷ (5, 12) ∷ (3, 14) ∷ (0, 16) ∷ (0, 0) ∷
    (7, 3) ∷ (8, 6) ∷ (18, 18) ∷ (8, 17) ∷ (8, 0) ∷ (0, 8) ∷ (25, 0) ∷ (0, 25) ∷ []) ≡
    true ∷ true ∷ false ∷ true ∷ false ∷ true ∷ true ∷ false ∷ true ∷ true ∷ true ∷ false ∷ true ∷ true ∷ true ∷
    true ∷ false ∷ false ∷ false ∷ []
unfolding codewords module_at xor fixed_module role rank is_free key is_flipped format_information binary_remainder
some_modules = refl

-- outside of version 1 too, where the mask alone would give a dark module
light_outside : map (λ (p : ℕ × ℕ). module_at 1 M 0 [] p.0 p.1) ((21, 9) ∷ (9, 21) ∷ []) ≡ false ∷ false ∷ []
unfolding module_at xor fixed_module role rank is_free key is_flipped format_information binary_remainder
light_outside = refl
