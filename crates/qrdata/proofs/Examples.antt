-- Worked values, computed from the definitions.
use Rattle.std.proofs.Common.{◌≡◌, ℕ, ◌*◌, Bool, true, false, List, [], ◌∷◌, length, map, refl, Some, None}
use Rattle.std.specs.Prelude.{codes, replicate, sum, ◌==◌, ◌+◌, ◌++◌, ◌%◌, Option, slice_index, slice_set, take}
use Rattle.std.specs.List.{range_with_len}
use Rattle.labelcore.specs.declared.level.Level.{Level}
use Rattle.labelcore.specs.declared.level.Level.TheVariants.{L, M, Q, H}
use Rattle.gf256.specs.BinaryPolynomial.{binary_product, binary_remainder}
use Rattle.gf256.specs.Field.{field_product, field_power}
use Rattle.gf256.specs.Polynomial.{evaluate}
use Rattle.qrdata.specs.declared.mode.Mode.TheVariants.{Numeric, Alphanumeric, Byte}
use Rattle.qrdata.specs.Bits.{bits_of, codewords_of, number_of}
use Rattle.qrdata.specs.Codewords.{data_codewords_of, interleaving, pad_codewords, split_by}
use Rattle.qrdata.specs.Codewords.{with_pad_codewords, with_terminator, with_zeros}
use Rattle.qrdata.specs.Fewest.{first_segments, best_within, chosen_segments, chosen_version, is_first}
use Rattle.qrdata.specs.Reading.{number_at, digits_at, characters_at, bytes_at, segment_at, segments_at}
use Rattle.qrdata.specs.Reading.{block_in, deinterleaving, data_in, is_end}
use Rattle.qrdata.specs.Segments.{alphanumeric_bits, alphanumeric_characters, alphanumeric_value, byte_bits, cost}
use Rattle.qrdata.specs.Segments.{count_width, has_character, mode_indicator, modes, numeric_bits, payload_length}
use Rattle.qrdata.specs.Segments.{segment_of, segments_bits}
use Rattle.qrdata.specs.Versions.{total_codewords, ec_codewords_per_block, data_codewords, block_lengths}
use Rattle.qrdata.specs.Versions.{block_table, capacity, groups_of, side_of}

-- ---- the tables

-- the listing of the standard (ISO/IEC 18004, table 9): for each version the error correction codewords of a block, and
-- the data codewords of each block
abbrev blocks_of_versions : Level → List (ℕ × List ℕ)
blocks_of_versions level =
    map (λ version. (ec_codewords_per_block version level, block_lengths version level)) (range_with_len 1 10)

blocks : (blocks_of_versions L ≡
    (7, 19 ∷ []) ∷ (10, 34 ∷ []) ∷ (15, 55 ∷ []) ∷ (20, 80 ∷ []) ∷ (26, 108 ∷ []) ∷ (18, 68 ∷ 68 ∷ []) ∷
    (20, 78 ∷ 78 ∷ []) ∷ (24, 97 ∷ 97 ∷ []) ∷ (30, 116 ∷ 116 ∷ []) ∷ (18, 68 ∷ 68 ∷ 69 ∷ 69 ∷ []) ∷ [])
    × (blocks_of_versions M ≡
    (10, 16 ∷ []) ∷ (16, 28 ∷ []) ∷ (26, 44 ∷ []) ∷ (18, 32 ∷ 32 ∷ []) ∷ (24, 43 ∷ 43 ∷ []) ∷
    (16, 27 ∷ 27 ∷ 27 ∷ 27 ∷ []) ∷ (18, 31 ∷ 31 ∷ 31 ∷ 31 ∷ []) ∷ (22, 38 ∷ 38 ∷ 39 ∷ 39 ∷ []) ∷
    (22, 36 ∷ 36 ∷ 36 ∷ 37 ∷ 37 ∷ []) ∷ (26, 43 ∷ 43 ∷ 43 ∷ 43 ∷ 44 ∷ []) ∷ [])
    × (blocks_of_versions Q ≡
    (13, 13 ∷ []) ∷ (22, 22 ∷ []) ∷ (18, 17 ∷ 17 ∷ []) ∷ (26, 24 ∷ 24 ∷ []) ∷ (18, 15 ∷ 15 ∷ 16 ∷ 16 ∷ []) ∷
    (24, 19 ∷ 19 ∷ 19 ∷ 19 ∷ []) ∷ (18, 14 ∷ 14 ∷ 15 ∷ 15 ∷ 15 ∷ 15 ∷ []) ∷
    (22, 18 ∷ 18 ∷ 18 ∷ 18 ∷ 19 ∷ 19 ∷ []) ∷ (20, 16 ∷ 16 ∷ 16 ∷ 16 ∷ 17 ∷ 17 ∷ 17 ∷ 17 ∷ []) ∷
    (24, 19 ∷ 19 ∷ 19 ∷ 19 ∷ 19 ∷ 19 ∷ 20 ∷ 20 ∷ []) ∷ [])
    × (blocks_of_versions H ≡
    (17, 9 ∷ []) ∷ (28, 16 ∷ []) ∷ (22, 13 ∷ 13 ∷ []) ∷ (16, 9 ∷ 9 ∷ 9 ∷ 9 ∷ []) ∷ (22, 11 ∷ 11 ∷ 12 ∷ 12 ∷ []) ∷
    (28, 15 ∷ 15 ∷ 15 ∷ 15 ∷ []) ∷ (26, 13 ∷ 13 ∷ 13 ∷ 13 ∷ 14 ∷ []) ∷ (26, 14 ∷ 14 ∷ 14 ∷ 14 ∷ 15 ∷ 15 ∷ []) ∷
    (24, 12 ∷ 12 ∷ 12 ∷ 12 ∷ 13 ∷ 13 ∷ 13 ∷ 13 ∷ []) ∷ (28, 15 ∷ 15 ∷ 15 ∷ 15 ∷ 15 ∷ 15 ∷ 16 ∷ 16 ∷ []) ∷ [])
unfolding ec_codewords_per_block block_lengths groups_of block_table
blocks = (refl, refl, refl, refl)

-- ---- the tables of qrencode 4.1.1 (qrspec.c, qrinput.c), which come from those of JIS X 0510 and ISO/IEC 18004

-- of each version the side and the codewords
sides : (map side_of (range_with_len 1 10) ≡ 21 ∷ 25 ∷ 29 ∷ 33 ∷ 37 ∷ 41 ∷ 45 ∷ 49 ∷ 53 ∷ 57 ∷ [])
    × (map total_codewords (range_with_len 1 10) ≡ 26 ∷ 44 ∷ 70 ∷ 100 ∷ 134 ∷ 172 ∷ 196 ∷ 242 ∷ 292 ∷ 346 ∷ [])
unfolding total_codewords
sides = (refl, refl)

-- of each level the error correction codewords of the versions
ec_codewords : Level → List ℕ
ec_codewords level =
    map (λ version. length (block_lengths version level) * ec_codewords_per_block version level) (range_with_len 1 10)

ec_codewords_of_levels : map ec_codewords (L ∷ M ∷ Q ∷ H ∷ []) ≡
    (7 ∷ 10 ∷ 15 ∷ 20 ∷ 26 ∷ 36 ∷ 40 ∷ 48 ∷ 60 ∷ 72 ∷ [])
    ∷ (10 ∷ 16 ∷ 26 ∷ 36 ∷ 48 ∷ 64 ∷ 72 ∷ 88 ∷ 110 ∷ 130 ∷ [])
    ∷ (13 ∷ 22 ∷ 36 ∷ 52 ∷ 72 ∷ 96 ∷ 108 ∷ 132 ∷ 160 ∷ 192 ∷ [])
    ∷ (17 ∷ 28 ∷ 44 ∷ 64 ∷ 88 ∷ 112 ∷ 130 ∷ 156 ∷ 192 ∷ 224 ∷ []) ∷ []
unfolding ec_codewords ec_codewords_per_block block_lengths groups_of block_table
ec_codewords_of_levels = refl

-- the blocks of a symbol, those of one length together
abbrev counts_of : Level → List (List ℕ)
counts_of level =
    map (λ version. map (λ (group : ℕ × ℕ × ℕ). group.0) (groups_of version level)) (range_with_len 1 10)

counts_of_levels : map counts_of (L ∷ M ∷ Q ∷ H ∷ []) ≡
    ((1 ∷ []) ∷ (1 ∷ []) ∷ (1 ∷ []) ∷ (1 ∷ []) ∷ (1 ∷ []) ∷ (2 ∷ []) ∷ (2 ∷ []) ∷ (2 ∷ []) ∷ (2 ∷ []) ∷
    (2 ∷ 2 ∷ []) ∷ [])
    ∷ ((1 ∷ []) ∷ (1 ∷ []) ∷ (1 ∷ []) ∷ (2 ∷ []) ∷ (2 ∷ []) ∷ (4 ∷ []) ∷ (4 ∷ []) ∷ (2 ∷ 2 ∷ []) ∷ (3 ∷ 2 ∷ []) ∷
    (4 ∷ 1 ∷ []) ∷ [])
    ∷ ((1 ∷ []) ∷ (1 ∷ []) ∷ (2 ∷ []) ∷ (2 ∷ []) ∷ (2 ∷ 2 ∷ []) ∷ (4 ∷ []) ∷ (2 ∷ 4 ∷ []) ∷ (4 ∷ 2 ∷ []) ∷
    (4 ∷ 4 ∷ []) ∷ (6 ∷ 2 ∷ []) ∷ [])
    ∷ ((1 ∷ []) ∷ (1 ∷ []) ∷ (2 ∷ []) ∷ (4 ∷ []) ∷ (2 ∷ 2 ∷ []) ∷ (4 ∷ []) ∷ (4 ∷ 1 ∷ []) ∷ (4 ∷ 2 ∷ []) ∷
    (4 ∷ 4 ∷ []) ∷ (6 ∷ 2 ∷ []) ∷ []) ∷ []
unfolding groups_of block_table
counts_of_levels = refl

-- the blocks' codewords together are the symbol's
abbrev codewords_of_blocks : Level → List ℕ
codewords_of_blocks level = map (λ version. sum (map (λ (group : ℕ × ℕ × ℕ). group.0 * group.1)
    (groups_of version level))) (range_with_len 1 10)

codewords_of_levels : map codewords_of_blocks (L ∷ M ∷ Q ∷ H ∷ []) ≡ replicate 4
    (26 ∷ 44 ∷ 70 ∷ 100 ∷ 134 ∷ 172 ∷ 196 ∷ 242 ∷ 292 ∷ 346 ∷ [])
unfolding groups_of block_table
codewords_of_levels = refl

-- the values of the bytes 0 to 127, 45 for those that qrencode's table has at -1, and of the bytes from 128 on
values_of_bytes : map alphanumeric_value (range_with_len 0 256) ≡
    45 ∷ 45 ∷ 45 ∷ 45 ∷ 45 ∷ 45 ∷ 45 ∷ 45 ∷ 45 ∷ 45 ∷ 45 ∷ 45 ∷ 45 ∷ 45 ∷ 45 ∷ 45 ∷ 45 ∷ 45 ∷ 45 ∷ 45 ∷ 45 ∷ 45 ∷
    45 ∷ 45 ∷ 45 ∷ 45 ∷ 45 ∷ 45 ∷ 45 ∷ 45 ∷ 45 ∷ 45 ∷ 36 ∷ 45 ∷ 45 ∷ 45 ∷ 37 ∷ 38 ∷ 45 ∷ 45 ∷ 45 ∷ 45 ∷ 39 ∷ 40 ∷
    45 ∷ 41 ∷ 42 ∷ 43 ∷ 0 ∷ 1 ∷ 2 ∷ 3 ∷ 4 ∷ 5 ∷ 6 ∷ 7 ∷ 8 ∷ 9 ∷ 44 ∷ 45 ∷ 45 ∷ 45 ∷ 45 ∷ 45 ∷ 45 ∷ 10 ∷ 11 ∷ 12 ∷
    13 ∷ 14 ∷ 15 ∷ 16 ∷ 17 ∷ 18 ∷ 19 ∷ 20 ∷ 21 ∷ 22 ∷ 23 ∷ 24 ∷ 25 ∷ 26 ∷ 27 ∷ 28 ∷ 29 ∷ 30 ∷ 31 ∷ 32 ∷ 33 ∷ 34 ∷
    35 ∷ 45 ∷ 45 ∷ 45 ∷ 45 ∷ 45 ∷ 45 ∷ 45 ∷ 45 ∷ 45 ∷ 45 ∷ 45 ∷ 45 ∷ 45 ∷ 45 ∷ 45 ∷ 45 ∷ 45 ∷ 45 ∷ 45 ∷ 45 ∷ 45 ∷
    45 ∷ 45 ∷ 45 ∷ 45 ∷ 45 ∷ 45 ∷ 45 ∷ 45 ∷ 45 ∷ 45 ∷ 45 ∷ 45 ∷ 45 ∷ 45 ∷ 45 ∷ 45 ∷ replicate 128 45
unfolding alphanumeric_value alphanumeric_characters
values_of_bytes = refl

-- the bits of a character count in versions 1, 9 and 10
count_widths : map (λ mode. map (λ version. count_width version mode) (1 ∷ 9 ∷ 10 ∷ [])) modes ≡
    (10 ∷ 10 ∷ 12 ∷ []) ∷ (9 ∷ 9 ∷ 11 ∷ []) ∷ (8 ∷ 8 ∷ 16 ∷ []) ∷ []
count_widths = refl

-- ---- the standard's numbers (ISO/IEC 18004, 7.4)

-- the mode indicators 0001, 0010 and 0100, and the modes in the order that decides ties
indicators : (map mode_indicator (Numeric ∷ Alphanumeric ∷ Byte ∷ []) ≡ 1 ∷ 2 ∷ 4 ∷ [])
    × (modes ≡ Numeric ∷ Alphanumeric ∷ Byte ∷ [])
indicators = (refl, refl)

-- a text of 0 and 1 as bits
bits : List ℕ → List Bool
bits text = map (λ c. c == 49) text

-- the standard's examples `01234567`, `0123456789012345` and `AC-42`, and three bytes
payloads : (numeric_bits (codes "01234567") ≡ bits (codes "000000110001010110011000011"))
    × (numeric_bits (codes "0123456789012345")
    ≡ bits (codes "000000110001010110011010100110111000010100111010100101"))
    × (alphanumeric_bits (codes "AC-42") ≡ bits (codes "0011100111011100111001000010"))
    × (byte_bits (0 ∷ 170 ∷ 255 ∷ []) ≡ bits (codes "000000001010101011111111"))
unfolding numeric_bits alphanumeric_bits alphanumeric_value alphanumeric_characters byte_bits bits_of bits
payloads = (refl, refl, refl, refl)

-- the lengths of such payloads
lengths_of_payloads : (map (payload_length Numeric) (1 ∷ 2 ∷ 3 ∷ 8 ∷ 16 ∷ []) ≡ 4 ∷ 7 ∷ 10 ∷ 27 ∷ 54 ∷ [])
    × (map (payload_length Alphanumeric) (1 ∷ 2 ∷ 5 ∷ []) ≡ 6 ∷ 11 ∷ 28 ∷ [])
    × (map (payload_length Byte) (1 ∷ 3 ∷ []) ≡ 8 ∷ 24 ∷ [])
lengths_of_payloads = (refl, refl, refl)

-- the data codewords of the standard's annex I
annex_i : data_codewords_of (data_codewords 1 M) (segments_bits 1 (segment_of Numeric 8 ∷ []) (codes "01234567")) ≡
    0x10 ∷ 0x20 ∷ 0x0C ∷ 0x56 ∷ 0x61 ∷ 0x80 ∷ 0xEC ∷ 0x11 ∷ 0xEC ∷ 0x11 ∷ 0xEC ∷ 0x11 ∷ 0xEC ∷ 0x11 ∷ 0xEC ∷ 0x11 ∷ []
unfolding data_codewords_of with_pad_codewords with_terminator with_zeros codewords_of segments_bits numeric_bits
    bits_of number_of
    data_codewords block_lengths groups_of block_table
annex_i = refl

-- two segments of version 1, joined: the byte `a`, and the digits `12345`
two_segments : segments_bits 1 (segment_of Byte 1 ∷ segment_of Numeric 5 ∷ []) (codes "a12345")
    ≡ bits (codes "01000000000101100001" ++ codes "0001000000010100011110110101101")
unfolding segments_bits numeric_bits byte_bits bits_of bits
two_segments = refl

-- a terminator has four bits, or as many as are left; zeros fill the last codeword, and pad codewords follow
terminators : (map (λ n. length (with_terminator 152 (replicate n true))) (41 ∷ 147 ∷ 148 ∷ 149 ∷ 151 ∷ 152 ∷ []) ≡
    45 ∷ 151 ∷ 152 ∷ 152 ∷ 152 ∷ 152 ∷ []) × (with_terminator 8 (true ∷ []) ≡ true ∷ false ∷ false ∷ false ∷ false ∷ [])
    × (map (λ n. length (with_zeros (replicate n true))) (0 ∷ 1 ∷ 7 ∷ 8 ∷ 9 ∷ []) ≡ 0 ∷ 8 ∷ 8 ∷ 8 ∷ 16 ∷ [])
    × (with_zeros (replicate 7 true) ≡ true ∷ true ∷ true ∷ true ∷ true ∷ true ∷ true ∷ false ∷ [])
    × (map pad_codewords (1 ∷ 5 ∷ []) ≡ (236 ∷ []) ∷ (236 ∷ 17 ∷ 236 ∷ 17 ∷ 236 ∷ []) ∷ [])
unfolding with_terminator with_zeros
terminators = (refl, refl, refl, refl, refl)

-- versions from the smallest one allowed to 10; version 1-H has 72 data bits: eight letters have 76, seven letters 68,
-- four letters and four digits 72
versions : (map (λ lowest. chosen_version lowest H (codes "1")) (1 ∷ 2 ∷ 10 ∷ 11 ∷ []) ≡
    Some 1 ∷ Some 2 ∷ Some 10 ∷ None ∷ [])
    × (map (λ lowest. chosen_version lowest H (codes "abcdefgh")) (1 ∷ 2 ∷ 3 ∷ []) ≡ Some 2 ∷ Some 2 ∷ Some 3 ∷ [])
    × (chosen_version 1 H (codes "abcdefg") ≡ Some 1) × (chosen_version 1 H (codes "abcd1234") ≡ Some 1)
unfolding chosen_version chosen_segments best_within first_segments alphanumeric_characters alphanumeric_value
    data_codewords block_lengths groups_of block_table
versions = (refl, refl, refl, refl)

-- the largest numbers of digits, characters and bytes are read, and those that none have are not
digits_read : (digits_at 1 (bits_of 4 9) ≡ Some (codes "9", []))
    × (digits_at 2 (bits_of 7 99) ≡ Some (codes "99", []))
    × (digits_at 2 (bits_of 7 90) ≡ Some (codes "90", []))
    × (digits_at 3 (bits_of 10 999) ≡ Some (codes "999", []))
    × (digits_at 3 (bits_of 10 900) ≡ Some (codes "900", []))
    × (digits_at 4 (bits_of 14 1984) ≡ Some (codes "1240", []))
    × (digits_at 1 (bits_of 4 10) ≡ None) × (digits_at 2 (bits_of 7 100) ≡ None)
    × (digits_at 3 (bits_of 10 1000) ≡ None)
unfolding digits_at number_at number_of bits_of
digits_read = (refl, refl, refl, refl, refl, refl, refl, refl, refl)

characters_read : (characters_at 1 (bits_of 6 44) ≡ Some (codes ":", []))
    × (characters_at 2 (bits_of 11 2024) ≡ Some (codes "::", []))
    × (characters_at 1 (bits_of 6 45) ≡ None) × (characters_at 2 (bits_of 11 2025) ≡ None)
    × (bytes_at 1 (bits_of 8 255) ≡ Some (255 ∷ [], []))
unfolding characters_at bytes_at number_at number_of bits_of alphanumeric_characters
characters_read = (refl, refl, refl, refl, refl)

-- the segments end at four zeros, or where fewer than four bits are left; no mode indicator beside the three
ends : (map is_end (bits (codes "0000") ∷ bits (codes "0001") ∷ bits (codes "00001") ∷ bits (codes "111")
    ∷ bits (codes "1111") ∷ [] ∷ []) ≡ true ∷ false ∷ true ∷ true ∷ false ∷ true ∷ [])
    × (map (segment_at 1) (bits (codes "0011000000000100001") ∷ bits (codes "1000000000000100001") ∷ []) ≡
    None ∷ None ∷ [])
unfolding segment_at number_at number_of bits
ends = (refl, refl)

-- the data bits of versions 1 and 10 (table 7)
data_bits : map (λ version. map (capacity version) (L ∷ M ∷ Q ∷ H ∷ [])) (1 ∷ 10 ∷ []) ≡
    (152 ∷ 128 ∷ 104 ∷ 72 ∷ []) ∷ (2192 ∷ 1728 ∷ 1232 ∷ 976 ∷ []) ∷ []
unfolding data_codewords block_lengths groups_of block_table
data_bits = refl

-- `:` is the last alphanumeric character; a character count of 10 bits counts to 1023, and one of 8 bits to 255
limits : (map (has_character Alphanumeric) (codes ":;") ≡ true ∷ false ∷ [])
    × (map (λ n. is_first 1 (replicate n 49) (segment_of Numeric n)) (1023 ∷ 1024 ∷ []) ≡ true ∷ false ∷ [])
    × (map (λ n. is_first 1 (replicate n 97) (segment_of Byte n)) (255 ∷ 256 ∷ []) ≡ true ∷ false ∷ [])
unfolding alphanumeric_value alphanumeric_characters
limits = (refl, refl, refl)

-- seven codewords of bits, and a terminator that ends in the eighth or is cut at the end of the second
filled_words : (with_pad_codewords 8 (replicate 56 true) ≡ 255 ∷ 255 ∷ 255 ∷ 255 ∷ 255 ∷ 255 ∷ 255 ∷ 236 ∷ [])
    × (data_codewords_of 8 (replicate 53 true) ≡ 255 ∷ 255 ∷ 255 ∷ 255 ∷ 255 ∷ 255 ∷ 248 ∷ 0 ∷ [])
    × (data_codewords_of 2 (replicate 15 true) ≡ 255 ∷ 254 ∷ [])
unfolding data_codewords_of with_terminator with_zeros with_pad_codewords codewords_of number_of
filled_words = (refl, refl, refl)

-- ---- the choice of segments

-- the fewest bits, and ties to the longest first segment; what the three segments of the last text cost
mixed : (chosen_segments 1 (codes "a12345") ≡ segment_of Byte 1 ∷ segment_of Numeric 5 ∷ [])
    × (chosen_segments 1 (codes "a123") ≡ segment_of Byte 4 ∷ [])
    × (chosen_segments 1 (codes "a12b") ≡ segment_of Byte 4 ∷ [])
    × (cost 1 (segment_of Byte 1 ∷ segment_of Numeric 2 ∷ segment_of Byte 1 ∷ []) ≡ 61)
unfolding alphanumeric_characters alphanumeric_value first_segments best_within chosen_segments
mixed = (refl, refl, refl, refl)

-- ---- codewords

-- a symbol of version 1-Q that is known from outside
hello_world : List ℕ
hello_world =
    32 ∷ 91 ∷ 11 ∷ 120 ∷ 209 ∷ 114 ∷ 220 ∷ 77 ∷ 67 ∷ 64 ∷ 236 ∷ 17 ∷ 236 ∷ 168 ∷ 72 ∷ 22 ∷ 82 ∷ 217 ∷ 54 ∷ 156 ∷ 0 ∷
    46 ∷ 15 ∷ 180 ∷ 122 ∷ 16 ∷ []

-- it is read; a codeword more than version 1 has, one less, and the last two codewords changed in one bit are not: the
-- value at alpha^0 is still 0, and at the other roots it is not
hello_world_reads : (data_in 1 Q hello_world ≡ Some (codes "HELLO WORLD"))
    × (map (data_in 1 Q) ((hello_world ++ (0 ∷ [])) ∷ take 25 hello_world ∷ (take 24 hello_world ++ (123 ∷ 17 ∷ []))
    ∷ []) ≡ replicate 3 None)
unfolding hello_world alphanumeric_characters bits_of number_of byte_bits total_codewords ec_codewords_per_block
    data_codewords block_lengths groups_of block_table evaluate field_power field_product binary_product
    binary_remainder number_at digits_at characters_at bytes_at segment_at segments_at deinterleaving data_in
hello_world_reads = (refl, refl)

-- the interleaving of version 5-Q, whose blocks have 15, 15, 16 and 16 codewords
interleaved_5q : List ℕ
interleaved_5q =
    0 ∷ 15 ∷ 30 ∷ 46 ∷ 1 ∷ 16 ∷ 31 ∷ 47 ∷ 2 ∷ 17 ∷ 32 ∷ 48 ∷ 3 ∷ 18 ∷ 33 ∷ 49 ∷ 4 ∷ 19 ∷ 34 ∷ 50 ∷ 5 ∷ 20 ∷ 35 ∷ 51 ∷ 6
    ∷ 21 ∷ 36 ∷ 52 ∷ 7 ∷ 22 ∷ 37 ∷ 53
    ∷ 8 ∷ 23 ∷ 38 ∷ 54 ∷ 9 ∷ 24 ∷ 39 ∷ 55 ∷ 10 ∷ 25 ∷ 40 ∷ 56 ∷ 11 ∷ 26 ∷ 41 ∷ 57 ∷ 12 ∷ 27 ∷ 42 ∷ 58 ∷ 13 ∷ 28 ∷ 43
    ∷ 59 ∷ 14 ∷ 29 ∷ 44 ∷ 60 ∷ 45 ∷ 61 ∷ []

-- laid in and taken out of the order that the standard lists (ISO/IEC 18004, 7.6); in a symbol the third block, whose
-- error correction codewords are numbered from 62 in their order there
blocks_of_5q : (interleaving (split_by (block_lengths 5 Q) (range_with_len 0 62)) ≡ interleaved_5q)
    × (deinterleaving (15 ∷ 15 ∷ 16 ∷ 16 ∷ []) interleaved_5q
    ≡ split_by (15 ∷ 15 ∷ 16 ∷ 16 ∷ []) (range_with_len 0 62))
    × (block_in 5 Q (interleaved_5q ++ range_with_len 62 72) 2
    ≡ range_with_len 30 16 ++ map (λ i. 64 + 4 * i) (range_with_len 0 18))
unfolding block_in interleaving deinterleaving split_by interleaved_5q block_lengths data_codewords
    ec_codewords_per_block groups_of block_table
blocks_of_5q = (refl, refl, refl)

-- ---- four blocks

-- `zint -b 58 --vers=4 --secure=4 --verbose -d "ISO/IEC 18004 BLOCKS 4-H"` (2.11.1): four blocks of nine data codewords
-- and 16 error correction codewords
codewords_4h : List ℕ
codewords_4h =
    32 ∷ 0 ∷ 0 ∷ 236 ∷ 195 ∷ 54 ∷ 236 ∷ 17 ∷ 70 ∷ 16 ∷ 17 ∷ 236 ∷ 140 ∷ 36 ∷ 236 ∷ 17 ∷ 108 ∷ 68 ∷ 17 ∷ 236 ∷ 225 ∷ 116
    ∷ 236 ∷ 17 ∷ 32 ∷ 25 ∷ 17 ∷ 236 ∷ 3 ∷ 99 ∷ 236 ∷ 17 ∷ 80 ∷ 163 ∷ 17 ∷ 236 ∷ 39 ∷ 152 ∷ 207 ∷ 116 ∷ 52 ∷ 177 ∷ 10 ∷
    96 ∷ 236 ∷ 101 ∷ 202 ∷ 131 ∷ 255 ∷ 200 ∷ 186 ∷ 21 ∷ 225 ∷ 30 ∷ 241 ∷ 58 ∷ 133 ∷ 119 ∷ 158 ∷ 134 ∷ 201 ∷ 104 ∷ 215 ∷
    64 ∷ 232 ∷ 23 ∷ 133 ∷ 110 ∷ 61 ∷ 139 ∷ 107 ∷ 67 ∷ 96 ∷ 26 ∷ 98 ∷ 220 ∷ 174 ∷ 225 ∷ 215 ∷ 237 ∷ 221 ∷ 187 ∷ 223 ∷ 52
    ∷ 97 ∷ 250 ∷ 247 ∷ 178 ∷ 0 ∷ 183 ∷ 200 ∷ 169 ∷ 247 ∷ 194 ∷ 241 ∷ 223 ∷ 42 ∷ 61 ∷ 71 ∷ 126 ∷ []

-- what is read where the codeword at a place is another one
read_changed : ℕ → Option (List ℕ)
unfolding codewords_4h
read_changed place = data_in 4 H (slice_set codewords_4h place ((slice_index codewords_4h place + 1) % 256))

-- the data is read, and not where one codeword is changed: of the first block the first data codeword, the first error
-- correction codeword and the last one, and of the second block the last data codeword
four_blocks : (data_in 4 H codewords_4h ≡ Some (codes "ISO/IEC 18004 BLOCKS 4-H"))
    × (map read_changed (0 ∷ 36 ∷ 96 ∷ 33 ∷ []) ≡ replicate 4 None)
unfolding codewords_4h read_changed alphanumeric_characters bits_of number_of byte_bits total_codewords
    ec_codewords_per_block data_codewords block_lengths groups_of block_table evaluate field_power field_product
    binary_product binary_remainder number_at digits_at characters_at bytes_at segment_at segments_at deinterleaving
    data_in
four_blocks = (refl, refl)
