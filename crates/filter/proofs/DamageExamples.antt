-- Worked values of damage: modules and pixels that are close and that are not, and what they are read as. The symbols
-- are drawn by Zint 2.11.1, but for that of ISO/IEC 18004, Annex I.
use mathlib.Core.Bool.{xor}
use Rattle.std.proofs.Common.{◌≡◌, ◌≤◌, ◌<◌, ℕ, Bool, true, false, List, [], ◌∷◌, ◌++◌, map, length}
use Rattle.std.proofs.Common.{Some, None, codes, refl, sym, ◌-◌, arith, replicate}
use Rattle.std.specs.Prelude.{slice_index_or, slice_set}
use Rattle.std.specs.List.{count_by, range_with_len}
use Rattle.std.proofs.lemmas.Bool.{leb-true}
use Rattle.std.proofs.lemmas.Option.{none-some}
use Rattle.gf256.specs.BinaryPolynomial.{binary_product, binary_remainder}
use Rattle.gf256.specs.Field.{field_product, field_power}
use Rattle.gf256.specs.Polynomial.{evaluate}
use Rattle.labelcore.specs.declared.symbology.Symbology.TheVariants.{Ean13, Ean8, UpcA, Code128, Qr}
use Rattle.linear.specs.Code128.{code128_row}
use Rattle.linear.specs.Modules.{modules, turned_modules}
use Rattle.linear.specs.Tables.{number_set_a, left_half_sets, character_widths}
use Rattle.picture.specs.Reading.{Raster}
use Rattle.qrdata.specs.Bits.{bits_of, codewords_of, number_of}
use Rattle.qrdata.specs.Reading.{deinterleaving, data_in, digits_at, number_at, segment_at, segments_at}
use Rattle.qrdata.specs.Segments.{byte_bits}
use Rattle.qrdata.specs.Versions.{total_codewords, ec_codewords_per_block, data_codewords, block_lengths, block_table}
use Rattle.qrdata.specs.Versions.{groups_of}
use Rattle.qrmatrix.specs.Functions.{fixed_module, is_free, role}
use Rattle.qrmatrix.specs.Information.{format_information, version_information}
use Rattle.qrmatrix.specs.Masks.{is_flipped}
use Rattle.qrmatrix.specs.Reading.{AgreeBut, is_among, read_bits, read_format, read_matrix, shows_functions}
use Rattle.qrmatrix.specs.Reading.{shows_version, walk}
use Rattle.qrmatrix.specs.Square.{value_at}
use Rattle.qrmatrix.proofs.Laws.PlaceLaws.{agree_but, apart_by_key, differs, few_differ, row_same, rows_same}
use Rattle.filter.specs.Damage.{AreClose, AreNear, pixel_limit, turned_limit}
use Rattle.filter.specs.OneReading.{HoldsNoBars, IsAlone}
use Rattle.filter.specs.Reading.{read_modules}

-- two rows of modules, as of a symbol that is two modules high
twice : List ℕ → List (List Bool)
twice text = modules text ∷ modules text ∷ []

-- a text with other letters at some places
with : List (ℕ × ℕ) → List ℕ → List ℕ
with [] text = text
with (p ∷ places) text = slice_set (with places text) p.0 p.1

-- ---- linear symbols: one turned module of each row is close, or three are, and one more are not

-- 2431309135250, and 7452309135250, which differs from it in modules 14 and 18
first_13 : List ℕ
first_13 = codes "10101000110111101011001101000010001101001011101010110011010000101001110110110010011101110010101"

second_13 : List ℕ
second_13 = codes "10101000110111001001001101000010001101001011101010110011010000101001110110110010011101110010101"

close_13 : AreClose Ean13 (twice first_13) (twice (with ((14, 48) ∷ []) first_13))
unfolding twice with first_13 turned_modules
close_13 = ((refl, leb-true _ _ refl), ((refl, leb-true _ _ refl), tt))

not_close_13 : AreClose Ean13 (twice first_13) (twice second_13) → ⊥
unfolding twice first_13 second_13 turned_modules
not_close_13 close = let few : 2 ≤ 1 = close.0.1 in absurd (omega (arith, few))

-- two turned modules make another product
read_13 : map (read_modules Ean13) (twice first_13 ∷ twice (with ((14, 48) ∷ []) first_13) ∷ twice second_13 ∷ [])
    ≡ Some (codes "2431309135250") ∷ None ∷ Some (codes "7452309135250") ∷ []
unfolding twice with first_13 second_13 number_set_a left_half_sets
read_13 = refl

-- 02000008, and 19000008, which differs from it in modules 5, 7, 12 and 13
first_8 : List ℕ
first_8 = codes "1010001101001001100011010001101010101110010111001011100101001000101"

second_8 : List ℕ
second_8 = codes "1010011001000101100011010001101010101110010111001011100101001000101"

close_8 : AreClose Ean8 (twice first_8) (twice (with ((5, 49) ∷ (7, 48) ∷ (12, 48) ∷ []) first_8))
unfolding twice with first_8 turned_modules
close_8 = ((refl, leb-true _ _ refl), ((refl, leb-true _ _ refl), tt))

not_close_8 : AreClose Ean8 (twice first_8) (twice second_8) → ⊥
unfolding twice first_8 second_8 turned_modules
not_close_8 close = let few : 4 ≤ 3 = close.0.1 in absurd (omega (arith, few))

read_8 : map (read_modules Ean8) (twice first_8 ∷ twice (with ((5, 49) ∷ (7, 48) ∷ (12, 48) ∷ []) first_8)
    ∷ twice second_8 ∷ []) ≡ Some (codes "02000008") ∷ None ∷ Some (codes "19000008") ∷ []
unfolding twice with first_8 second_8 number_set_a
read_8 = refl

-- 020000000008, and 190000000008, which differs from it in the same modules
first_a : List ℕ
first_a = codes "10100011010010011000110100011010001101000110101010111001011100101110010111001011100101001000101"

second_a : List ℕ
second_a = codes "10100110010001011000110100011010001101000110101010111001011100101110010111001011100101001000101"

close_a : AreClose UpcA (twice first_a) (twice (with ((5, 49) ∷ (7, 48) ∷ (12, 48) ∷ []) first_a))
unfolding twice with first_a turned_modules
close_a = ((refl, leb-true _ _ refl), ((refl, leb-true _ _ refl), tt))

not_close_a : AreClose UpcA (twice first_a) (twice second_a) → ⊥
unfolding twice first_a second_a turned_modules
not_close_a close = let few : 4 ≤ 3 = close.0.1 in absurd (omega (arith, few))

read_a : map (read_modules UpcA) (twice first_a ∷ twice (with ((5, 49) ∷ (7, 48) ∷ (12, 48) ∷ []) first_a)
    ∷ twice second_a ∷ []) ≡ Some (codes "020000000008") ∷ None ∷ Some (codes "190000000008") ∷ []
unfolding twice with first_a second_a number_set_a left_half_sets
read_a = refl

-- Ab12
first_128 : List ℕ
first_128 = codes "1101001000010100011000100100001101001110011011001110010101111001001100011101011"

close_128 : AreClose Code128 (twice first_128) (twice (with ((12, 49) ∷ []) first_128))
unfolding twice with first_128 turned_modules
close_128 = ((refl, leb-true _ _ refl), ((refl, leb-true _ _ refl), tt))

not_close_128 : AreClose Code128 (twice first_128) (twice (with ((12, 49) ∷ (14, 49) ∷ []) first_128)) → ⊥
unfolding twice with first_128 turned_modules
not_close_128 close = let few : 2 ≤ 1 = close.0.1 in absurd (omega (arith, few))

read_128 : map (read_modules Code128) (twice first_128 ∷ twice (with ((12, 49) ∷ []) first_128) ∷ [])
    ≡ Some (codes "Ab12") ∷ None ∷ []
unfolding twice with first_128 character_widths
read_128 = refl

-- rows of other lengths, and other numbers of rows, are never close
longer : AreClose Ean8 (twice first_8) (twice (first_8 ++ codes "0")) → ⊥
unfolding twice first_8
longer close = let same : 68 ≡ 67 = close.0.0 in absurd (omega (arith, same))

fewer : AreClose Ean8 (twice first_8) (modules first_8 ∷ []) → ⊥
unfolding twice first_8
fewer close = close.1

-- ---- QR symbols: ten turned modules of version 1-M are close, and eleven are not

-- 01234567 in version 1-M (ISO/IEC 18004, Annex I)
rows_1 : List (List Bool)
rows_1 = map modules (
    codes "111111100101101111111" ∷ codes "100000100111101000001" ∷ codes "101110101000001011101"
    ∷ codes "101110101100001011101" ∷ codes "101110101011101011101" ∷ codes "100000101000101000001"
    ∷ codes "111111101010101111111" ∷ codes "000000001001100000000" ∷ codes "101111100100101111100"
    ∷ codes "000101011010100101100" ∷ codes "001000110101010011111" ∷ codes "000010000100000111100"
    ∷ codes "000111111001010010000" ∷ codes "000000001011111001100" ∷ codes "111111100110101100000"
    ∷ codes "100000101011111000101" ∷ codes "101110101000100101100" ∷ codes "101110101100100100000"
    ∷ codes "101110101011010010100" ∷ codes "100000100000000110110" ∷ codes "111111101111010010100" ∷ [])

-- WRONG MODULES in version 2-Q
rows_2 : List (List Bool)
rows_2 = map modules (
    codes "1111111010110111001111111" ∷ codes "1000001010101001001000001" ∷ codes "1011101000011010101011101"
    ∷ codes "1011101000011011001011101" ∷ codes "1011101000100111001011101" ∷ codes "1000001001100110101000001"
    ∷ codes "1111111010101010101111111" ∷ codes "0000000001111100000000000" ∷ codes "0100001110110011010000011"
    ∷ codes "1000110001100010001011011" ∷ codes "1111011101101000001011100" ∷ codes "0111110111000011101110101"
    ∷ codes "1011001000011110011100010" ∷ codes "1011010010111010001111110" ∷ codes "1011101111100101110110000"
    ∷ codes "1010000100111100100110110" ∷ codes "1001011101100001111110000" ∷ codes "0000000011000000100011111"
    ∷ codes "1111111010001101101010000" ∷ codes "1000001001001011100010100" ∷ codes "1011101000101100111110111"
    ∷ codes "1011101001011110010100101" ∷ codes "1011101000010000101101101" ∷ codes "1000001010111101001111000"
    ∷ codes "1111111001101011101011011" ∷ [])

-- the first places of a row
first_places : ℕ → ℕ → List (ℕ × ℕ)
first_places y count = map (λ x. (x, y)) (range_with_len 0 count)

-- rows with the modules at some places turned
turned_at : List (ℕ × ℕ) → List (List Bool) → List (List Bool)
turned_at places rows = map (λ y. map (λ x. xor (is_among places x y) (value_at rows x y))
    (range_with_len 0 (length (slice_index_or rows y [])))) (range_with_len 0 (length rows))

-- the error correction codewords of a block, up to 13
limits : turned_limit Qr rows_1 ∷ turned_limit Qr rows_2 ∷ turned_limit Qr [] ∷ [] ≡ 10 ∷ 13 ∷ 0 ∷ []
unfolding rows_1 rows_2 read_matrix xor total_codewords read_format shows_version shows_functions
    read_bits walk codewords_of number_of fixed_module role is_free is_flipped format_information version_information
    binary_remainder ec_codewords_per_block groups_of block_table
limits = refl

close_qr : AreClose Qr rows_1 (turned_at (first_places 9 10) rows_1)
unfolding rows_1 turned_at first_places rows_same row_same read_matrix xor total_codewords read_format shows_version
    shows_functions read_bits walk codewords_of number_of fixed_module role is_free is_flipped format_information
    version_information binary_remainder ec_codewords_per_block groups_of block_table
close_qr = (
  refl,
  (
    first_places 9 10,
    leb-true _ _ refl,
    agree_but (first_places 9 10) rows_1 (turned_at (first_places 9 10) rows_1) refl,
  ),
)

not_close_qr : AreClose Qr rows_1 (turned_at (first_places 9 11) rows_1) → ⊥
unfolding rows_1 turned_at first_places read_matrix xor total_codewords read_format shows_version shows_functions
    read_bits walk codewords_of number_of fixed_module role is_free is_flipped format_information version_information
    binary_remainder ec_codewords_per_block groups_of block_table
not_close_qr close =
    let few : 11 ≤ length close.1.0 = few_differ close.1.0 (value_at rows_1)
    (value_at (turned_at (first_places 9 11) rows_1)) close.1.2 (first_places 9 11)
    (apart_by_key (λ x y. x) (first_places 9 11) 11 refl) in
    let limit : length close.1.0 ≤ 10 = close.1.1 in
    absurd (omega (arith, few, limit))

read_qr : read_modules Qr (turned_at (first_places 9 10) rows_1) ≡ None
unfolding rows_1 turned_at first_places read_matrix xor total_codewords read_format shows_version shows_functions
    read_bits walk codewords_of number_of fixed_module role is_free is_flipped format_information version_information
    binary_remainder bits_of byte_bits ec_codewords_per_block data_codewords block_lengths groups_of block_table
    evaluate field_power field_product binary_product deinterleaving data_in
read_qr = refl

-- Thirteen turned modules are the most that never make other data. These fourteen are seven bits of the format
-- information, in both copies: they tell level L for level H, and its codewords are a block of level L too, in which
-- ten codewords more are data.

-- 84970317737218781 in version 1-H, mask 0: it fills its data codewords but for one bit
rows_h : List (List Bool)
rows_h = map modules (
    codes "111111101000101111111" ∷ codes "100000100101001000001" ∷ codes "101110100110101011101"
    ∷ codes "101110101110101011101" ∷ codes "101110100011001011101" ∷ codes "100000100011101000001"
    ∷ codes "111111101010101111111" ∷ codes "000000000000000000000" ∷ codes "001011101110010001001"
    ∷ codes "010001001010110111100" ∷ codes "000001111001100010001" ∷ codes "000100010001010110100"
    ∷ codes "011010100001101001011" ∷ codes "000000001011111010101" ∷ codes "111111100011011000111"
    ∷ codes "100000101100011011110" ∷ codes "101110101100101001011" ∷ codes "101110100110000101010"
    ∷ codes "101110101010111011101" ∷ codes "100000100001100000000" ∷ codes "111111100101000101101" ∷ [])

format_places : List (ℕ × ℕ)
format_places =
    (8, 0) ∷ (8, 2) ∷ (8, 3) ∷ (8, 7) ∷ (0, 8) ∷ (1, 8) ∷ (7, 8) ∷ (14, 8) ∷ (17, 8)
    ∷ (18, 8) ∷ (20, 8) ∷ (8, 14) ∷ (8, 19) ∷ (8, 20) ∷ []

limit_h : (turned_limit Qr rows_h ≡ 13) × (length format_places ≡ 14)
unfolding rows_h format_places read_matrix xor total_codewords read_format shows_version shows_functions
    read_bits walk codewords_of number_of fixed_module role is_free is_flipped format_information version_information
    binary_remainder ec_codewords_per_block groups_of block_table
limit_h = (refl, refl)

read_fourteen : map (read_modules Qr) (rows_h ∷ turned_at format_places rows_h ∷ [])
    ≡ Some (codes "84970317737218781") ∷ Some (codes "849703177372187810434502422434802686") ∷ []
unfolding rows_h format_places turned_at read_matrix xor total_codewords read_format shows_version shows_functions
    read_bits walk codewords_of number_of fixed_module role is_free is_flipped format_information version_information
    binary_remainder bits_of byte_bits ec_codewords_per_block data_codewords block_lengths groups_of block_table
    evaluate field_power field_product binary_product deinterleaving data_in segments_at segment_at number_at digits_at
read_fourteen = refl

-- ---- pixels

-- at scale 3 and a height of 15 pixels: 2 or 4 bars of 3 by 15 pixels, or 11 modules of 3 by 3
pixel_limits : map (λ symbology. pixel_limit symbology 3 (record { width = 20; height = 15; rows = [] }) rows_1)
    (Ean13 ∷ Ean8 ∷ UpcA ∷ Code128 ∷ Qr ∷ []) ≡ 90 ∷ 180 ∷ 180 ∷ 90 ∷ 99 ∷ []
unfolding rows_1 read_matrix xor total_codewords read_format shows_version shows_functions
    read_bits walk codewords_of number_of fixed_module role is_free is_flipped format_information version_information
    binary_remainder ec_codewords_per_block groups_of block_table
pixel_limits = refl

-- a row of pixels, of which the first are dark
dark : ℕ → Raster
dark count = record { width = 12; height = 1; rows = (replicate count true ++ replicate (12 - count) false) ∷ [] }

near_dark : (count : ℕ) → rows_same (first_places 0 count) 0 (dark 0).rows (dark count).rows ≡ true
    → AgreeBut (first_places 0 count) (value_at (dark 0).rows) (value_at (dark count).rows)
near_dark count e = agree_but (first_places 0 count) (dark 0).rows (dark count).rows e

-- at scale 1 and a height of one pixel: one wrong pixel of EAN-13 is near, and two are not, and so on
near_13 : AreNear Ean13 1 (dark 0) [] (dark 1)
unfolding dark first_places row_same rows_same
near_13 = (refl, refl, (first_places 0 1, leb-true _ _ refl, near_dark 1 refl))

near_8 : AreNear Ean8 1 (dark 0) [] (dark 3)
unfolding dark first_places row_same rows_same
near_8 = (refl, refl, (first_places 0 3, leb-true _ _ refl, near_dark 3 refl))

near_a : AreNear UpcA 1 (dark 0) [] (dark 3)
unfolding dark first_places row_same rows_same
near_a = (refl, refl, (first_places 0 3, leb-true _ _ refl, near_dark 3 refl))

near_128 : AreNear Code128 1 (dark 0) [] (dark 1)
unfolding dark first_places row_same rows_same
near_128 = (refl, refl, (first_places 0 1, leb-true _ _ refl, near_dark 1 refl))

near_qr : AreNear Qr 1 (dark 0) rows_1 (dark 10)
unfolding rows_1 dark first_places row_same rows_same read_matrix xor total_codewords read_format shows_version
    shows_functions read_bits walk codewords_of number_of fixed_module role is_free is_flipped format_information
    version_information binary_remainder ec_codewords_per_block groups_of block_table
near_qr = (refl, refl, (first_places 0 10, leb-true _ _ refl, near_dark 10 refl))

-- at least as many pixels are listed as are dark
as_many : (count : ℕ) (wrong : List (ℕ × ℕ)) → AgreeBut wrong (value_at (dark 0).rows) (value_at (dark count).rows)
    → map (λ (p : ℕ × ℕ). p.0) (first_places 0 count) ≡ range_with_len 0 count
    → count_by (differs (value_at (dark 0).rows) (value_at (dark count).rows)) (first_places 0 count) ≤ length wrong
as_many count wrong agree columns = few_differ wrong (value_at (dark 0).rows) (value_at (dark count).rows) agree
    (first_places 0 count) (apart_by_key (λ x y. x) (first_places 0 count) count columns)

not_near_13 : AreNear Ean13 1 (dark 0) [] (dark 2) → ⊥
unfolding dark first_places
not_near_13 near =
    let some : 2 ≤ length near.2.0 = as_many 2 near.2.0 near.2.2 refl in
    let few : length near.2.0 < 2 = near.2.1 in
    absurd (omega (arith, some, few))

not_near_8 : AreNear Ean8 1 (dark 0) [] (dark 4) → ⊥
unfolding dark first_places
not_near_8 near =
    let some : 4 ≤ length near.2.0 = as_many 4 near.2.0 near.2.2 refl in
    let few : length near.2.0 < 4 = near.2.1 in
    absurd (omega (arith, some, few))

not_near_a : AreNear UpcA 1 (dark 0) [] (dark 4) → ⊥
unfolding dark first_places
not_near_a near =
    let some : 4 ≤ length near.2.0 = as_many 4 near.2.0 near.2.2 refl in
    let few : length near.2.0 < 4 = near.2.1 in
    absurd (omega (arith, some, few))

not_near_128 : AreNear Code128 1 (dark 0) [] (dark 2) → ⊥
unfolding dark first_places
not_near_128 near =
    let some : 2 ≤ length near.2.0 = as_many 2 near.2.0 near.2.2 refl in
    let few : length near.2.0 < 2 = near.2.1 in
    absurd (omega (arith, some, few))

not_near_qr : AreNear Qr 1 (dark 0) rows_1 (dark 11) → ⊥
unfolding rows_1 dark first_places read_matrix xor total_codewords read_format shows_version shows_functions
    read_bits walk codewords_of number_of fixed_module role is_free is_flipped format_information version_information
    binary_remainder ec_codewords_per_block groups_of block_table
not_near_qr near =
    let some : 11 ≤ length near.2.0 = as_many 11 near.2.0 near.2.2 refl in
    let few : length near.2.0 < 11 = near.2.1 in
    absurd (omega (arith, some, few))

-- an image of another size is never near
wider : AreNear Ean8 1 (dark 0) [] (record { width = 13; height = 1; rows = (dark 0).rows }) → ⊥
unfolding dark
wider near = let same : 13 ≡ 12 = near.0 in absurd (omega (arith, same))

higher : AreNear Ean8 1 (dark 0) [] (record { width = 12; height = 2; rows = (dark 0).rows }) → ⊥
unfolding dark
higher near = let same : 2 ≡ 1 = near.1 in absurd (omega (arith, same))

-- ---- in no other way

-- rows that are all one are not alone as a QR symbol, and a row with a gap is not alone as a linear one
not_alone_qr : IsAlone Qr (twice first_8) → ⊥
unfolding twice first_8
not_alone_qr alone = none-some (modules first_8) (sym alone.0)

not_alone_8 : IsAlone Ean8 (modules (codes "1000001") ∷ []) → ⊥
not_alone_8 alone = (alone.1 (modules (codes "1000001")) refl).1 (true ∷ []) (true ∷ []) refl

-- The line of an EAN-8 with its quiet zones, 81 modules, holds a bar code; so does the shortest that any rule reads, a
-- Code 128 of one character, of 66.
line_8 : HoldsNoBars (replicate 7 false ++ (modules first_8 ++ replicate 7 false)) → ⊥
unfolding first_8 number_set_a
line_8 holds = omega (arith, (holds Ean8 [] (modules first_8) [] refl).1)

line_128 : (length (replicate 10 false ++ (code128_row (codes "A") ++ replicate 10 false)) ≡ 66)
    × (HoldsNoBars (replicate 10 false ++ (code128_row (codes "A") ++ replicate 10 false)) → ⊥)
unfolding character_widths
line_128 = (refl, λ holds. omega (arith, (holds Code128 [] (code128_row (codes "A")) [] refl).1))

-- a line of a square of 57 modules has 65
line_57 : IsAlone Qr (replicate 57 []) → HoldsNoBars (replicate 65 false)
line_57 alone = alone.2 (replicate 65 false) refl
