-- Worked symbols, computed from the definitions: EAN and UPC (ISO/IEC 15420), then Code 128 (ISO/IEC 15417).
use Rattle.std.specs.Prelude.{◌≡◌, refl, true, false, Some, None, Ok, Err, codes, length, map, replicate, ◌+◌, ◌++◌, ℕ}
use Rattle.std.specs.Prelude.{List, [], ◌∷◌, ◌*◌, sum_by, Bool, Option, not, take, drop, flat_map}
use Rattle.std.specs.List.{enumerate_from, range_with_len}
use Rattle.labelcore.specs.declared.fault.Fault.TheVariants.{NotADigit, WrongNumberOfDigits, WrongCheckDigit}
use Rattle.labelcore.specs.declared.fault.Fault.TheVariants.{DataTooLong, NotAscii}
use Rattle.linear.specs.declared.ean.NumberSet.TheVariants as number_set
use Rattle.linear.specs.declared.switching.CodeSet.TheVariants.{A, B, C}
use Rattle.linear.specs.Modules.{modules}
use Rattle.linear.specs.Digits.{digit_value, weighted_sum, full_digits}
use Rattle.linear.specs.Switching.{step}
use Rattle.linear.specs.Tables.{rows, number_set_a, left_half_sets, character_widths}
use Rattle.linear.specs.Ean.{pattern, normal_guard, centre_guard, ean8_row, ean13_row, upca_row}
use Rattle.linear.specs.EanReading.{read_ean8, read_ean13, read_upca}
use Rattle.linear.specs.CodeSets.{start_value, start_set, data_values}
use Rattle.linear.specs.declared.switching.CodeSet.{CodeSet}
use Rattle.linear.specs.Code128.{bars_and_spaces, characters, character_modules, full_code128, check_value, with_check}
use Rattle.linear.specs.Code128.{code128_row}
use Rattle.linear.specs.Code128Reading.{meaning, text, change, shift, none, read_code128}

-- ---- the tables, row by row, as Zint 2.11.1 draws them

-- a guard, module by module (ISO/IEC 15420, guard patterns)
guards : (normal_guard ≡ true ∷ false ∷ true ∷ []) × (centre_guard ≡ false ∷ true ∷ false ∷ true ∷ false ∷ [])
guards = (refl, refl)

-- bars and spaces of the widths that texts show, the first of them dark or light
of_widths : Bool → List ℕ → List (List Bool)
of_widths first texts = map (λ widths. bars_and_spaces first (map digit_value widths)) (rows texts)

-- the widths of a digit's modules (ISO/IEC 15420, symbol characters): in set A, light first, in the left halves of EAN-8
-- symbols; in set B, in the left halves of EAN-13 symbols; in set C, dark first, in right halves
widths_of_digits : (map (pattern number_set.A) (range_with_len 0 10)
    ≡ of_widths false (codes "3211 2221 2122 1411 1132 1231 1114 1312 1213 3112"))
    × (map (pattern number_set.B) (range_with_len 0 10)
    ≡ of_widths false (codes "1123 1222 2212 1141 2311 1321 4111 2131 3121 2113"))
    × (map (pattern number_set.C) (range_with_len 0 10)
    ≡ of_widths true (codes "3211 2221 2122 1411 1132 1231 1114 1312 1213 3112"))
unfolding of_widths number_set_a
widths_of_digits = (refl, refl, refl)

-- the sets of digits 3 to 7 of an EAN-13 symbol, after a 2nd digit in set A, for the first digits 0 to 9
sets_of_left_halves : left_half_sets ≡ map (λ letters. 65 ∷ letters)
    (rows (codes "AAAAA ABABB ABBAB ABBBA BAABB BBAAB BBBAA BABAB BABBA BBABA"))
unfolding left_half_sets
sets_of_left_halves = refl

-- the modules of each value: 0 to 99, 105 and 106 in the symbols of two digits, 103 in that of bytes 1 and 2, 104 in
-- that of `ab`, 101 in that of `ab` and bytes 1 to 3, 100 in that of `1234ab`, 102 in the GS1 symbol of
-- `[01]12345678901231`
modules_of_values : characters ≡ map modules (rows (
    codes "11011001100 11001101100 11001100110 10010011000 10010001100 10001001100 10011001000 10011000100 " ++
    codes "10001100100 11001001000 11001000100 11000100100 10110011100 10011011100 10011001110 10111001100 " ++
    codes "10011101100 10011100110 11001110010 11001011100 11001001110 11011100100 11001110100 11101101110 " ++
    codes "11101001100 11100101100 11100100110 11101100100 11100110100 11100110010 11011011000 11011000110 " ++
    codes "11000110110 10100011000 10001011000 10001000110 10110001000 10001101000 10001100010 11010001000 " ++
    codes "11000101000 11000100010 10110111000 10110001110 10001101110 10111011000 10111000110 10001110110 " ++
    codes "11101110110 11010001110 11000101110 11011101000 11011100010 11011101110 11101011000 11101000110 " ++
    codes "11100010110 11101101000 11101100010 11100011010 11101111010 11001000010 11110001010 10100110000 " ++
    codes "10100001100 10010110000 10010000110 10000101100 10000100110 10110010000 10110000100 10011010000 " ++
    codes "10011000010 10000110100 10000110010 11000010010 11001010000 11110111010 11000010100 10001111010 " ++
    codes "10100111100 10010111100 10010011110 10111100100 10011110100 10011110010 11110100100 11110010100 " ++
    codes "11110010010 11011011110 11011110110 11110110110 10101111000 10100011110 10001011110 10111101000 " ++
    codes "10111100010 11110101000 11110100010 10111011110 10111101110 11101011110 11110101110 11010000100 " ++
    codes "11010010000 11010011100 1100011101011"))
unfolding character_widths
modules_of_values = refl

-- ---- digits

-- the sums of the digits by their weights (ISO/IEC 15420, check digit)
weighted_sums : map weighted_sum (codes "7351353" ∷ codes "400638133393" ∷ codes "03600029145" ∷ []) ≡
    63 ∷ 89 ∷ 58 ∷ []
weighted_sums = refl

-- the full digits of `ean8` with check digits 7, 0 and 9 (the last two as Zint 2.11.1 appends them), of `ean13` and of
-- `upca`, and what is refused
numbers : (full_digits 7 (codes "7351353") ≡ Ok (codes "73513537"))
    × (full_digits 7 (codes "73513537") ≡ Ok (codes "73513537"))
    × (full_digits 7 (codes "1234567") ≡ Ok (codes "12345670"))
    × (full_digits 7 (codes "1234564") ≡ Ok (codes "12345649"))
    × (full_digits 12 (codes "4006381333931") ≡ Ok (codes "4006381333931"))
    × (full_digits 12 (codes "0036000291452") ≡ Ok (codes "0036000291452"))
    × (full_digits 11 (codes "03600029145") ≡ Ok (codes "036000291452"))
    × (full_digits 7 (codes "73513530") ≡ Err (WrongCheckDigit 0 7))
    × (full_digits 12 (codes "4006381333932") ≡ Err (WrongCheckDigit 2 1))
    × (full_digits 7 (codes "73x1353") ≡ Err (NotADigit 3))
    × (full_digits 11 (codes "12345") ≡ Err (WrongNumberOfDigits 5))
numbers = (refl, refl, refl, refl, refl, refl, refl, refl, refl, refl, refl)

-- ---- rows of digits

-- `ean8 7351353`, `ean13 4006381333931`, `upca 03600029145` and `ean13 0036000291452`
rows_of_digits : (ean8_row (codes "73513537")
    ≡ modules (codes "1010111011011110101100010011001010101000010100111010000101000100101"))
    × (ean13_row (codes "4006381333931")
    ≡ modules (codes "10100011010100111010111101111010001001011001101010100001010000101000010111010010000101100110101"))
    × (upca_row (codes "036000291452") ≡ ean13_row (codes "0036000291452"))
    × (length (ean13_row (codes "0036000291452")) ≡ 95)
unfolding left_half_sets number_set_a
rows_of_digits = (refl, refl, refl, refl)

rows_read : (read_ean8 (ean8_row (codes "73513537")) ≡ Some (codes "73513537"))
    × (read_ean13 (ean13_row (codes "4006381333931")) ≡ Some (codes "4006381333931"))
    × (read_upca (upca_row (codes "036000291452")) ≡ Some (codes "036000291452"))
unfolding left_half_sets number_set_a
rows_read = (refl, refl, refl)

-- ---- rows of values

-- the start value and the values of the data
values_of : List ℕ → List ℕ
values_of bytes = start_value (start_set bytes) ∷ data_values (start_set bytes) bytes

-- three digits stay in set B, exactly two digits start in set C, an odd digit is left over there, six digits change to
-- it, and a control character between letters is shifted
values_of_texts : (values_of (codes "PJJ123C") ≡ 104 ∷ 48 ∷ 42 ∷ 42 ∷ 17 ∷ 18 ∷ 19 ∷ 35 ∷ [])
    × (values_of (codes "42") ≡ 105 ∷ 42 ∷ [])
    × (values_of (codes "12345") ≡ 105 ∷ 12 ∷ 34 ∷ 100 ∷ 21 ∷ [])
    × (values_of (codes "A123456") ≡ 104 ∷ 33 ∷ 99 ∷ 12 ∷ 34 ∷ 56 ∷ [])
    × (values_of (97 ∷ 1 ∷ 98 ∷ []) ≡ 104 ∷ 65 ∷ 98 ∷ 65 ∷ 66 ∷ [])
    × (values_of (codes "a\\x01b") ≡ 104 ∷ 65 ∷ 60 ∷ 88 ∷ 16 ∷ 17 ∷ 66 ∷ [])
    × (values_of (codes "1") ≡ 104 ∷ 17 ∷ [])
unfolding values_of
values_of_texts = (refl, refl, refl, refl, refl, refl, refl)

-- of these values the sum, each times its place, and the check value
checked : ℕ → List ℕ → ℕ × ℕ
checked start values =
    (start + sum_by (λ item. item.0 * item.1) (enumerate_from 1 values), check_value start values)

check_values : (checked 104 (48 ∷ 42 ∷ 42 ∷ 17 ∷ 18 ∷ 19 ∷ 35 ∷ []) ≡ (879, 55))
    × (checked 105 (42 ∷ []) ≡ (147, 44))
    × (checked 105 (12 ∷ 34 ∷ 100 ∷ 21 ∷ []) ≡ (569, 54))
    × (checked 104 (33 ∷ 99 ∷ 12 ∷ 34 ∷ 56 ∷ []) ≡ (787, 66))
    × (checked 104 (65 ∷ 98 ∷ 65 ∷ 66 ∷ []) ≡ (824, 0))
    × (checked 104 (65 ∷ 60 ∷ 88 ∷ 16 ∷ 17 ∷ 66 ∷ []) ≡ (1098, 68))
    × (checked 104 (17 ∷ []) ≡ (121, 18))
unfolding checked
check_values = (refl, refl, refl, refl, refl, refl, refl)

lengths_of_rows : map (λ text. length (code128_row text)) (codes "PJJ123C" ∷ codes "42" ∷ codes "1" ∷ []) ≡
    112 ∷ 46 ∷ 46 ∷ []
unfolding character_widths
lengths_of_rows = refl

-- with changes of set, and the last with shifts both ways
texts_read : (read_code128 (code128_row (codes "PJJ123C")) ≡ Some (codes "PJJ123C"))
    × (read_code128 (code128_row (codes "42")) ≡ Some (codes "42"))
    × (read_code128 (code128_row (codes "A123456")) ≡ Some (codes "A123456"))
    × (read_code128 (code128_row (97 ∷ 1 ∷ 98 ∷ [])) ≡ Some (97 ∷ 1 ∷ 98 ∷ []))
    × (read_code128 (code128_row (1 ∷ 97 ∷ 2 ∷ 98 ∷ 97 ∷ 3 ∷ [])) ≡ Some (1 ∷ 97 ∷ 2 ∷ 98 ∷ 97 ∷ 3 ∷ []))
unfolding character_widths
texts_read = (refl, refl, refl, refl, refl)

-- ---- what is not read

-- a row without modules, whatever the tables
nothing_read : (read_ean8 [] ≡ None) × (read_ean13 [] ≡ None) × (read_upca [] ≡ None) × (read_code128 [] ≡ None)
nothing_read = (refl, refl, refl, refl)

-- a row whose module at a place has the other colour
changed : ℕ → List Bool → List Bool
changed place row = take place row ++ (map not (take 1 (drop place row)) ++ drop (place + 1) row)

-- what is read where one of these modules is changed
read_changed : (List Bool → Option (List ℕ)) → List Bool → List ℕ → List (Option (List ℕ))
read_changed read row places = map (λ place. read (changed place row)) places

-- each module of the guards (ISO/IEC 15420, guard patterns): the first three, the five in the middle, the last three
wrong_guards : (read_changed read_ean8 (ean8_row (codes "73513537"))
    (range_with_len 0 3 ++ (range_with_len 31 5 ++ range_with_len 64 3)) ≡ replicate 11 None)
    × (read_changed read_ean13 (ean13_row (codes "4006381333931"))
    (range_with_len 0 3 ++ (range_with_len 45 5 ++ range_with_len 92 3)) ≡ replicate 11 None)
unfolding read_changed changed left_half_sets number_set_a
wrong_guards = (refl, refl)

-- a module more at the end, and one less; a group that is no digit of set A in the left half, and none of set C in the
-- right one
wrong_ean8 : (map read_ean8 ((ean8_row (codes "73513537") ++ (false ∷ []))
    ∷ take 66 (ean8_row (codes "73513537")) ∷ []) ≡ None ∷ None ∷ [])
    × (read_changed read_ean8 (ean8_row (codes "73513537")) (3 ∷ 63 ∷ []) ≡ None ∷ None ∷ [])
unfolding read_changed changed number_set_a
wrong_ean8 = (refl, refl)

-- wrong check digits; and a UPC-A symbol is an EAN-13 symbol whose first digit is 0
wrong_digits : (read_ean8 (ean8_row (codes "73513530")) ≡ None)
    × (read_ean13 (ean13_row (codes "4006381333932")) ≡ None)
    × (read_upca (upca_row (codes "036000291453")) ≡ None)
    × (read_upca (ean13_row (codes "4006381333931")) ≡ None)
unfolding left_half_sets number_set_a
wrong_digits = (refl, refl, refl, refl)

-- the row of values, the last of them in the place of the stop character
row_of : List ℕ → List Bool
row_of values = flat_map character_modules values

-- `1` in set B: start 104, value 17, check 18 and stop 106 (ISO/IEC 15417, symbol structure); another check value, no
-- start character, another stop character, and no character for data, which is read as none: 104 is 1 modulo 103
wrong_characters : map (λ values. read_code128 (row_of values)) ((104 ∷ 17 ∷ 18 ∷ 106 ∷ [])
    ∷ (104 ∷ 17 ∷ 19 ∷ 106 ∷ []) ∷ (17 ∷ 17 ∷ 34 ∷ 106 ∷ []) ∷ (104 ∷ 17 ∷ 18 ∷ 18 ∷ []) ∷ (104 ∷ 1 ∷ 106 ∷ []) ∷ [])
    ≡ Some (codes "1") ∷ None ∷ None ∷ None ∷ Some [] ∷ []
unfolding row_of character_widths
wrong_characters = refl

-- a module more at the end and one less, a group that is no character, and each of the two last modules changed
wrong_rows : (map read_code128 ((code128_row (codes "1") ++ (false ∷ [])) ∷ take 45 (code128_row (codes "1")) ∷ []) ≡
    None ∷ None ∷ [])
    × (read_changed read_code128 (code128_row (codes "1")) (11 ∷ 44 ∷ 45 ∷ []) ≡ None ∷ None ∷ None ∷ [])
unfolding read_changed changed character_widths
wrong_rows = (refl, refl)

-- the data of values after the start of a set, with their check value
data_of : CodeSet → List ℕ → Option (List ℕ)
data_of set values = read_code128 (row_of (with_check set values ++ (106 ∷ [])))

-- nothing after a shift, a shift or a change of set after one, and a value without a meaning in set B and in set C
-- (ISO/IEC 15417, code sets)
wrong_values : map (data_of B) ((98 ∷ []) ∷ (98 ∷ 98 ∷ 65 ∷ []) ∷ (98 ∷ 99 ∷ 12 ∷ []) ∷ (96 ∷ [])
    ∷ (99 ∷ 102 ∷ []) ∷ []) ≡ replicate 5 None
unfolding data_of row_of character_widths
wrong_values = refl

-- ---- limits

-- docs/SPECIFICATION.md, Code 128: at most 80 bytes, the last ASCII byte being 127
limits : (full_code128 (replicate 80 97) ≡ Ok (replicate 80 97))
    × (full_code128 (replicate 81 97) ≡ Err DataTooLong)
    × (full_code128 (0 ∷ 127 ∷ []) ≡ Ok (0 ∷ 127 ∷ []))
    × (full_code128 (127 ∷ 128 ∷ []) ≡ Err (NotAscii 2))
limits = (refl, refl, refl, refl)

-- ---- code sets

-- The values of data before the check value, on both sides of each threshold, where Zint 2.11.1 writes the same ones
-- (`--verbose`; ISO/IEC 15417, annex on the use of code sets). At the start four digits go to set C, and three do not;
-- at the end four do, and three do not; between others six do; an odd digit comes before the change.
values_of_digits : map values_of (codes "1234" ∷ codes "123" ∷ codes "12" ∷ codes "12a" ∷ codes "12345a" ∷ codes "A1234"
    ∷ codes "A123" ∷ codes "A123456B" ∷ codes "A1234567" ∷ codes "A12345678" ∷ []) ≡
    (105 ∷ 12 ∷ 34 ∷ []) ∷ (104 ∷ 17 ∷ 18 ∷ 19 ∷ []) ∷ (105 ∷ 12 ∷ []) ∷ (104 ∷ 17 ∷ 18 ∷ 65 ∷ [])
    ∷ (105 ∷ 12 ∷ 34 ∷ 100 ∷ 21 ∷ 65 ∷ []) ∷ (104 ∷ 33 ∷ 99 ∷ 12 ∷ 34 ∷ []) ∷ (104 ∷ 33 ∷ 17 ∷ 18 ∷ 19 ∷ [])
    ∷ (104 ∷ 33 ∷ 99 ∷ 12 ∷ 34 ∷ 56 ∷ 100 ∷ 34 ∷ []) ∷ (104 ∷ 33 ∷ 17 ∷ 99 ∷ 23 ∷ 45 ∷ 67 ∷ [])
    ∷ (104 ∷ 33 ∷ 99 ∷ 12 ∷ 34 ∷ 56 ∷ 78 ∷ []) ∷ []
unfolding values_of
values_of_digits = refl

-- between others fewer than six digits stay in the set that holds; Zint changes to set C from four digits on
values_of_few_digits : map values_of (codes "A1234B" ∷ codes "A12345B" ∷ []) ≡
    (104 ∷ 33 ∷ 17 ∷ 18 ∷ 19 ∷ 20 ∷ 34 ∷ []) ∷ (104 ∷ 33 ∷ 17 ∷ 18 ∷ 19 ∷ 20 ∷ 21 ∷ 34 ∷ []) ∷ []
unfolding values_of
values_of_few_digits = refl

-- bytes 31, 32, 95, 96 and 127: the first byte below 32 picks set A, and the first from 96 on set B
values_of_bytes : map values_of ((1 ∷ 31 ∷ 32 ∷ 95 ∷ []) ∷ (1 ∷ 95 ∷ []) ∷ (97 ∷ 32 ∷ []) ∷ (32 ∷ 97 ∷ [])
    ∷ (32 ∷ 1 ∷ []) ∷ (95 ∷ 97 ∷ []) ∷ (96 ∷ 127 ∷ []) ∷ (97 ∷ 98 ∷ 1 ∷ 2 ∷ 3 ∷ []) ∷ (1 ∷ 2 ∷ 97 ∷ 3 ∷ []) ∷ []) ≡
    (103 ∷ 65 ∷ 95 ∷ 0 ∷ 63 ∷ []) ∷ (103 ∷ 65 ∷ 63 ∷ []) ∷ (104 ∷ 65 ∷ 0 ∷ []) ∷ (104 ∷ 0 ∷ 65 ∷ [])
    ∷ (103 ∷ 0 ∷ 65 ∷ []) ∷ (104 ∷ 63 ∷ 65 ∷ []) ∷ (104 ∷ 64 ∷ 95 ∷ []) ∷ (104 ∷ 65 ∷ 66 ∷ 101 ∷ 65 ∷ 66 ∷ 67 ∷ [])
    ∷ (103 ∷ 65 ∷ 66 ∷ 98 ∷ 65 ∷ 67 ∷ []) ∷ []
unfolding values_of
values_of_bytes = refl

-- one byte that the set lacks, with none after it, changes the set, where Zint shifts: the lengths are the same
values_of_last_bytes : map values_of ((1 ∷ 96 ∷ []) ∷ (97 ∷ 31 ∷ []) ∷ (31 ∷ 97 ∷ []) ∷ (96 ∷ 1 ∷ []) ∷ []) ≡
    (103 ∷ 65 ∷ 100 ∷ 64 ∷ []) ∷ (104 ∷ 65 ∷ 101 ∷ 95 ∷ []) ∷ (103 ∷ 95 ∷ 100 ∷ 65 ∷ []) ∷ (104 ∷ 64 ∷ 101 ∷ 65 ∷ [])
    ∷ []
unfolding values_of
values_of_last_bytes = refl

-- what the first and the last values of each set mean (ISO/IEC 15417, symbol characters)
meanings : (map (meaning A) (0 ∷ 63 ∷ 64 ∷ 95 ∷ 96 ∷ 98 ∷ 99 ∷ 100 ∷ 101 ∷ []) ≡ text (32 ∷ []) ∷ text (95 ∷ [])
    ∷ text (0 ∷ []) ∷ text (31 ∷ []) ∷ none ∷ shift ∷ change C ∷ change B ∷ none ∷ [])
    × (map (meaning B) (0 ∷ 64 ∷ 95 ∷ 96 ∷ 98 ∷ 99 ∷ 100 ∷ 101 ∷ []) ≡ text (32 ∷ []) ∷ text (96 ∷ []) ∷ text (127 ∷ [])
    ∷ none ∷ shift ∷ change C ∷ none ∷ change A ∷ [])
    × (map (meaning C) (0 ∷ 42 ∷ 99 ∷ 100 ∷ 101 ∷ 102 ∷ []) ≡ text (codes "00") ∷ text (codes "42") ∷ text (codes "99")
    ∷ change B ∷ change A ∷ none ∷ [])
meanings = (refl, refl, refl)

-- a step in set C takes two digits
step_in_c : step C 49 (codes "234") ≡ record { values = 12 ∷ []; set = C; rest = codes "34" }
step_in_c = refl
