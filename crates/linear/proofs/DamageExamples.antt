-- Worked values of damaged rows and of rows read backwards. The rows are as Zint 2.11.1 draws them, some with modules
-- turned. Pairs of rows that are both read, and as near to each other as can be, show that no more turned modules are
-- always seen.
use Rattle.std.proofs.Common.{ap, arith, false, inl, inr, length, replicate}
use Rattle.std.specs.Prelude.{◌≡◌, refl, Ok, Err, Some, true, Bool, List, [], ◌∷◌, ◌++◌, ℕ, codes, flat_map, reverse}
use Rattle.std.specs.List.{range_with_len}
use Rattle.labelcore.specs.declared.fault.Fault.TheVariants.{WrongCheckDigit}
use Rattle.linear.specs.Digits.{full_digits}
use Rattle.linear.specs.Modules.{modules, turned_modules}
use Rattle.linear.specs.Tables.{number_set_a, left_half_sets, character_widths}
use Rattle.linear.specs.EanReading.{read_ean8, read_ean13, read_upca}
use Rattle.linear.specs.Code128.{code128_row}
use Rattle.linear.specs.Code128Reading.{read_code128}
use Rattle.linear.specs.Scanning.{HasNoGap, HasNoPart, readings}
use Rattle.linear.proofs.Laws.GapLaws.{HasNoGap-clear, clear}

-- two of four modules; what one row alone has is not counted
turned : (turned_modules (modules (codes "1100")) (modules (codes "1010")) ≡ 2)
    × (turned_modules (modules (codes "1")) [] ≡ 0) × (turned_modules [] (modules (codes "1")) ≡ 0)
unfolding turned_modules
turned = (refl, refl, refl)

-- five light modules are a gap, four are none
gap : HasNoGap (modules (codes "1000001")) → ⊥
gap none = none (true ∷ []) (true ∷ []) refl

no_gap : HasNoGap (modules (codes "1000010000"))
unfolding clear
no_gap = HasNoGap-clear (modules (codes "1000010000")) 0 refl

-- ---- EAN-13

-- `ean13 4006381333931`, which is read in both directions
ean13 : List Bool
ean13 =
    modules (codes "10100011010100111010111101111010001001011001101010100001010000101000010111010010000101100110101")

ean13_readings : (readings ean13 ≡ codes "4006381333931" ∷ []) × (readings (reverse ean13) ≡ codes "4006381333931" ∷ [])
unfolding ean13 number_set_a left_half_sets character_widths
ean13_readings = (refl, refl)

-- one module is turned, and a group shows no digit
ean13_turned : List Bool
ean13_turned =
    modules (codes "10100011010100111010011101111010001001011001101010100001010000101000010111010010000101100110101")

ean13_turned_unread : (turned_modules ean13 ean13_turned ≡ 1) × (readings ean13_turned ≡ [])
unfolding ean13 ean13_turned turned_modules number_set_a left_half_sets character_widths
ean13_turned_unread = (refl, refl)

-- two numbers whose rows differ in two modules
ean13_first : List Bool
ean13_first =
    modules (codes "10101000110111101011001101000010001101001011101010110011010000101001110110110010011101110010101")

ean13_second : List Bool
ean13_second =
    modules (codes "10101000110111001001001101000010001101001011101010110011010000101001110110110010011101110010101")

ean13_near : (turned_modules ean13_first ean13_second ≡ 2) × (read_ean13 ean13_first ≡ Some (codes "2431309135250"))
    × (read_ean13 ean13_second ≡ Some (codes "7452309135250"))
unfolding ean13_first ean13_second turned_modules number_set_a left_half_sets
ean13_near = (refl, refl, refl)

-- ---- EAN-8

-- `ean8 73513537`, which is read in both directions
ean8 : List Bool
ean8 = modules (codes "1010111011011110101100010011001010101000010100111010000101000100101")

ean8_readings : (readings ean8 ≡ codes "73513537" ∷ []) × (readings (reverse ean8) ≡ codes "73513537" ∷ [])
unfolding ean8 number_set_a left_half_sets character_widths
ean8_readings = (refl, refl)

-- a row that is two of these, with five light modules between: a part of it is read, and is not the row
ean8_twice : HasNoPart (ean8 ++ (replicate 5 false ++ ean8)) → ⊥
unfolding ean8 number_set_a left_half_sets character_widths
ean8_twice none = elim (none 5 5 [] ean8 (ean8 ++ replicate 5 false) refl) [
  | inl same ↦ absurd (omega (arith, ap length same))
  | inr unread ↦ absurd (omega (arith, ap length unread))
]

-- two modules are turned, and the groups show 13513537, whose check digit is wrong
ean8_turned : List Bool
ean8_turned = modules (codes "1010011001011110101100010011001010101000010100111010000101000100101")

ean8_turned_unread : (turned_modules ean8 ean8_turned ≡ 2) × (readings ean8_turned ≡ [])
unfolding ean8 ean8_turned turned_modules number_set_a left_half_sets character_widths
ean8_turned_unread = (refl, refl)

-- two numbers whose rows differ in four modules
ean8_first : List Bool
ean8_first = modules (codes "1010001101001001100011010001101010101110010111001011100101001000101")

ean8_second : List Bool
ean8_second = modules (codes "1010011001000101100011010001101010101110010111001011100101001000101")

ean8_near : (turned_modules ean8_first ean8_second ≡ 4) × (read_ean8 ean8_first ≡ Some (codes "02000008"))
    × (read_ean8 ean8_second ≡ Some (codes "19000008"))
unfolding ean8_first ean8_second turned_modules number_set_a left_half_sets
ean8_near = (refl, refl, refl)

-- ---- UPC-A

-- `upca 036000291452`, which is read in both directions, as the EAN-13 symbol of the number after a 0
upca : List Bool
upca =
    modules (codes "10100011010111101010111100011010001101000110101010110110011101001100110101110010011101101100101")

upca_readings : (readings upca ≡ codes "0036000291452" ∷ []) × (readings (reverse upca) ≡ codes "0036000291452" ∷ [])
unfolding upca number_set_a left_half_sets character_widths
upca_readings = (refl, refl)

-- two modules are turned, and the groups show 037000291452, whose check digit is wrong
upca_turned : List Bool
upca_turned =
    modules (codes "10100011010111101011101100011010001101000110101010110110011101001100110101110010011101101100101")

upca_turned_unread : (turned_modules upca upca_turned ≡ 2) × (readings upca_turned ≡ [])
unfolding upca upca_turned turned_modules number_set_a left_half_sets character_widths
upca_turned_unread = (refl, refl)

-- two numbers whose rows differ in four modules
upca_first : List Bool
upca_first =
    modules (codes "10100011010010011000110100011010001101000110101010111001011100101110010111001011100101001000101")

upca_second : List Bool
upca_second =
    modules (codes "10100110010001011000110100011010001101000110101010111001011100101110010111001011100101001000101")

upca_near : (turned_modules upca_first upca_second ≡ 4) × (read_upca upca_first ≡ Some (codes "020000000008"))
    × (read_upca upca_second ≡ Some (codes "190000000008"))
unfolding upca_first upca_second turned_modules number_set_a left_half_sets
upca_near = (refl, refl, refl)

-- ---- Code 128

-- `code128 Ab12`, which is read in both directions
code128 : List Bool
code128 =
    modules (codes "1101001000010100011000100100001101001110011011001110010101111001001100011101011")

code128_readings : (readings code128 ≡ codes "Ab12" ∷ []) × (readings (reverse code128) ≡ codes "Ab12" ∷ [])
unfolding code128 number_set_a left_half_sets character_widths
code128_readings = (refl, refl)

-- one module is turned, and a group shows no character
code128_turned : List Bool
code128_turned =
    modules (codes "1101001000010100011000100100000101001110011011001110010101111001001100011101011")

code128_turned_unread : (turned_modules code128 code128_turned ≡ 1) × (readings code128_turned ≡ [])
unfolding code128 code128_turned turned_modules number_set_a left_half_sets character_widths
code128_turned_unread = (refl, refl)

-- the bytes 1 and `a` in turn, 40 times, and the same with byte 5 in the place of the 35th byte 1: this byte is the
-- value at place 103, which counts nothing in the check value
alternating : List ℕ
alternating = flat_map (λ i. 1 ∷ 97 ∷ []) (range_with_len 0 40)

other_alternating : List ℕ
other_alternating =
    flat_map (λ i. 1 ∷ 97 ∷ []) (range_with_len 0 34) ++ 5 ∷ 97 ∷ flat_map (λ i. 1 ∷ 97 ∷ []) (range_with_len 0 5)

near_texts : (turned_modules (code128_row alternating) (code128_row other_alternating) ≡ 2)
    × (read_code128 (code128_row alternating) ≡ Some alternating)
    × (read_code128 (code128_row other_alternating) ≡ Some other_alternating)
unfolding turned_modules alternating other_alternating character_widths
near_texts = (refl, refl, refl)

-- ---- check digits

-- neighbours that differ by 5, exchanged, have the same check digit, and others have not
exchanged : (full_digits 12 (codes "1600000000001") ≡ Ok (codes "1600000000001"))
    × (full_digits 12 (codes "6100000000001") ≡ Ok (codes "6100000000001"))
    × (full_digits 12 (codes "1700000000008") ≡ Ok (codes "1700000000008"))
    × (full_digits 12 (codes "7100000000008") ≡ Err (WrongCheckDigit 8 0))
exchanged = (refl, refl, refl, refl)
