-- Worked rows and the limits of a run, computed.
use mathlib.Core.Bool.{xor}
use Rattle.std.proofs.Common.{◌≡◌, ℕ, List, [], ◌∷◌, map, refl, None, Some, Err, codes, false, Bool, ◌++◌, drop}
use Rattle.std.proofs.Common.{Ok, arith, replicate, reverse, sym, true}
use Rattle.std.proofs.Common.{ap, get_or, inl, inr, ◌∙◌}
use Rattle.std.specs.List.{filter_map}
use Rattle.std.specs.Result.{result_ok}
use Rattle.labelcore.specs.declared.symbology.Symbology.{Symbology}
use Rattle.std.specs.Prelude.{◌==◌, slice_set, slice_index_or, unwrap_or}
use Rattle.labelcore.specs.Lines.{lines, ended_lines, open_line}
use Rattle.gf256.specs.BinaryPolynomial.{binary_product, binary_remainder}
use Rattle.gf256.specs.Field.{field_product, field_power}
use Rattle.gf256.specs.Polynomial.{evaluate}
use Rattle.qrdata.specs.Bits.{bits_of, codewords_of, number_of}
use Rattle.qrdata.specs.Reading.{number_at, digits_at, segment_at, segments_at, deinterleaving, data_in}
use Rattle.qrdata.specs.Segments.{byte_bits}
use Rattle.qrdata.specs.Versions.{total_codewords, ec_codewords_per_block, data_codewords, block_lengths, block_table}
use Rattle.qrdata.specs.Versions.{groups_of}
use Rattle.qrmatrix.specs.Functions.{fixed_module, is_free, role}
use Rattle.qrmatrix.specs.Information.{format_information, version_information}
use Rattle.qrmatrix.specs.Masks.{is_flipped}
use Rattle.std.proofs.lemmas.Option.{none-some}
use Rattle.qrmatrix.specs.Reading.{other_positions, read_bits, read_format, read_matrix, read_square, shows_functions}
use Rattle.qrmatrix.specs.Reading.{shows_version, walk}
use Rattle.qrmatrix.specs.Square.{value_at}
use Rattle.filter.specs.OneReading.{IsAlone}
use Rattle.picture.specs.Reading.{pbm_pixels, ascii_pixels, sample}
use Rattle.labelcore.specs.declared.options.Format.TheVariants.{Pbm, Ascii}
use Rattle.labelcore.specs.declared.level.Level.TheVariants.{M}
use Rattle.labelcore.specs.declared.options.Options.{Options}
use Rattle.std.specs.Fmt.{digits}
use Rattle.labelcore.specs.LineItem.{Request, drawn, head_read, refused, request, skipped, symbology_named}
use Rattle.labelcore.specs.declared.fault.Fault.{Fault}
use Rattle.labelcore.specs.HeldLine.{line_limit}
use Rattle.linear.specs.Tables.{number_set_a}
use Rattle.labelcore.specs.declared.fault.Fault.TheVariants.{DoesNotFit, NoData, UnknownSymbology, WrongNumberOfDigits}
use Rattle.labelcore.specs.declared.symbology.Symbology.TheVariants.{Ean13, Ean8, UpcA, Code128, Qr}
use Rattle.picture.specs.declared.quiet_zone.QuietZone.{QuietZone}
use Rattle.filter.specs.declared.status.Status.TheVariants.{Clean, Refused}
use Rattle.filter.specs.Symbol.{Symbol, symbol_of, quiet_zone}
use Rattle.filter.specs.Output.{Images, Messages, drawn_symbols, ended_script, events_after, line_number, outcome}
use Rattle.filter.specs.Output.{script, sent, status_of}
use Rattle.filter.specs.Shown.{IsShown, full_data, image as sent_image, image_in, is_told, messages_after, nothing, told}
use Rattle.filter.specs.Reading.{modules_in, read_image, read_modules}

abbrev settings : Options
settings = record {
  run = record { format = Pbm; scale = 1; escapes = false };
  label = record { height = 1; level = M; min_version = 1; mask = None };
}

abbrev input : List (List ℕ)
input = codes "ean8 7351353" ∷ codes "pdf x" ∷ codes "#" ∷ codes "ean8 73513530" ∷ []

symbols_of_input : (map (λ (s : Symbol). s.full) (drawn_symbols (events_after settings 0 input)) ≡ codes "73513537" ∷ [])
    × (sent settings.run Images (events_after settings 0 input)
    ≡ codes "P1\n81 1\n0000000101011101101111010110001001100101010100001010011101000010100010\n01010000000\n")
    × (sent settings.run Messages (events_after settings 0 input)
    ≡ codes "line 2: unknown symbology\nline 4: check digit is 0, should be 7\n")
    × (sent settings.run Messages (events_after settings 9 (codes "#" ∷ codes "pdf x" ∷ []))
    ≡ codes "line 11: unknown symbology\n")
unfolding drawn_symbols events_after outcome symbol_of request head_read symbology_named line_limit digits number_set_a
symbols_of_input = (refl, refl, refl, refl)

-- the quiet zones: 11 and 7, 7 and 7, 9 and 9 modules (ISO/IEC 15420), 10 on each side (ISO/IEC 15417), 4 on all four
-- sides (ISO/IEC 18004, 6.3.8), as `zint --quietzones` has them, but for bars, which have none above and below
beside : ℕ → ℕ → QuietZone
beside left right = record { left = left; right = right; top = 0; bottom = 0 }

zones : map quiet_zone (Ean13 ∷ Ean8 ∷ UpcA ∷ Code128 ∷ Qr ∷ []) ≡ beside 11 7 ∷ beside 7 7 ∷ beside 9 9 ∷ beside 10 10
    ∷ record { left = 4; right = 4; top = 4; bottom = 4 } ∷ []
unfolding beside
zones = refl

-- a digit more than with the check digit, and one less than without it
wrong_numbers : (symbol_of settings.label Ean13 (codes "40063813339") ≡ Err (WrongNumberOfDigits 11))
    × (symbol_of settings.label Ean13 (codes "40063813339311") ≡ Err (WrongNumberOfDigits 14))
    × (symbol_of settings.label Ean8 (codes "735135") ≡ Err (WrongNumberOfDigits 6))
    × (symbol_of settings.label Ean8 (codes "735135377") ≡ Err (WrongNumberOfDigits 9))
    × (symbol_of settings.label UpcA (codes "0360002914") ≡ Err (WrongNumberOfDigits 10))
    × (symbol_of settings.label UpcA (codes "0360002914522") ≡ Err (WrongNumberOfDigits 13))
unfolding symbol_of
wrong_numbers = (refl, refl, refl, refl, refl, refl)

-- lines are numbered from 1, and the number stops at the greatest of 64 bits
line_numbers : map line_number (0 ∷ 1 ∷ 18446744073709551613 ∷ 18446744073709551614 ∷ 18446744073709551615 ∷ []) ≡
    1 ∷ 2 ∷ 18446744073709551614 ∷ 18446744073709551615 ∷ 18446744073709551615 ∷ []
line_numbers = refl

-- the first line of a text is line 1; a last line without an end is in the script alone
unended : List ℕ
unended = codes "pdf x\n#\nqr"

numbers_in_a_script : (sent settings.run Messages (script settings unended)
    ≡ codes "line 1: unknown symbology\nline 3: no data\n")
    × (sent settings.run Messages (ended_script settings unended) ≡ codes "line 1: unknown symbology\n")
unfolding unended events_after outcome symbol_of request head_read symbology_named line_limit digits lines ended_lines
    open_line
numbers_in_a_script = (refl, refl)

-- the status is `Refused` where a line is refused, and else `Clean`
statuses : map (λ lines. status_of (events_after settings 0 lines)) ([] ∷ (codes "#" ∷ []) ∷ (codes "pdf x" ∷ [])
    ∷ (codes "#" ∷ codes "pdf x" ∷ []) ∷ []) ≡ Clean ∷ Clean ∷ Refused ∷ Refused ∷ []
unfolding status_of events_after outcome symbol_of request head_read symbology_named line_limit
statuses = refl

-- the full data of each symbology, and a digit too few; what is told of a line after two that are skipped or drawn
full_data_of : map (λ (asked : Symbology × List ℕ). full_data asked.0 asked.1) ((Ean13, codes "400638133393")
    ∷ (Ean8, codes "7351353") ∷ (UpcA, codes "03600029145") ∷ (Code128, codes "PJJ123C") ∷ (Qr, codes "x")
    ∷ (Ean13, codes "40063813339") ∷ (Ean8, codes "735135") ∷ (UpcA, codes "0360002914") ∷ [])
    ≡ Ok (codes "4006381333931") ∷ Ok (codes "73513537") ∷ Ok (codes "036000291452") ∷ Ok (codes "PJJ123C")
    ∷ Ok (codes "x") ∷ Err (WrongNumberOfDigits 11) ∷ Err (WrongNumberOfDigits 6) ∷ Err (WrongNumberOfDigits 10) ∷ []
full_data_of = refl

told_of : (messages_after 0 (nothing ∷ sent_image (codes "P1\n") ∷ told NoData ∷ told NoData ∷ [])
    ≡ codes "line 3: no data\nline 4: no data\n")
    × (filter_map image_in (nothing ∷ sent_image (codes "P1\n") ∷ told NoData ∷ []) ≡ codes "P1\n" ∷ [])
    × (map is_told (nothing ∷ sent_image [] ∷ told NoData ∷ []) ≡ false ∷ false ∷ true ∷ [])
unfolding digits
told_of = (refl, refl, refl)

-- what a line asks for that is drawn
asked : Symbology → List ℕ → Request
asked symbology bytes = record { symbology = symbology; options = settings; bytes = bytes }

unlike_faults : UnknownSymbology ≡ NoData → ⊥
unlike_faults same = cc

no_fault : (full : List ℕ) (fault : Fault) → Ok full ≡ Err fault → ⊥
no_fault full fault same = cc

no_qr : Ean8 ≡ Qr → ⊥
no_qr same = cc

-- a line that is skipped is not told, one that is refused is told as just its fault, and one that is drawn is neither
-- passed over nor told
not_shown : (IsShown settings.run skipped (told NoData) → ⊥)
    × (IsShown settings.run (refused NoData) nothing → ⊥)
    × (IsShown settings.run (refused NoData) (told UnknownSymbology) → ⊥)
    × (IsShown settings.run (drawn (asked Ean8 (codes "7351353"))) nothing → ⊥)
    × (IsShown settings.run (drawn (asked Ean8 (codes "7351353"))) (told NoData) → ⊥)
unfolding asked
not_shown = (
  λ shown. shown,
  λ shown. shown,
  λ shown. unlike_faults shown,
  λ shown. shown,
  λ shown. elim shown [ inl wrong ↦ no_fault (codes "73513537") NoData wrong | inr full ↦ no_qr full.0 ],
)

-- ---- reading

-- modules written as rows of 0 and 1
shown : List (List ℕ) → List (List Bool)
shown texts = map (λ text. map (λ c. c == 49) text) texts

-- the row of `ean8 7351353`, of which all rows of a symbol are copies
ean8_row : List ℕ
ean8_row = codes "1010111011011110101100010011001010101000010100111010000101000100101"

ean8_read : map (read_modules Ean8) (shown (ean8_row ∷ ean8_row ∷ []) ∷ shown (ean8_row ∷ (48 ∷ drop 1 ean8_row) ∷ [])
    ∷ [] ∷ []) ≡ Some (codes "73513537") ∷ None ∷ None ∷ []
unfolding shown ean8_row number_set_a
ean8_read = refl

-- the image of `ean8 7351353`
image : List ℕ
image = codes "P1\n81 1\n0000000101011101101111010110001001100101010100001010011101000010100010\n01010000000\n"

-- it reads in its own format, scale and symbology alone, and not with a dark pixel in the quiet zone
image_read : (read_image Pbm 1 Ean8 image ≡ Some (codes "73513537")) × (read_image Ascii 1 Ean8 image ≡ None)
    × (read_image Pbm 2 Ean8 image ≡ None) × (read_image Pbm 1 UpcA image ≡ None) × (read_image Pbm 1 Ean8
    (codes "P1\n81 1\n1000000101011101101111010110001001100101010100001010011101000010100010\n01010000000\n") ≡ None)
unfolding read_image modules_in image pbm_pixels ascii_pixels sample lines ended_lines open_line number_set_a
image_read = (refl, refl, refl, refl, refl)

-- nor is it what is shown of another number, whose full data is 73513520
other_number : IsShown settings.run (drawn (asked Ean8 (codes "7351352"))) (sent_image image) → ⊥
unfolding asked
other_number shown =
    let same : Some (codes "73513520") ≡ Some (codes "73513537") =
    ap result_ok shown.2 ∙ sym shown.3.full ∙ ap (λ symbology. read_image Pbm 1 symbology image) shown.1
    ∙ image_read.0 in
    absurd (omega (arith, ap (λ full. get_or (unwrap_or full []) 6 0) same))

-- ISO/IEC 18004, Annex I: 01234567 in version 1-M, and a row that is a module longer than the others
qr_rows : List (List ℕ)
qr_rows =
    codes "111111100101101111111" ∷ codes "100000100111101000001" ∷ codes "101110101000001011101"
    ∷ codes "101110101100001011101" ∷ codes "101110101011101011101" ∷ codes "100000101000101000001"
    ∷ codes "111111101010101111111" ∷ codes "000000001001100000000" ∷ codes "101111100100101111100"
    ∷ codes "000101011010100101100" ∷ codes "001000110101010011111" ∷ codes "000010000100000111100"
    ∷ codes "000111111001010010000" ∷ codes "000000001011111001100" ∷ codes "111111100110101100000"
    ∷ codes "100000101011111000101" ∷ codes "101110101000100101100" ∷ codes "101110101100100100000"
    ∷ codes "101110101011010010100" ∷ codes "100000100000000110110" ∷ codes "111111101111010010100" ∷ []

qr_read : (read_modules Qr (shown qr_rows) ≡ Some (codes "01234567"))
    × (read_modules Qr (shown (slice_set qr_rows 20 (slice_index_or qr_rows 20 [] ++ codes "0"))) ≡ None)
unfolding shown qr_rows read_matrix xor total_codewords read_format shows_version shows_functions read_bits walk
    codewords_of number_of fixed_module role is_free is_flipped format_information version_information binary_remainder
    bits_of byte_bits ec_codewords_per_block data_codewords block_lengths groups_of block_table evaluate field_power
    field_product binary_product number_at digits_at segment_at segments_at deinterleaving data_in
qr_read = (refl, refl)

-- its codewords are read, so 01234567 is no data of which it is told that it fits in no version
codewords_read : data_in 1 M (0x10 ∷ 0x20 ∷ 0x0C ∷ 0x56 ∷ 0x61 ∷ 0x80 ∷ 0xEC ∷ 0x11 ∷ 0xEC ∷ 0x11 ∷ 0xEC ∷ 0x11 ∷ 0xEC ∷ 0x11
    ∷ 0xEC ∷ 0x11 ∷ 0xA5 ∷ 0x24 ∷ 0xD4 ∷ 0xC1 ∷ 0xED ∷ 0x36 ∷ 0xC7 ∷ 0x87 ∷ 0x2C ∷ 0x55 ∷ []) ≡ Some (codes "01234567")
unfolding total_codewords number_of bits_of byte_bits ec_codewords_per_block data_codewords block_lengths groups_of
    block_table evaluate field_power field_product binary_product binary_remainder number_at digits_at segment_at
    segments_at deinterleaving data_in
codewords_read = refl

it_fits : IsShown settings.run (drawn (asked Qr (codes "01234567"))) (told (DoesNotFit M)) → ⊥
unfolding asked
it_fits shown = elim shown [
  | inl wrong ↦ no_fault (codes "01234567") (DoesNotFit M) wrong
  | inr full ↦ full.2 1 _ (omega arith) (omega arith) codewords_read
]

-- in its seven other positions it is not read, and where it lies turned by a half it is not upright
qr_upright : map (read_square 21) (other_positions 21 (value_at (shown qr_rows))) ≡ replicate 7 None
unfolding shown qr_rows read_matrix xor total_codewords read_format shows_version shows_functions read_bits walk
    codewords_of number_of fixed_module role is_free is_flipped format_information version_information binary_remainder
qr_upright = refl

turned : List (List Bool)
unfolding shown qr_rows
turned = reverse (map reverse (shown qr_rows))

not_upright : IsAlone Qr turned → ⊥
unfolding turned read_matrix xor total_codewords read_format shows_version shows_functions read_bits walk
    codewords_of number_of fixed_module role is_free is_flipped format_information version_information binary_remainder
    bits_of byte_bits ec_codewords_per_block data_codewords block_lengths groups_of block_table evaluate field_power
    field_product binary_product number_at digits_at segment_at segments_at deinterleaving data_in
not_upright alone = none-some (codes "01234567") (sym (alone.1 3 (λ x y. false) (omega arith)))
