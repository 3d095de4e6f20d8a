-- Worked values: the numbers of lib/labels.h, bits as binary PBM has them (pbm(5)), and a symbol that is read.
use Rattle.std.proofs.Common.{◌≡◌, ℕ, Bool, List, [], ◌∷◌, ◌++◌, ◌-◌, ◌==◌, true, false, None, Some, codes, refl, map, take, drop, replicate}
use Rattle.std.specs.Prelude.{Ok, Err, if◌then◌else◌, ◌||◌}
use Rattle.std.specs.Result.{result_err}
use Rattle.labelcore.specs.LineItem.{drawn, item}
use Rattle.labelcore.specs.declared.fault.Fault.TheVariants.{NotADigit, WrongNumberOfDigits, WrongCheckDigit}
use Rattle.labelcore.specs.declared.fault.Fault.TheVariants.{DataTooLong, NotAscii, DoesNotFit, NoData}
use Rattle.labelcore.specs.declared.fault.Fault.TheVariants.{LineTooLong, UnknownSymbology, UnknownSetting, BadValue}
use Rattle.labelcore.specs.declared.fault.Fault.TheVariants.{BadEscape}
use Rattle.labelcore.specs.declared.options.Format.TheVariants.{Pbm, Ascii}
use Rattle.labelcore.specs.declared.options.Options.{Options}
use Rattle.labelcore.specs.declared.symbology.Symbology.TheVariants.{Ean13, Ean8, UpcA, Code128, Qr}
use Rattle.labelcore.specs.declared.level.Level.TheVariants.{L, M, Q, H}
use Rattle.linear.specs.Modules.{modules}
use Rattle.linear.specs.Tables.{number_set_a, left_half_sets}
use Rattle.picture.specs.Picture.{Picture}
use Rattle.picture.specs.Reading.{sample}
use Rattle.capi.specs.Bitmap.{bitmap_fits, bitmap_size, byte_at, bytes_of, dot_at, put_bit_rows, row_size, row_step}
use Rattle.capi.specs.Calls.{asked, has_LF, line_asked, options_asked}
use Rattle.capi.specs.Layout.{between, in_quiet_zones, layout_of, longer_bars, modules_at, no_layout, printed}
use Rattle.capi.specs.Modules.{is_nothing, modules_of, rows_put, with_rows_put}
use Rattle.capi.specs.Numbers.{are_unused, code_of, flag_numbered, format_numbered, level_numbered, mask_numbered}
use Rattle.capi.specs.Numbers.{options_numbered, place_of, symbology_numbered}
use Rattle.capi.specs.Read.{bits_as, modules_asked, read_asked, region_numbered}
use Rattle.capi.specs.declared.layout.Layout.{Layout}
use Rattle.capi.specs.declared.numbers.CallOptions.{CallOptions}
use Rattle.capi.specs.declared.numbers.CallRegion.{CallRegion}
use Rattle.capi.specs.declared.numbers.SymbolInfo.{SymbolInfo}

-- ---- numbers of lib/labels.h

-- enum labels_format, labels_level and labels_symbology, flags, and LABELS_MASK_AUTO, with the numbers after them
names_of_numbers : (map format_numbered (0 ∷ 1 ∷ 2 ∷ []) ≡ Some Pbm ∷ Some Ascii ∷ None ∷ [])
    × ((map level_numbered (0 ∷ 1 ∷ 2 ∷ 3 ∷ 4 ∷ []) ≡ Some L ∷ Some M ∷ Some Q ∷ Some H ∷ None ∷ [])
    × ((map symbology_numbered (0 ∷ 1 ∷ 2 ∷ 3 ∷ 4 ∷ 5 ∷ [])
    ≡ Some Ean13 ∷ Some Ean8 ∷ Some UpcA ∷ Some Code128 ∷ Some Qr ∷ None ∷ [])
    × ((map flag_numbered (0 ∷ 1 ∷ 2 ∷ []) ≡ Some false ∷ Some true ∷ None ∷ [])
    × (map mask_numbered (7 ∷ 8 ∷ 9 ∷ []) ≡ Some 7 ∷ None ∷ Some 9 ∷ []))))
names_of_numbers = (refl, (refl, (refl, (refl, refl))))

-- LABELS_DEFAULTS
defaults : CallOptions
defaults = record {
  format = 0;
  scale = 1;
  height = 50;
  level = 1;
  min_version = 1;
  mask = 8;
  escapes = 0;
  reserved = replicate 5 0;
}

-- options at the ends of their ranges
at_ends : List CallOptions
at_ends =
    defaults ∷ record defaults { scale = 8 } ∷ record defaults { height = 1 } ∷ record defaults { height = 500 }
    ∷ record defaults { min_version = 10 } ∷ record defaults { mask = 0 } ∷ []

-- options one beyond them
beyond : List CallOptions
beyond =
    record defaults { scale = 0 } ∷ record defaults { scale = 9 } ∷ record defaults { height = 0 }
    ∷ record defaults { height = 501 } ∷ record defaults { min_version = 0 } ∷ record defaults { min_version = 11 }
    ∷ record defaults { mask = 9 } ∷ []

-- options whose number names nothing, and a spare word
nameless : List CallOptions
nameless =
    record defaults { format = 2 } ∷ record defaults { level = 4 } ∷ record defaults { escapes = 2 }
    ∷ record defaults { reserved = 0 ∷ 0 ∷ 0 ∷ 0 ∷ 1 ∷ [] } ∷ []

-- the fields of labels_options in their order
wrong_options : (map (λ o. result_err (options_numbered o)) at_ends ≡ replicate 6 None)
    × ((map options_numbered beyond ≡ map Err (2 ∷ 2 ∷ 3 ∷ 3 ∷ 5 ∷ 5 ∷ 6 ∷ []))
    × (map options_numbered nameless ≡ map Err (1 ∷ 4 ∷ 7 ∷ 8 ∷ [])))
unfolding options_numbered defaults at_ends beyond nameless
wrong_options = (refl, (refl, refl))

-- words that are 0, or are not all
spare_words : map are_unused ([] ∷ (0 ∷ 0 ∷ []) ∷ (0 ∷ 1 ∷ []) ∷ (1 ∷ 1 ∷ []) ∷ []) ≡ true ∷ true ∷ false ∷ false ∷ []
spare_words = refl

-- LABELS_DEFAULTS as options
default_options : Options
default_options = record {
  run = record { format = Pbm; scale = 1; escapes = false };
  label = record { height = 50; level = M; min_version = 1; mask = None };
}

default_numbers : options_numbered defaults ≡ Ok default_options
unfolding options_numbered defaults default_options
default_numbers = refl

-- options, then the symbology, then the data
asked_for : (asked defaults 4 (65 ∷ []) ≡ Ok (record {
  run = default_options.run;
  item = drawn (record { symbology = Qr; options = default_options; bytes = 65 ∷ [] });
}))
    × ((asked (record defaults { scale = 9 }) 5 [] ≡ Err (record { code = 2; at = 2 }))
    × ((asked defaults 5 [] ≡ Err (record { code = 3; at = 0 })) × (asked defaults 4 [] ≡ Err (record { code = 4; at = 0 }))))
unfolding asked options_asked options_numbered defaults default_options
asked_for = (refl, (refl, (refl, refl)))

-- enum labels_code
codes_of_faults : map code_of (NoData ∷ NotADigit 9 ∷ WrongNumberOfDigits 9 ∷ WrongCheckDigit 9 8 ∷ DataTooLong
    ∷ NotAscii 9 ∷ DoesNotFit L ∷ LineTooLong ∷ UnknownSymbology ∷ UnknownSetting 9 ∷ BadValue 9 ∷ BadEscape 9 ∷ [])
    ≡ 4 ∷ 5 ∷ 6 ∷ 7 ∷ 8 ∷ 9 ∷ 10 ∷ 11 ∷ 3 ∷ 12 ∷ 12 ∷ 13 ∷ []
codes_of_faults = refl

places_of_faults : map place_of (NotADigit 9 ∷ NotAscii 9 ∷ BadEscape 9 ∷ UnknownSetting 9 ∷ BadValue 9 ∷ NoData ∷ [])
    ≡ 9 ∷ 9 ∷ 9 ∷ 9 ∷ 9 ∷ 0 ∷ []
places_of_faults = refl

-- ---- layouts

-- the spans of a layout, and its digits, as numbers
spans : Layout → List (List ℕ)
spans layout = map (λ s. s.left ∷ s.right ∷ []) layout.guard

digits : Layout → List (List ℕ)
digits layout = map (λ g. g.first ∷ g.last ∷ g.span.left ∷ g.span.right ∷ []) layout.group

-- the longer bars, and the digits below the others, as Zint 2.11.1 draws them; the digits beside the bars end two modules
-- before them, of UPC-A three
layouts_of_ean : (spans (layout_of Ean13) ≡ (11 ∷ 14 ∷ []) ∷ (56 ∷ 61 ∷ []) ∷ (103 ∷ 106 ∷ []) ∷ [])
    × (spans (layout_of Ean8) ≡ (7 ∷ 10 ∷ []) ∷ (38 ∷ 43 ∷ []) ∷ (71 ∷ 74 ∷ []) ∷ [])
    × (spans (layout_of UpcA) ≡ (9 ∷ 19 ∷ []) ∷ (54 ∷ 59 ∷ []) ∷ (94 ∷ 104 ∷ []) ∷ [])
    × (digits (layout_of Ean13) ≡ (0 ∷ 1 ∷ 2 ∷ 9 ∷ []) ∷ (1 ∷ 7 ∷ 14 ∷ 56 ∷ []) ∷ (7 ∷ 13 ∷ 61 ∷ 103 ∷ [])
    ∷ replicate 4 0 ∷ [])
    × (digits (layout_of Ean8) ≡ (0 ∷ 4 ∷ 10 ∷ 38 ∷ []) ∷ (4 ∷ 8 ∷ 43 ∷ 71 ∷ []) ∷ replicate 4 0 ∷ replicate 4 0 ∷ [])
    × (digits (layout_of UpcA) ≡ (0 ∷ 1 ∷ 1 ∷ 6 ∷ []) ∷ (1 ∷ 6 ∷ 19 ∷ 54 ∷ []) ∷ (6 ∷ 11 ∷ 59 ∷ 94 ∷ [])
    ∷ (11 ∷ 12 ∷ 107 ∷ 112 ∷ []) ∷ [])
unfolding layout_of spans digits
layouts_of_ean = (refl, refl, refl, refl, refl, refl)

counts_of_layouts : (map (λ s. (layout_of s).guards) (Ean13 ∷ Ean8 ∷ UpcA ∷ Code128 ∷ Qr ∷ []) ≡ 3 ∷ 3 ∷ 3 ∷ 0 ∷ 0 ∷ [])
    × (map (λ s. (layout_of s).groups) (Ean13 ∷ Ean8 ∷ UpcA ∷ Code128 ∷ Qr ∷ []) ≡ 3 ∷ 2 ∷ 4 ∷ 0 ∷ 0 ∷ [])
    × (no_layout.reserved ≡ 0 ∷ 0 ∷ []) × (spans no_layout ≡ replicate 3 (0 ∷ 0 ∷ []))
    × (digits no_layout ≡ replicate 4 (replicate 4 0))
unfolding layout_of spans digits
counts_of_layouts = (refl, refl, refl, refl, refl)

-- the quiet zones of EAN-13, and two modules of four
modules_of_spans : (in_quiet_zones Ean13 (true ∷ []) ≡ replicate 11 false ++ (true ∷ replicate 7 false))
    × (modules_at (false ∷ true ∷ true ∷ false ∷ []) (between 1 3) ≡ true ∷ true ∷ [])
modules_of_spans = (refl, refl)

-- `ean13 4006381333931`, `ean8 7351353` and `upca 036000291452`, as Zint 2.11.1 draws them
bars_that_are_longer : (map (λ s. longer_bars s (codes "4006381333931")) (Ean13 ∷ Ean8 ∷ [])
    ≡ replicate 2 (map modules (codes "101" ∷ codes "01010" ∷ codes "101" ∷ [])))
    × (longer_bars UpcA (codes "036000291452")
    ≡ map modules (codes "1010001101" ∷ codes "01010" ∷ codes "1101100101" ∷ []))
unfolding number_set_a
bars_that_are_longer = (refl, refl)

printed_digits : (printed Ean13 (codes "4006381333931")
    ≡ (0, 1, replicate 7 false) ∷ (1, 7, modules (codes "000110101001110101111011110100010010110011"))
    ∷ (7, 13, modules (codes "100001010000101000010111010010000101100110")) ∷ [])
    × (printed Ean8 (codes "73513537") ≡ (0, 4, modules (codes "0111011011110101100010011001"))
    ∷ (4, 8, modules (codes "1000010100111010000101000100")) ∷ [])
    × (printed UpcA (codes "036000291452") ≡ (0, 1, replicate 5 false)
    ∷ (1, 6, modules (codes "01111010101111000110100011010001101"))
    ∷ (6, 11, modules (codes "11011001110100110011010111001001110")) ∷ (11, 12, replicate 5 false) ∷ [])
    × (map (λ s. printed s []) (Code128 ∷ Qr ∷ []) ≡ [] ∷ [] ∷ [])
unfolding number_set_a left_half_sets
printed_digits = (refl, refl, refl, refl)

-- ---- lines

lines_asked : (map has_LF ([] ∷ codes "qr" ∷ codes "q\n" ∷ []) ≡ false ∷ false ∷ true ∷ [])
    × ((line_asked defaults (codes "qr A") ≡ Ok (record { run = default_options.run; item = item default_options (codes "qr A") }))
    × ((line_asked defaults (codes "qr A\n") ≡ Err (record { code = 15; at = 0 }))
    × (line_asked (record defaults { mask = 9 }) (codes "\n") ≡ Err (record { code = 2; at = 6 }))))
unfolding line_asked options_asked options_numbered defaults default_options
lines_asked = (refl, (refl, (refl, refl)))

-- ---- modules

-- two rows of nine dots: the first and the last of the upper one are dark, and the last but one of the lower one
dots : Picture
dots = record { width = 9; height = 2; dark = λ x y. if y == 0 then x == 0 || x == 8 else x == 7 }

rows_of_modules : modules_of dots ≡ (true ∷ replicate 7 false) ++ (true ∷ replicate 7 false) ++ (true ∷ false ∷ [])
unfolding dots
rows_of_modules = refl

-- of a linear symbol one row of modules is put, of a QR symbol each
heights : (rows_put Qr 21 ≡ 21) × (rows_put Ean8 50 ≡ 1)
heights = (refl, refl)

one_of_the_rows : ((with_rows_put (record { symbology = Qr; full = []; modules = dots })).modules.height ≡ 2)
    × ((with_rows_put (record { symbology = Ean8; full = []; modules = dots })).modules.height ≡ 1)
unfolding dots
one_of_the_rows = (refl, refl)

-- nothing told of a symbol, and each number by itself
nothing : SymbolInfo
nothing = record {
  symbology = 0;
  width = 0;
  rows = 0;
  height = 0;
  left = 0;
  right = 0;
  top = 0;
  bottom = 0;
  version = 0;
  level = 0;
  mask = 0;
  reserved = replicate 5 0;
  data_length = 0;
}

nothing_told : (is_nothing nothing ≡ true) × (map is_nothing (record nothing { symbology = 1 }
    ∷ record nothing { width = 1 } ∷ record nothing { rows = 1 } ∷ record nothing { height = 1 }
    ∷ record nothing { left = 1 } ∷ record nothing { right = 1 } ∷ record nothing { top = 1 } ∷ record nothing { bottom = 1 }
    ∷ record nothing { version = 1 } ∷ record nothing { level = 1 } ∷ record nothing { mask = 1 }
    ∷ record nothing { reserved = 1 ∷ [] } ∷ record nothing { data_length = 1 } ∷ []) ≡ replicate 13 false)
unfolding is_nothing nothing
nothing_told = (refl, refl)

-- ---- bits

-- a row in which this dot alone is dark
only : ℕ → List Bool
only place = map (λ x. x == place) (0 ∷ 1 ∷ 2 ∷ 3 ∷ 4 ∷ 5 ∷ 6 ∷ 7 ∷ 8 ∷ [])

dots_as_numbers : map (dot_at (true ∷ false ∷ [])) (0 ∷ 1 ∷ 2 ∷ []) ≡ 1 ∷ 0 ∷ 0 ∷ []
dots_as_numbers = refl

-- pbm(5): the first dot is the highest bit, and a row is filled up with 0
dots_as_bytes : (map (λ place. byte_at (only place) 0) (0 ∷ 1 ∷ 2 ∷ 3 ∷ 4 ∷ 5 ∷ 6 ∷ 7 ∷ 8 ∷ [])
    ≡ 128 ∷ 64 ∷ 32 ∷ 16 ∷ 8 ∷ 4 ∷ 2 ∷ 1 ∷ 0 ∷ [])
    × ((byte_at (replicate 9 true) 0 ≡ 255) × ((byte_at (replicate 9 true) 8 ≡ 128)
    × ((bytes_of (only 0) 2 ≡ 128 ∷ 0 ∷ []) × (bytes_of (only 8) 2 ≡ 0 ∷ 128 ∷ []))))
unfolding only
dots_as_bytes = (refl, (refl, (refl, (refl, refl))))

sizes_of_rows : (map (λ width. row_size (record dots { width = width })) (7 ∷ 8 ∷ 9 ∷ 16 ∷ 17 ∷ []) ≡ 1 ∷ 1 ∷ 2 ∷ 2 ∷ 3 ∷ [])
    × (map (λ stride. row_step stride 2) (0 ∷ 1 ∷ 2 ∷ 3 ∷ []) ≡ 2 ∷ 1 ∷ 2 ∷ 3 ∷ [])
unfolding dots
sizes_of_rows = (refl, refl)

-- two bytes a row, three bytes apart: the third is as it was
rows_of_bits : (put_bit_rows dots 3 (replicate 6 9) 2 ≡ 128 ∷ 128 ∷ 9 ∷ 1 ∷ 0 ∷ 9 ∷ [])
    × ((map (λ height. bitmap_size (record dots { height = height }) 3) (1 ∷ 2 ∷ 3 ∷ []) ≡ 2 ∷ 5 ∷ 8 ∷ [])
    × ((map (λ room. bitmap_fits dots 3 (replicate room 0)) (4 ∷ 5 ∷ 6 ∷ []) ≡ false ∷ true ∷ true ∷ [])
    × (map (λ stride. bitmap_fits dots stride (replicate 9 0)) (1 ∷ 2 ∷ 8 ∷ []) ≡ false ∷ true ∷ false ∷ [])))
unfolding put_bit_rows dots
rows_of_bits = (refl, (refl, (refl, refl)))

-- ---- reading

-- the numbers of a region, a colour that is none, and a spare word
region : CallRegion
region = record { stride = 3; left = 1; top = 2; width = 4; height = 5; dark = 1; reserved = replicate 3 0 }

regions : (region_numbered region ≡ Some (record { stride = 3; left = 1; top = 2; width = 4; height = 5; dark = true }))
    × (map region_numbered (record region { dark = 2 } ∷ record region { reserved = 0 ∷ 1 ∷ [] } ∷ []) ≡ None ∷ None ∷ [])
unfolding region
regions = (refl, refl)

-- no region, and one that is not within the bits
outside : (bits_as None [] ≡ Err 2) × (bits_as (region_numbered region) [] ≡ Err 2)
unfolding region
outside = (refl, refl)

-- `ean8 7351353` in its quiet zone, seven light modules on each side, as GNU barcode 0.99 draws it
ean8 : List ℕ
ean8 = codes "000000010101110110111101011000100110010101010000101001110100001010001001010000000"

dots_read : (read_asked 1 1 81 1 ean8 ≡ Ok (Some (codes "73513537"))) × ((read_asked 1 0 81 1 ean8 ≡ Err 2)
    × ((read_asked 5 1 81 1 ean8 ≡ Err 3) × (read_asked 5 0 81 1 ean8 ≡ Err 2)))
unfolding read_asked ean8 sample number_set_a
dots_read = (refl, (refl, (refl, refl)))

modules_read : modules_asked 1 67 1 (map (λ digit. digit - 48) (take 67 (drop 7 ean8))) ≡ Ok (Some (codes "73513537"))
unfolding modules_asked ean8 number_set_a
modules_read = refl
