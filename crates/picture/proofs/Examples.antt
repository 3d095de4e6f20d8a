-- Worked pictures, computed.
use Rattle.std.specs.Prelude.{◌≡◌, ℕ, ◌/◌, ◌%◌, Bool, ◌==◌, not, List, [], ◌∷◌, ◌++◌, map, length, codes, refl, true}
use Rattle.std.specs.Prelude.{false, Some, None, replicate, take, slice_set, slice_index_or}
use Rattle.std.specs.List.{range_with_len}
use Rattle.std.specs.Fmt.{digits}
use Rattle.labelcore.specs.Lines.{ended_lines, ended_text}
use Rattle.picture.specs.Picture.{Picture, bars, with_quiet_zone, enlargement, zone_with}
use Rattle.picture.specs.declared.quiet_zone.QuietZone.{QuietZone}
use Rattle.picture.specs.Text.{pbm_text, ascii_text}
use Rattle.picture.specs.Reading.{Raster, pbm_pixels, ascii_pixels, is_white, raster, pbm_files, ascii_files, sample}
use Rattle.picture.specs.Reading.{line_pixels, common_row}
use Rattle.qrmatrix.specs.Square.{value_at}

-- the modules of the symbol of `ean8 7351353`
abbrev ean8_modules : List Bool
ean8_modules = map (λ b. b == 49) (codes "1010111011011110101100010011001010101000010100111010000101000100101")

abbrev ean8_picture : Picture
ean8_picture = enlargement (with_quiet_zone (bars ean8_modules 1)
    (record { left = 7; right = 7; top = 0; bottom = 0 })) 1

pbm_ean8 : (pbm_text ean8_picture
    ≡ codes "P1\n81 1\n0000000101011101101111010110001001100101010100001010011101000010100010\n01010000000\n")
    × (pbm_pixels (pbm_text ean8_picture) ≡ Some (raster ean8_picture))
unfolding digits pbm_pixels
pbm_ean8 = (refl, refl)

ascii_ean8 : (length (ascii_text ean8_picture) ≡ 164)
    × (take 18 (ascii_text ean8_picture) ≡ codes "              ##  ")
    × (ascii_pixels (ascii_text ean8_picture) ≡ Some (raster ean8_picture))
unfolding ascii_pixels
ascii_ean8 = (refl, refl, refl)

-- three times as large, cut from a stream, and sampled
abbrev zone : QuietZone
zone = record { left = 2; right = 1; top = 0; bottom = 0 }

abbrev large : Picture
large = enlargement (with_quiet_zone (bars (true ∷ false ∷ true ∷ true ∷ []) 2) zone) 3

-- a stream is cut before each line `P1`, with its line feed or without, and before no other line
cut : (pbm_files (pbm_text large ++ pbm_text ean8_picture) ≡ pbm_text large ∷ pbm_text ean8_picture ∷ [])
    × (ascii_files (ascii_text large ++ ascii_text ean8_picture) ≡ ascii_text large ∷ ascii_text ean8_picture ∷ [])
    × (pbm_files (codes "P1\n1 1\n0\nP1") ≡ codes "P1\n1 1\n0\n" ∷ codes "P1" ∷ [])
    × (pbm_files (codes "P1\n1 1\n0\nP1\n1 1\n1\n") ≡ codes "P1\n1 1\n0\n" ∷ codes "P1\n1 1\n1\n" ∷ [])
    × (pbm_files (codes "P1\n1 1\n0\nP\nP11\n") ≡ codes "P1\n1 1\n0\nP\nP11\n" ∷ [])
unfolding digits
cut = (refl, refl, refl, refl, refl)

-- the first byte of another file is no part of the one before it
cut_of_ended : pbm_files (ended_text (codes "P1\n1 1\n0\nP")) ≡ codes "P1\n1 1\n0\n" ∷ []
unfolding ended_text ended_lines
cut_of_ended = refl

large_sampled : sample (raster large) 3 zone ≡ Some
    ((true ∷ false ∷ true ∷ true ∷ []) ∷ (true ∷ false ∷ true ∷ true ∷ []) ∷ [])
unfolding sample
large_sampled = refl

-- a row of a multiple of 70 pixels has no empty line after it, and 71 pixels are a full line and one more
wide_rows : (pbm_text (bars
    (map (λ b. b == 49) (codes "1111111111111111111111111111111111111111111111111111111111111111111111")) 2)
    ≡ codes "P1\n70 2\n1111111111111111111111111111111111111111111111111111111111111111111111\n"
    ++ codes "1111111111111111111111111111111111111111111111111111111111111111111111\n")
    × (pbm_text (bars (replicate 71 true) 1)
    ≡ codes "P1\n71 1\n1111111111111111111111111111111111111111111111111111111111111111111111\n1\n")
unfolding digits
wide_rows = (refl, refl)

-- pbm(5): white space is a blank, a tab, a carriage return or a line feed, and a number is decimal
white : map is_white (8 ∷ 9 ∷ 10 ∷ 11 ∷ 12 ∷ 13 ∷ 14 ∷ 31 ∷ 32 ∷ 33 ∷ []) ≡
    false ∷ true ∷ true ∷ false ∷ false ∷ true ∷ false ∷ false ∷ true ∷ false ∷ []
white = refl

abbrev rows_of : List (List ℕ) → List (List Bool)
rows_of texts = map (λ text. map (λ b. b == 49) text) texts

-- the digits row by row, as many as the size says, each 0 or 1 (pbm(5)), after `P1` and white space
files_read : map pbm_pixels (codes "P1\t2\r\n1\n\n1\t0 \r" ∷ codes "P1\n9 1\n111111110\n" ∷ codes "P1\n2 3\n110010\n"
    ∷ []) ≡
    Some (record { width = 2; height = 1; rows = rows_of (codes "10" ∷ []) })
    ∷ Some (record { width = 9; height = 1; rows = rows_of (codes "111111110" ∷ []) })
    ∷ Some (record { width = 2; height = 3; rows = rows_of (codes "11" ∷ codes "00" ∷ codes "10" ∷ []) }) ∷ []
unfolding pbm_pixels
files_read = refl

-- neither a letter as a digit, nor 71 characters in a line, nor a text in the place of the one white byte, nor another
-- number of digits or another digit than the raster has, nor another beginning
not_read : map pbm_pixels (codes "P1\na 1\n1111111111\n"
    ∷ codes "P1\n71 1\n11111111111111111111111111111111111111111111111111111111111111111111111\n"
    ∷ codes "P1\n1 1" ∷ codes "P1\n2 3\n11001\n" ∷ codes "P1\n2 3\n1100101\n" ∷ codes "P1\n2 1\n12\n"
    ∷ codes "P4\n1 1\n1\n" ∷ codes "P11 1\n1\n" ∷ codes "P1\n11\n1\n" ∷ []) ≡ replicate 9 None
unfolding pbm_pixels
not_read = refl

-- a text picture has lines of equal length, each of pairs of one letter, and then an empty line
text_pixels : (ascii_pixels (codes "##  ##\n    ##\n\n")
    ≡ Some (record { width = 3; height = 2; rows = rows_of (codes "101" ∷ codes "001" ∷ []) }))
    × (map ascii_pixels (codes "##\n####\n\n" ∷ codes "####\n##\n\n" ∷ codes "##\n" ∷ codes "##\n##" ∷ [] ∷ [])
    ≡ replicate 5 None)
    × (map line_pixels (codes "# \n" ∷ codes " #\n" ∷ codes "00\n" ∷ codes "###\n" ∷ codes "##00\n" ∷ codes "##" ∷ [])
    ≡ replicate 6 None)
unfolding ascii_pixels
text_pixels = (refl, refl, refl)

-- three modules in a quiet zone of another width on each side, a pixel for each: in the quiet zone no pixel is dark
-- (ISO/IEC 18004, 6.3.8)
abbrev four_sides : QuietZone
four_sides = record { left = 2; right = 1; top = 1; bottom = 2 }

sides_of_zone : zone_with 2 1 3 4 ≡ record { left = 2; right = 1; top = 3; bottom = 4 }
sides_of_zone = refl

abbrev framed : Raster
framed = record {
  width = 6;
  height = 4;
  rows = rows_of (codes "000000" ∷ codes "001010" ∷ codes "000000" ∷ codes "000000" ∷ []);
}

-- the pixels with one of the other colour, the places counted row by row
changed : Raster → ℕ → Raster
changed r place =
    let x = place % r.width in let y = place / r.width in let row = slice_index_or r.rows y [] in
    record r { rows = slice_set r.rows y (slice_set row x (not (slice_index_or row x false))) }

framed_sampled : (sample framed 1 four_sides ≡ Some ((true ∷ false ∷ true ∷ []) ∷ []))
    × (map (λ place. sample (changed framed place) 1 four_sides) (range_with_len 0 24) ≡
    replicate 8 None ++ (Some (rows_of (codes "001" ∷ [])) ∷ Some (rows_of (codes "111" ∷ []))
    ∷ Some (rows_of (codes "100" ∷ [])) ∷ replicate 13 None))
unfolding sample changed
framed_sampled = (refl, refl)

-- cells of two by two pixels, a light one and then two modules: each pixel has the colour of its cell
abbrev beside : QuietZone
beside = record { left = 1; right = 0; top = 0; bottom = 0 }

abbrev cells : Raster
cells = record { width = 6; height = 2; rows = replicate 2 (map (λ b. b == 49) (codes "001100")) }

cells_sampled : (sample cells 2 beside ≡ Some (rows_of (codes "10" ∷ [])))
    × (map (λ place. sample (changed cells place) 2 beside) (range_with_len 0 12) ≡ replicate 12 None)
unfolding sample changed
cells_sampled = (refl, refl)

-- cells below one another, a light one and then a light and a dark module
abbrev above : QuietZone
above = record { left = 0; right = 0; top = 1; bottom = 0 }

abbrev column : Raster
column = record { width = 2; height = 6; rows = replicate 4 (replicate 2 false) ++ replicate 2 (replicate 2 true) }

column_sampled : (sample column 2 above ≡ Some ((false ∷ []) ∷ (true ∷ []) ∷ []))
    × (map (λ place. sample (changed column place) 2 above) (range_with_len 0 12) ≡ replicate 12 None)
unfolding sample changed
column_sampled = (refl, refl)

-- a width or a height that is no multiple of the scale, a picture that is smaller than its quiet zone, and quiet zones
-- that fill the picture and leave no modules
abbrev light : ℕ → ℕ → Raster
light width height = record { width = width; height = height; rows = replicate height (replicate width false) }

abbrev no_zone : QuietZone
no_zone = record { left = 0; right = 0; top = 0; bottom = 0 }

sizes_sampled : (sample (light 2 2) 2 no_zone ≡ Some ((false ∷ []) ∷ [])) × (sample (light 3 2) 2 no_zone ≡ None)
    × (sample (light 2 3) 2 no_zone ≡ None) × (sample (light 2 4) 1 four_sides ≡ None)
    × (sample (light 6 2) 1 four_sides ≡ None) × (sample (light 3 4) 1 four_sides ≡ Some ([] ∷ []))
    × (sample (light 6 3) 1 four_sides ≡ Some [])
unfolding sample
sizes_sampled = (refl, refl, refl, refl, refl, refl, refl)

-- the rows of a linear symbol are one row: rows that differ in a module, or in their length, are none
one_row : map (λ texts. common_row (rows_of texts)) ((codes "101" ∷ codes "101" ∷ []) ∷ (codes "101" ∷ codes "101"
    ∷ codes "100" ∷ []) ∷ (codes "101" ∷ codes "001" ∷ codes "101" ∷ []) ∷ (codes "101" ∷ codes "10" ∷ []) ∷ [] ∷ []) ≡
    Some (true ∷ false ∷ true ∷ []) ∷ None ∷ None ∷ None ∷ None ∷ []
one_row = refl

-- ---- quiet zones

-- a picture of two by three pixels with another width on each side, and one that is dark beyond its own size too
abbrev four_widths : QuietZone
four_widths = record { left = 1; right = 2; top = 3; bottom = 1 }

in_quiet_zones : map (λ (dark : ℕ → ℕ → Bool).
    raster (with_quiet_zone (record { width = 2; height = 3; dark = dark }) four_widths))
    (value_at (rows_of (codes "10" ∷ codes "01" ∷ codes "11" ∷ [])) ∷ (λ x y. true) ∷ []) ≡
    map (λ texts. record { width = 5; height = 7; rows = rows_of texts })
    (map (λ rows. replicate 3 (codes "00000") ++ rows ++ codes "00000" ∷ [])
    ((codes "01000" ∷ codes "00100" ∷ codes "01100" ∷ []) ∷ replicate 3 (codes "01100") ∷ []))
in_quiet_zones = refl

-- light beside the picture
beside_bars : ((bars (true ∷ []) 1).dark 1 0 ≡ false)
    × (map (λ y. value_at (raster (bars (true ∷ []) 1)).rows 1 y) (0 ∷ 1 ∷ []) ≡ false ∷ false ∷ [])
beside_bars = (refl, refl)
