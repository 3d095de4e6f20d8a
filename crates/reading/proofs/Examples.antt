-- Worked values: bytes and bits as dots, and the dots of `ean8 7351353`, at a scale of 1 and of 2.
use Rattle.std.proofs.Common.{◌≡◌, ℕ, List, [], ◌∷◌, ◌++◌, ◌*◌, None, Some, codes, refl, flat_map, map, option_map, true, false}
use Rattle.std.specs.Prelude.{if◌then◌else◌, nat_lt, reverse, slice_set}
use Rattle.labelcore.specs.declared.symbology.Symbology.TheVariants.{Code128, Ean8, Qr, UpcA}
use Rattle.linear.specs.Code128.{character_modules}
use Rattle.linear.specs.Tables.{character_widths, number_set_a}
use Rattle.reading.specs.Dots.{bits_picture, bytes_picture, bytes_read, is_inside, row_end}
use Rattle.reading.specs.declared.bits.BitRegion.{BitRegion}
use Rattle.picture.specs.Picture.{Picture}
use Rattle.picture.specs.Reading.{Raster, raster, sample}
use Rattle.reading.specs.Found.{Found, any_reading, first_some, turned, upright_reading}
use Rattle.reading.specs.Labels.{is_width, read_dots, read_label}

-- the raster of digits, 1 where dark
raster_in : ℕ → ℕ → List ℕ → Raster
raster_in width height digits = raster (bytes_picture width height 49 digits)

-- dots are rows of digits, 1 where dark
dots_as_pixels : option_map raster (bytes_read 48 49 3 2 (codes "110010")) ≡ Some (record {
  width = 3;
  height = 2;
  rows = (true ∷ true ∷ false ∷ []) ∷ (false ∷ true ∷ false ∷ []) ∷ [];
})
dots_as_pixels = refl

-- as many as there are, and no other byte
other_bytes : (bytes_read 0 1 3 1 (1 ∷ 0 ∷ []) ≡ None) × (bytes_read 0 1 2 1 (1 ∷ 2 ∷ []) ≡ None)
other_bytes = (refl, refl)

-- rows of three bytes: of each the ten dots from the fourth on
region : BitRegion
region = record { stride = 3; left = 3; top = 1; width = 10; height = 2; dark = true }

-- the dots of binary PBM, the highest bit the leftmost (pbm(5)): 00010011 01010000, 11111000 00001000
bits_as_pixels : (raster (bits_picture region (9 ∷ 9 ∷ 9 ∷ 19 ∷ 80 ∷ 9 ∷ 248 ∷ 8 ∷ [])) ≡ record {
  width = 10;
  height = 2;
  rows = (true ∷ false ∷ false ∷ true ∷ true ∷ false ∷ true ∷ false ∷ true ∷ false ∷ [])
      ∷ (true ∷ true ∷ false ∷ false ∷ false ∷ false ∷ false ∷ false ∷ false ∷ true ∷ []) ∷ [];
}) × ((raster (bits_picture (record { stride = 1; left = 0; top = 0; width = 2; height = 1; dark = false }) (64 ∷ []))).rows
    ≡ (true ∷ false ∷ []) ∷ [])
unfolding region
bits_as_pixels = (refl, refl)

-- they end with the eighth byte; a stride of one byte is too short for thirteen dots, and one of two is enough
ends : (map (is_inside region) (7 ∷ 8 ∷ 9 ∷ []) ≡ false ∷ true ∷ true ∷ [])
    × (map (λ stride. is_inside (record { stride = stride; left = 3; top = 0; width = 10; height = 1; dark = true }) 9)
    (1 ∷ 2 ∷ []) ≡ false ∷ true ∷ [])
unfolding region
ends = (refl, refl)

-- bytes of rows that end with these dots
row_ends : map (λ width. row_end (record { stride = 3; left = 0; top = 0; width = width; height = 1; dark = true }))
    (7 ∷ 8 ∷ 9 ∷ 16 ∷ 17 ∷ []) ≡ 1 ∷ 1 ∷ 2 ∷ 2 ∷ 3 ∷ []
row_ends = refl

-- the row in its quiet zone, seven light modules on each side
dots : List ℕ
dots = codes "000000010101110110111101011000100110010101010000101001110100001010001001010000000"

-- each dot twice, and the row twice
twice : List ℕ
unfolding dots
twice = let row = flat_map (λ dot. dot ∷ dot ∷ []) dots in row ++ row

-- they are read at their own scale, in their own symbology, and not with a dark dot in the quiet zone
read_once : (read_dots Ean8 1 (raster_in 81 1 dots) ≡ Some (codes "73513537"))
    × (read_dots Ean8 3 (raster_in 81 1 dots) ≡ None) × (read_dots UpcA 1 (raster_in 81 1 dots) ≡ None)
    × (read_dots Ean8 1 (raster_in 81 1 (slice_set dots 80 49)) ≡ None)
unfolding raster_in dots sample number_set_a
read_once = (refl, refl, refl, refl)

-- at a scale of 2 they are not read with one dot that is not of the colour of its module
read_twice : (read_dots Ean8 2 (raster_in 162 2 twice) ≡ Some (codes "73513537"))
    × (read_dots Ean8 1 (raster_in 162 2 twice) ≡ None)
    × (read_dots Ean8 2 (raster_in 162 2 (slice_set twice 177 48)) ≡ None)
unfolding raster_in twice sample number_set_a
read_twice = (refl, refl, refl)

-- a first row as long as that of the shortest and of the longest symbol is read, and no shorter or longer one
widths : (map (is_width Code128) (45 ∷ 46 ∷ 1795 ∷ 1796 ∷ []) ≡ false ∷ true ∷ true ∷ false ∷ [])
    × (map (is_width Qr) (21 ∷ 1795 ∷ 1796 ∷ []) ≡ true ∷ true ∷ false ∷ [])
widths = (refl, refl)

-- a Code 128 with nothing between its start and its check character is not read: 104 is 1 modulo 103
no_character : read_label Code128 (flat_map character_modules (104 ∷ 1 ∷ 106 ∷ []) ∷ []) ≡ None
unfolding character_widths
no_character = refl

-- ---- nothing told

-- the first of these that is above 4
first_large : (map (first_some (λ (n : ℕ). if nat_lt 4 n then Some (2 * n) else None))
    ((3 ∷ 5 ∷ 6 ∷ []) ∷ (7 ∷ 5 ∷ []) ∷ (4 ∷ []) ∷ []))
    ≡ Some 10 ∷ Some 14 ∷ None ∷ []
first_large = refl

-- a picture of digits
picture_of : ℕ → ℕ → List ℕ → Picture
picture_of width height digits = bytes_picture width height 49 digits

-- two rows of three, clockwise: their columns from the bottom up, then from right to left, then from the top down
quarter_turns : map (λ turns. (raster (turned turns (picture_of 3 2 (codes "110001")))).rows) (0 ∷ 1 ∷ 2 ∷ 3 ∷ [])
    ≡ ((true ∷ true ∷ false ∷ []) ∷ (false ∷ false ∷ true ∷ []) ∷ [])
    ∷ ((false ∷ true ∷ []) ∷ (false ∷ true ∷ []) ∷ (true ∷ false ∷ []) ∷ [])
    ∷ ((true ∷ false ∷ false ∷ []) ∷ (false ∷ true ∷ true ∷ []) ∷ [])
    ∷ ((false ∷ true ∷ []) ∷ (true ∷ false ∷ []) ∷ (true ∷ false ∷ []) ∷ []) ∷ []
unfolding picture_of
quarter_turns = refl

-- the dots of `ean8 7351353`, as they are and turned by half a turn
found_as : ℕ → Found
found_as turns = record { symbology = Ean8; scale = 1; turns = turns; full = codes "73513537" }

found : (upright_reading 0 (picture_of 81 1 dots) ≡ Some (found_as 0))
    × (upright_reading 2 (picture_of 81 1 (reverse dots)) ≡ None)
    × (any_reading (turned 1 (picture_of 81 1 dots)) ≡ Some (found_as 3))
unfolding picture_of dots sample number_set_a found_as
found = (refl, refl, refl)
