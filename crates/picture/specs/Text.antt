-- Pictures as text: plain PBM files (pbm(5), the plain format), and text pictures.
-- Why: `pbm_text`, `ascii_text`: pbm(5), the plain format.
use Rattle.std.specs.Prelude.{ℕ, ◌*◌, Bool, List, ◌++◌, map, flat_map, take, drop, codes, decimal}
use Rattle.std.specs.Prelude.{if◌then◌else◌}
use Rattle.std.specs.Int.{div_ceil}
use Rattle.std.specs.List.{range_with_len}
use Rattle.picture.specs.Picture.{Picture}

-- the numbers below n
abbrev pub below : ℕ → List ℕ
below n = range_with_len 0 n

-- pbm(5): a pixel is the digit 1 where dark, and 0 where light
abbrev pub pbm_digit : Bool → ℕ
pbm_digit dark = if dark then 49 else 48

-- the pixels of the row y
abbrev pub pixel_row : Picture → ℕ → List Bool
pixel_row p y = map (λ x. p.dark x y) (below p.width)

-- a piece of a row: its digits, and a line feed
abbrev pub pbm_piece : List Bool → List ℕ
pbm_piece pixels = map pbm_digit pixels ++ codes "\n"

-- the row y in pieces of 70 pixels, of which the last may be shorter
abbrev pub pbm_row : Picture → ℕ → List ℕ
pbm_row p y = flat_map (λ k. pbm_piece (take 70 (drop (70 * k) (pixel_row p y)))) (below (div_ceil p.width 70))

-- the two lines before the rows
abbrev pub pbm_header : ℕ → ℕ → List ℕ
pbm_header width height = codes "P1\n" ++ decimal width ++ codes " " ++ decimal height ++ codes "\n"

-- a plain PBM file, pbm(5)
abbrev pub pbm_text : Picture → List ℕ
pbm_text p = pbm_header p.width p.height ++ flat_map (pbm_row p) (below p.height)

-- two letters for a pixel, so that it is about as wide as high on a screen
abbrev pub ascii_pixel : Bool → List ℕ
ascii_pixel dark = if dark then codes "##" else codes "  "

-- the row y: the letters of its pixels, and a line feed
abbrev pub ascii_row : Picture → ℕ → List ℕ
ascii_row p y = flat_map (λ x. ascii_pixel (p.dark x y)) (below p.width) ++ codes "\n"

-- a text picture: its rows, and an empty line
abbrev pub ascii_text : Picture → List ℕ
ascii_text p = flat_map (ascii_row p) (below p.height) ++ codes "\n"
