-- Pictures read back from text: plain PBM files (pbm(5), the plain format), and text pictures.
use Rattle.std.specs.Prelude.{ℕ, ◌+◌, ◌-◌, ◌*◌, ◌/◌, ◌%◌, Bool, not, ◌&&◌, ◌||◌, List, [], ◌∷◌, map}
use Rattle.std.specs.Prelude.{filter}
use Rattle.std.specs.Prelude.{take, drop, length, codes, Option, Some, None, option_map, nat_le, nat_lt, ◌==◌}
use Rattle.std.specs.Prelude.{if◌then◌else◌, slice_index_or}
use Rattle.std.specs.List.{list_all, prefix_len, onto_first, concat, slice_split}
use Rattle.std.specs.Bool.{beq, then_some}
use Rattle.std.specs.Cmp.Lexicographic.{pointwise}
use Rattle.std.specs.Str.{bytes_eq}
use Rattle.std.specs.Str.Parse.{digits_value}
use Rattle.std.specs.Char.{is_digit}
use Rattle.labelcore.specs.Steps.{◌>>=◌}
use Rattle.qrmatrix.specs.Square.{value_at}
use Rattle.picture.specs.declared.quiet_zone.QuietZone.{QuietZone}
use Rattle.picture.specs.Picture.{Picture}
use Rattle.picture.specs.Text.{below, pixel_row}

-- the size of a picture, and its pixels row by row
pub record Raster : Type 0 where
  pub width : ℕ
  pub height : ℕ
  pub rows : List (List Bool)

-- the pixels of a picture
abbrev pub raster : Picture → Raster
raster p = record { width = p.width; height = p.height; rows = map (pixel_row p) (below p.height) }

-- pbm(5): white space is a blank, a tab, a carriage return or a line feed
abbrev pub is_white : ℕ → Bool
is_white b = b == 32 || b == 9 || b == 13 || b == 10

-- the text after the white space that it begins with; none where it begins otherwise
abbrev pub after_white : List ℕ → Option (List ℕ)
after_white text = if prefix_len is_white text == 0 then None else Some (drop (prefix_len is_white text) text)

-- the decimal number that a text begins with, and the text after it
abbrev pub leading_number : List ℕ → Option (ℕ × List ℕ)
leading_number text =
    let size = prefix_len (λ b. is_digit b 10) text in
    if size == 0 then None else Some (digits_value 10 (take size text), drop size text)

-- the raster of width times height digits 0 and 1, row by row
abbrev pub raster_of : ℕ → ℕ → List ℕ → Option Raster
raster_of width height digits =
    let rows = map (λ y. map (λ b. b == 49) (take width (drop (width * y) digits))) (below height) in
    then_some (list_all (λ b. b == 48 || b == 49) digits && length digits == width * height)
    (record { width = width; height = height; rows = rows })

-- the pixels of a plain PBM file, pbm(5): its advice that no line has more than 70 characters is a rule here
unfoldable pub pbm_pixels : List ℕ → Option Raster
pbm_pixels text = do
  sizes ← then_some (list_all (λ line. nat_le (length line) 70) (slice_split (λ b. b == 10) text)
      && bytes_eq (take 2 text) (codes "P1")) (drop 2 text)
  width ← after_white sizes >>= leading_number
  height ← after_white width.1 >>= leading_number
  rest ← after_white height.1
  raster_of width.0 height.0 (filter (λ b. not (is_white b)) rest)

-- the parts of a list, which is cut between two neighbours where they pass the test
abbrev pub cut_between : {X : Type 0} → (X → X → Bool) → List X → List (List X)
cut_between is_cut [] = []
cut_between is_cut (x ∷ []) = (x ∷ []) ∷ []
cut_between is_cut (x ∷ y ∷ xs) =
    let more = cut_between is_cut (y ∷ xs) in if is_cut x y then (x ∷ []) ∷ more else onto_first x more

-- the lines of a text, each with its line feed, which the last may lack
abbrev pub whole_lines : List ℕ → List (List ℕ)
whole_lines text = cut_between (λ b next. b == 10) text

-- the pixels of a line of pairs, which ends with a line feed: two number signs are dark, two spaces light
abbrev pub line_pixels : List ℕ → Option (List Bool)
line_pixels [] = None
line_pixels (b ∷ []) = then_some (b == 10) []
line_pixels (b ∷ c ∷ rest) =
    if b == c && (b == 35 || b == 32) then option_map (λ pixels. (b == 35) ∷ pixels) (line_pixels rest) else None

-- the pixels of lines, of which the last is a line feed alone and ends the picture
abbrev pub lines_pixels : List (List ℕ) → Option (List (List Bool))
lines_pixels [] = None
lines_pixels (line ∷ []) = then_some (bytes_eq line (codes "\n")) []
lines_pixels (line ∷ next ∷ more) = do
  pixels ← line_pixels line
  option_map (λ rows. pixels ∷ rows) (lines_pixels (next ∷ more))

-- the pixels of a text picture: lines of equal length, and then an empty line
unfoldable pub ascii_pixels : List ℕ → Option Raster
ascii_pixels text = do
  rows ← lines_pixels (whole_lines text)
  let width = length (slice_index_or rows 0 [])
  then_some (list_all (λ row. length row == width) rows) (record { width = width; height = length rows; rows = rows })

-- the files of a stream, which is cut between two neighbouring lines where they pass the test
abbrev pub files : (List ℕ → List ℕ → Bool) → List ℕ → List (List ℕ)
files is_cut stream = map concat (cut_between is_cut (whole_lines stream))

-- whether a line is `P1`, with its line feed or, at the end of a stream, without
abbrev pub is_magic : List ℕ → Bool
is_magic line = bytes_eq line (codes "P1\n") || bytes_eq line (codes "P1")

-- the plain PBM files of a stream, which is cut before each line `P1`: each file begins with that line, and no other
-- line of it is such
abbrev pub pbm_files : List ℕ → List (List ℕ)
pbm_files stream = files (λ line next. is_magic next) stream

-- the text pictures of a stream: each ends with an empty line
abbrev pub ascii_files : List ℕ → List (List ℕ)
ascii_files stream = files (λ line next. bytes_eq line (codes "\n")) stream

-- the colour of the cell in a column and a row, each cell a square of pixels, by its first pixel
abbrev pub cell : Raster → ℕ → ℕ → ℕ → Bool
cell r scale column row = value_at r.rows (column * scale) (row * scale)

-- whether the cell in a column and a row is a module, and not of the quiet zone
abbrev pub is_module : QuietZone → ℕ → ℕ → ℕ → ℕ → Bool
is_module zone columns rows column row =
    nat_le zone.left column && nat_lt (column + zone.right) columns
    && nat_le zone.top row && nat_lt (row + zone.bottom) rows

-- whether each pixel has the colour of its cell, which is light in the quiet zone
abbrev pub are_cells : Raster → ℕ → QuietZone → ℕ → ℕ → Bool
are_cells r scale zone columns rows =
    list_all (λ y. list_all (λ x. beq (value_at r.rows x y)
    (is_module zone columns rows (x / scale) (y / scale) && cell r scale (x / scale) (y / scale)))
    (below r.width)) (below r.height)

-- the modules inside the quiet zone, row by row, where all cells are of one colour and the zone is light
unfoldable pub sample : Raster → ℕ → QuietZone → Option (List (List Bool))
sample r scale zone =
    let columns = r.width / scale in let rows = r.height / scale in
    then_some (r.width % scale == 0 && r.height % scale == 0 && nat_le (zone.left + zone.right) columns
    && nat_le (zone.top + zone.bottom) rows && are_cells r scale zone columns rows)
    (map (λ row. map (λ column. cell r scale (zone.left + column) (zone.top + row))
    (below (columns - zone.left - zone.right))) (below (rows - zone.top - zone.bottom)))

-- the row that all rows are equal to
abbrev pub common_row : List (List Bool) → Option (List Bool)
common_row [] = None
common_row (row ∷ rows) = then_some (list_all (pointwise beq row) rows) row
