-- The raster of a plain PBM file, read back.
use Rattle.std.proofs.Common.{◌≡◌, ℕ, suc, zero, ◌+◌, ◌*◌, ◌<◌, Bool, true, false, not, ◌||◌, ◌==◌, List, [], ◌∷◌}
use Rattle.std.proofs.Common.{length, map, refl, ap, ◌∙◌, take, drop, arith, length-append, filter, flat_map, zero-add}
use Rattle.std.specs.Int.{div_ceil}
use Rattle.std.specs.List.{list_all, drop-map}
use Rattle.std.proofs.lemmas.List.{take_all, take_at, length-map, map-append, take-map}
use Rattle.std.proofs.Math.Seq.{drop-append-add}
use Rattle.std.proofs.lemmas.List.Elements.{filter-append}
use Rattle.std.proofs.lemmas.List.FromFn.{get_or-range_with_len, length-map-range_with_len, length-range_with_len}
use Rattle.std.proofs.Math.ListN.{get_or}
use Rattle.picture.proofs.Laws.SampleLaws.{map-range}
use Rattle.picture.specs.Picture.{Picture}
use Rattle.picture.specs.Private.Rows.{piece}
use Rattle.picture.specs.Text.{below, pbm_digit, pbm_piece, pbm_row, pixel_row}
use Rattle.picture.specs.Reading.{is_white}
use Rattle.picture.proofs.Laws.WritingLaws.{pieces_joined}

-- the text without white space
abbrev pub strip : List ℕ → List ℕ
strip text = filter (λ b. not (is_white b)) text

strip_piece : (pixels : List Bool) → strip (pbm_piece pixels) ≡ map pbm_digit pixels
strip_piece [] = refl
strip_piece (true ∷ pixels) = ap (λ (t : List ℕ). 49 ∷ t) (strip_piece pixels)
strip_piece (false ∷ pixels) = ap (λ (t : List ℕ). 48 ∷ t) (strip_piece pixels)

strip_pieces : (row : List Bool) (ks : List ℕ) → strip (flat_map (λ k. pbm_piece (piece row k)) ks)
    ≡ flat_map (λ k. map pbm_digit (piece row k)) ks
strip_pieces row [] = refl
strip_pieces row (k ∷ ks) =
    filter-append (λ b. not (is_white b)) (pbm_piece (piece row k)) (flat_map (λ k. pbm_piece (piece row k)) ks)
    ∙ rw (strip_piece (piece row k), strip_pieces row ks) refl

-- the digits of a row are those of its pieces
digits_of_pieces : (row : List Bool) (width : ℕ) → length row ≡ width
    → flat_map (λ k. map pbm_digit (piece row k)) (below (div_ceil width 70)) ≡ map pbm_digit row
digits_of_pieces row width size =
    pieces_joined (map pbm_digit) refl (map-append pbm_digit) row (div_ceil width 70)
    ∙ ap (map pbm_digit) (take_all (70 * div_ceil width 70) row (omega (arith, size)))

-- the pixels of rows
abbrev pub pixels : Picture → List ℕ → List Bool
pixels p ys = flat_map (pixel_row p) ys

pub strip-pbm_rows : (p : Picture) (ys : List ℕ) → strip (flat_map (pbm_row p) ys) ≡ map pbm_digit (pixels p ys)
strip-pbm_rows p [] = refl
strip-pbm_rows p (y ∷ ys) =
    let row = pixel_row p y in
    let size : length row ≡ p.width = length-map-range_with_len (λ x. p.dark x y) 0 p.width in
    filter-append (λ b. not (is_white b)) (pbm_row p y) (flat_map (pbm_row p) ys)
    ∙ rw (
      strip_pieces row (below (div_ceil p.width 70)),
      digits_of_pieces row p.width size,
      strip-pbm_rows p ys,
      map-append pbm_digit row (pixels p ys),
    ) refl

pub all_digits : (pixels : List Bool) → list_all (λ b. b == 48 || b == 49) (map pbm_digit pixels) ≡ true
all_digits [] = refl
all_digits (true ∷ pixels) = all_digits pixels
all_digits (false ∷ pixels) = all_digits pixels

length-pixels : (p : Picture) (ys : List ℕ) → length (pixels p ys) ≡ p.width * length ys
length-pixels p [] = omega arith
length-pixels p (y ∷ ys) =
    length-append (pixel_row p y) (pixels p ys)
    ∙ omega (arith, length-map-range_with_len (λ x. p.dark x y) 0 p.width, length-pixels p ys)

pub length-digits : (p : Picture) (ys : List ℕ) → length (map pbm_digit (pixels p ys)) ≡ p.width * length ys
length-digits p ys = length-map (pixels p ys) pbm_digit ∙ length-pixels p ys

read_digits : (pixels : List Bool) → map (λ b. b == 49) (map pbm_digit pixels) ≡ pixels
read_digits [] = refl
read_digits (true ∷ pixels) = ap (λ (t : List Bool). true ∷ t) (read_digits pixels)
read_digits (false ∷ pixels) = ap (λ (t : List Bool). false ∷ t) (read_digits pixels)

-- the pixels of a row are at its place among those of all rows
row_at : (p : Picture) (ys : List ℕ) (y : ℕ) → y < length ys
    → take p.width (drop (p.width * y) (pixels p ys)) ≡ pixel_row p (get_or ys y 0)
row_at p [] y h = absurd (omega arith)
row_at p (y ∷ ys) zero h =
    let none : p.width * 0 ≡ 0 = omega arith in
    rw none (take_at (pixel_row p y) (pixels p ys) p.width (length-map-range_with_len (λ x. p.dark x y) 0 p.width))
row_at p (y ∷ ys) (suc k) h =
    let next : p.width * suc k ≡ length (pixel_row p y) + p.width * k =
    omega (arith, length-map-range_with_len (λ x. p.dark x y) 0 p.width) in
    rw (next, drop-append-add (pixel_row p y) (pixels p ys) (p.width * k)) (row_at p ys k (omega arith))

-- the rows of the digits of rows
pub rows-digits : (p : Picture) → (let digits = map pbm_digit (pixels p (below p.height)) in
    map (λ y. map (λ b. b == 49) (take p.width (drop (p.width * y) digits))) (below p.height)
    ≡ map (pixel_row p) (below p.height))
rows-digits p =
    let all = pixels p (below p.height) in
    map-range _ (pixel_row p) 0 p.height (λ y _ high. rw (
      drop-map pbm_digit (p.width * y) all,
      take-map pbm_digit p.width (drop (p.width * y) all),
      row_at p (below p.height) y (omega (arith, length-range_with_len 0 p.height)),
      get_or-range_with_len 0 p.height y 0 (omega arith),
      zero-add y,
    ) (read_digits (pixel_row p y)))
