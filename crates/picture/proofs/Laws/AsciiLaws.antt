-- Text pictures, read back and cut from a stream.
use Rattle.std.proofs.Common.{slice_index_or, ◌≡◌, ℕ, ◌<◌, Bool, true, false, not, ◌==◌, List, [], ◌∷◌, ◌++◌, length}
use Rattle.std.proofs.Common.{map, refl, ap, sym, ◌∙◌, arith, flat_map, codes, append_assoc, Some}
use Rattle.std.specs.List.{list_all}
use Rattle.std.specs.Str.{bytes_eq}
use Rattle.std.proofs.lemmas.List.Folds.{flat_map-map, list_all-append}
use Rattle.std.proofs.lemmas.List.FromFn.{get_or-map-range_with_len, length-map-range_with_len, length-range_with_len}
use Rattle.std.proofs.lemmas.List.{length-map, map-append}
use Rattle.std.proofs.lemmas.Bool.{eq-eqb}
use Rattle.std.proofs.lemmas.Grind.{flat_map-append}
use Rattle.picture.specs.Picture.{Picture}
use Rattle.picture.specs.ReadingLaws.{FilesAreTexts, TextsAreRead}
use Rattle.picture.specs.Text.{below, ascii_pixel, ascii_text, pixel_row}
use Rattle.picture.specs.Reading.{line_pixels, lines_pixels, ascii_pixels, ascii_files}
use Rattle.picture.proofs.Laws.LineLaws.{has_no_line_feed, with_ends}
use Rattle.picture.proofs.Laws.CutLaws.{cut_after, cut_after-part, cut_after-with_ends, ended, files_are_texts}

-- the letters of a row
abbrev letters : Picture → ℕ → List ℕ
letters p y = flat_map (λ x. ascii_pixel (p.dark x y)) (below p.width)

-- the lines of a text picture
abbrev ascii_lines : Picture → List (List ℕ)
ascii_lines p = map (letters p) (below p.height) ++ [] ∷ []

ascii_text-lines : (p : Picture) → ascii_text p ≡ with_ends (ascii_lines p)
ascii_text-lines p = sym (flat_map-append (λ line. line ++ 10 ∷ []) (map (letters p) (below p.height)) ([] ∷ [])
    ∙ ap (λ (t : List ℕ). t ++ 10 ∷ []) (flat_map-map (λ line. line ++ 10 ∷ []) (letters p) (below p.height)))

pixel_no_line_feed : (dark : Bool) → has_no_line_feed (ascii_pixel dark) ≡ true
pixel_no_line_feed true = refl
pixel_no_line_feed false = refl

letters_no_line_feed : (p : Picture) (y : ℕ) (xs : List ℕ)
    → has_no_line_feed (flat_map (λ x. ascii_pixel (p.dark x y)) xs) ≡ true
letters_no_line_feed p y [] = refl
letters_no_line_feed p y (x ∷ xs) =
    list_all-append (λ b. not (b == 10)) (ascii_pixel (p.dark x y)) (flat_map (λ x. ascii_pixel (p.dark x y)) xs)
    ∙ rw (pixel_no_line_feed (p.dark x y), letters_no_line_feed p y xs) refl

no_line_feeds : (p : Picture) (ys : List ℕ) → list_all has_no_line_feed (map (letters p) ys ++ [] ∷ []) ≡ true
no_line_feeds p [] = refl
no_line_feeds p (y ∷ ys) = rw (letters_no_line_feed p y (below p.width), no_line_feeds p ys) refl

read_pixel : (dark : Bool) (rest : List ℕ) (pixels : List Bool) → line_pixels (rest ++ 10 ∷ []) ≡ Some pixels
    → line_pixels ((ascii_pixel dark ++ rest) ++ 10 ∷ []) ≡ Some (dark ∷ pixels)
read_pixel true rest pixels e = rw e refl
read_pixel false rest pixels e = rw e refl

read_letters : (p : Picture) (y : ℕ) (xs : List ℕ)
    → line_pixels (flat_map (λ x. ascii_pixel (p.dark x y)) xs ++ 10 ∷ []) ≡ Some (map (λ x. p.dark x y) xs)
read_letters p y [] = refl
read_letters p y (x ∷ xs) = read_pixel (p.dark x y) (flat_map (λ x. ascii_pixel (p.dark x y)) xs)
    (map (λ x. p.dark x y) xs) (read_letters p y xs)

read_rows : (p : Picture) (ys : List ℕ)
    → lines_pixels (ended (map (letters p) ys ++ [] ∷ [])) ≡ Some (map (pixel_row p) ys)
read_rows p [] = refl
read_rows p (y ∷ []) = rw (read_letters p y (below p.width)) refl
read_rows p (y ∷ z ∷ ys) = rw (read_letters p y (below p.width), read_rows p (z ∷ ys)) refl

equal_rows : (p : Picture) (ys : List ℕ) → list_all (λ row. length row == p.width) (map (pixel_row p) ys) ≡ true
equal_rows p [] = refl
equal_rows p (y ∷ ys) = rw (
  eq-eqb (length (pixel_row p y)) p.width
      (length-map-range_with_len (λ x. p.dark x y) 0 p.width),
  equal_rows p ys,
) refl

first_row : (p : Picture) → 0 < p.height → length (slice_index_or (map (pixel_row p) (below p.height)) 0 []) ≡ p.width
first_row p some = ap length (get_or-map-range_with_len (pixel_row p) 0 p.height 0 0 [] some refl)
    ∙ length-map-range_with_len (λ x. p.dark x 0) 0 p.width

-- a text picture of some row reads back as the picture's pixels
pub ascii_pixels-ascii_text : TextsAreRead ascii_text ascii_pixels (λ p. 0 < p.height)
unfolding ascii_pixels
ascii_pixels-ascii_text p some = rw (
  ascii_text-lines p,
  cut_after-with_ends (ascii_lines p) (no_line_feeds p (below p.height)),
  read_rows p (below p.height),
  first_row p some,
  equal_rows p (below p.height),
  length-map (below p.height) (pixel_row p),
  length-range_with_len 0 p.height,
) refl

abbrev is_blank : List ℕ → Bool
is_blank line = bytes_eq line (codes "\n")

pixel_not_blank : (dark : Bool) (rest : List ℕ) → is_blank ((ascii_pixel dark ++ rest) ++ 10 ∷ []) ≡ false
pixel_not_blank true rest = refl
pixel_not_blank false rest = refl

letters_not_blank : (p : Picture) (y : ℕ) (xs : List ℕ) → 0 < length xs
    → is_blank (flat_map (λ x. ascii_pixel (p.dark x y)) xs ++ 10 ∷ []) ≡ false
letters_not_blank p y [] some = absurd (omega arith)
letters_not_blank p y (x ∷ xs) some = pixel_not_blank (p.dark x y) (flat_map (λ x. ascii_pixel (p.dark x y)) xs)

rows_not_blank : (p : Picture) (ys : List ℕ) → 0 < p.width
    → list_all (λ line. not (is_blank line)) (ended (map (letters p) ys)) ≡ true
rows_not_blank p [] some = refl
rows_not_blank p (y ∷ ys) some = rw (
  letters_not_blank p y (below p.width) (omega (arith, length-range_with_len 0 p.width)),
  rows_not_blank p ys some,
) refl

-- a stream of text pictures, each of some column, and what follows it is cut into them and what that is cut into
pub ascii_files-flat_map : FilesAreTexts ascii_text ascii_files (λ p. 0 < p.width)
ascii_files-flat_map = files_are_texts ascii_text ascii_lines (λ line next. is_blank line)
    (λ p. 0 < p.width) (λ ls. Unit {0}) ascii_text-lines (λ p some. no_line_feeds p (below p.height)) (λ p ls. tt)
    first (λ more begun rest e. tt) tt where
      first : (p : Picture) (ls : List (List ℕ)) → 0 < p.width → Unit {0}
          → cut_after is_blank (ended (ascii_lines p) ++ ls) ≡ ended (ascii_lines p) ∷ cut_after is_blank ls
      first p ls some h =
          let rows = ended (map (letters p) (below p.height)) in
          rw (map-append (λ line. line ++ 10 ∷ []) (map (letters p) (below p.height)) ([] ∷ []))
          (ap (cut_after is_blank) (append_assoc rows ((10 ∷ []) ∷ []) ls)
          ∙ cut_after-part is_blank rows (10 ∷ []) ls (rows_not_blank p (below p.height) some) refl)
