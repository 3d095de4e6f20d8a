-- The lines of a plain PBM file.
use Rattle.std.proofs.Common.{◌≡◌, ℕ, ◌≤◌, Bool, true, false, not, ◌==◌, List, [], ◌∷◌, ◌++◌, length, map, refl}
use Rattle.std.proofs.Common.{◌∙◌, ◌*◌, ap, arith, append_assoc, length-append, decimal, flat_map, nat_le, drop, codes}
use Rattle.std.specs.Int.{div_ceil}
use Rattle.std.specs.List.{list_all, slice_split}
use Rattle.std.specs.Str.Parse.{AllDigits}
use Rattle.std.proofs.lemmas.Bool.{le-leb, ne_eqb}
use Rattle.std.proofs.lemmas.Grind.{flat_map-append}
use Rattle.std.proofs.lemmas.List.{length-map, length-take}
use Rattle.std.proofs.lemmas.List.Folds.{flat_map-map, list_all-append, list_all-map}
use Rattle.std.proofs.lemmas.Fmt.{length-decimal-le}
use Rattle.std.proofs.lemmas.Str.Parse.{digit_from_value}
use Rattle.picture.specs.Picture.{Picture}
use Rattle.picture.specs.Private.Rows.{piece}
use Rattle.picture.specs.ReadingLaws.{IsDrawable}
use Rattle.picture.specs.Reading.{is_magic}
use Rattle.picture.specs.Text.{below, pbm_digit, pbm_row, pbm_text, pixel_row}
use Rattle.picture.proofs.Laws.HeaderLaws.{digits-decimal}
use Rattle.picture.proofs.Laws.LineLaws.{has_no_line_feed, slice_split-with_ends, with_ends}

-- the digits of a row, in pieces
abbrev pub row_lines : Picture → ℕ → List (List ℕ)
row_lines p y = map (λ k. map pbm_digit (piece (pixel_row p y) k)) (below (div_ceil p.width 70))

abbrev pub pbm_lines : Picture → List (List ℕ)
pbm_lines p = codes "P1" ∷ (decimal p.width ++ 32 ∷ decimal p.height) ∷ flat_map (row_lines p) (below p.height)

pub pbm_rows-lines : (p : Picture) (ys : List ℕ) → flat_map (pbm_row p) ys ≡ with_ends (flat_map (row_lines p) ys)
pbm_rows-lines p [] = refl
pbm_rows-lines p (y ∷ ys) = rw (
  flat_map-append (λ line. line ++ 10 ∷ []) (row_lines p y) (flat_map (row_lines p) ys),
  flat_map-map (λ line. line ++ 10 ∷ []) (λ k. map pbm_digit (piece (pixel_row p y) k)) (below (div_ceil p.width 70)),
  pbm_rows-lines p ys,
) refl

-- the header, line by line
grouped : (w h body : List ℕ) → ((((80 ∷ 49 ∷ 10 ∷ []) ++ w) ++ 32 ∷ []) ++ h) ++ (10 ∷ []) ++ body
    ≡ 80 ∷ 49 ∷ 10 ∷ (((w ++ 32 ∷ h) ++ 10 ∷ []) ++ body)
grouped w h body = simp append_assoc

pub pbm_text-lines : (p : Picture) → pbm_text p ≡ with_ends (pbm_lines p)
pbm_text-lines p = rw (pbm_rows-lines p (below p.height))
    (grouped (decimal p.width) (decimal p.height) (with_ends (flat_map (row_lines p) (below p.height))))

-- what holds of a line of at most 70 digits holds of each line of a row
rows_pass : (test : List ℕ → Bool) → ((pixels : List Bool) → length pixels ≤ 70 → test (map pbm_digit pixels) ≡ true)
    → (p : Picture) (ys : List ℕ) → list_all test (flat_map (row_lines p) ys) ≡ true
rows_pass test each p [] = refl
rows_pass test each p (y ∷ ys) =
    list_all-append test (row_lines p y) (flat_map (row_lines p) ys)
    ∙ rw (pieces_pass (below (div_ceil p.width 70)), rows_pass test each p ys) refl where
      pieces_pass : (ks : List ℕ) → list_all test (map (λ k. map pbm_digit (piece (pixel_row p y) k)) ks) ≡ true
      pieces_pass [] = refl
      pieces_pass (k ∷ ks) = rw (
        each (piece (pixel_row p y) k) (omega (arith, length-take {A = Bool} 70 (drop (70 * k) (pixel_row p y)))),
        pieces_pass ks,
      ) refl

no_line_feed_pixels : (pixels : List Bool) → has_no_line_feed (map pbm_digit pixels) ≡ true
no_line_feed_pixels [] = refl
no_line_feed_pixels (true ∷ pixels) = no_line_feed_pixels pixels
no_line_feed_pixels (false ∷ pixels) = no_line_feed_pixels pixels

no_line_feed_digits : (ds : List ℕ) → AllDigits 10 ds → has_no_line_feed ds ≡ true
no_line_feed_digits [] all = refl
no_line_feed_digits (d ∷ ds) all =
    let range = digit_from_value d all.0 in
    rw (ne_eqb d 10 (λ e. omega arith), no_line_feed_digits ds all.1) refl

pub no_line_feeds : (p : Picture) → IsDrawable p → list_all has_no_line_feed (pbm_lines p) ≡ true
no_line_feeds p drawable = rw (
  list_all-append (λ b. not (b == 10)) (decimal p.width) (32 ∷ decimal p.height),
  no_line_feed_digits (decimal p.width) (digits-decimal p.width drawable.wide),
  no_line_feed_digits (decimal p.height) (digits-decimal p.height drawable.high),
  rows_pass has_no_line_feed (λ pixels short. no_line_feed_pixels pixels) p (below p.height),
) refl

-- lines of at most 70 characters
abbrev pub are_short : List (List ℕ) → Bool
are_short ls = list_all (λ line. nat_le (length line) 70) ls

pub short_lines : (p : Picture) → IsDrawable p → are_short (slice_split (λ b. b == 10) (pbm_text p)) ≡ true
short_lines p drawable =
    let wide = drawable.wide in
    let high = drawable.high in
    let sizes : length (decimal p.width ++ 32 ∷ decimal p.height) ≤ 70 = omega (
      arith,
      length-append (decimal p.width) (32 ∷ decimal p.height),
      length-decimal-le 20 p.width (omega arith) (omega arith) wide,
      length-decimal-le 20 p.height (omega arith) (omega arith) high,
    ) in
    ap are_short (ap (slice_split (λ b. b == 10)) (pbm_text-lines p)
    ∙ slice_split-with_ends (pbm_lines p) (no_line_feeds p drawable))
    ∙ list_all-append (λ line. nat_le (length line) 70) (pbm_lines p) ([] ∷ [])
    ∙ rw (
      le-leb (length (decimal p.width ++ 32 ∷ decimal p.height)) 70 sizes,
      rows_pass (λ line. nat_le (length line) 70) (λ pixels short. le-leb (length (map pbm_digit pixels)) 70
          (omega (arith, length-map pixels pbm_digit))) p (below p.height),
    ) refl

pixels_not_magic : (pixels : List Bool) → is_magic (map pbm_digit pixels ++ 10 ∷ []) ≡ false
pixels_not_magic [] = refl
pixels_not_magic (true ∷ pixels) = refl
pixels_not_magic (false ∷ pixels) = refl

sizes_not_magic : (ds rest : List ℕ) → AllDigits 10 ds → is_magic ((ds ++ 32 ∷ rest) ++ 10 ∷ []) ≡ false
sizes_not_magic [] rest all = refl
sizes_not_magic (d ∷ ds) rest all = let range = digit_from_value d all.0 in rw (ne_eqb d 80 (λ e. omega arith)) refl

-- only the first line begins a file
pub no_more_magic : (p : Picture) → IsDrawable p
    → list_all (λ line. not (is_magic line)) (map (λ line. line ++ 10 ∷ []) (drop 1 (pbm_lines p))) ≡ true
no_more_magic p drawable =
    let rows = flat_map (row_lines p) (below p.height) in
    rw (
      sizes_not_magic (decimal p.width) (decimal p.height) (digits-decimal p.width drawable.wide),
      list_all-map (λ line. not (is_magic line)) (λ (line : List ℕ). line ++ 10 ∷ []) rows,
      rows_pass (λ line. not (is_magic (line ++ 10 ∷ []))) (λ pixels short. ap not (pixels_not_magic pixels)) p
          (below p.height),
    ) refl
