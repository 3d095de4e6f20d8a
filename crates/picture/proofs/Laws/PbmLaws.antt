-- A plain PBM file reads back as the picture's pixels.
use Rattle.std.proofs.Common.{◌≡◌, ◌<◌, ◌^◌, ◌==◌, ℕ, suc, Bool, false, ◌+◌, ◌*◌, true, List, [], ◌∷◌, ◌++◌}
use Rattle.std.proofs.Common.{drop, map, flat_map, refl, ap, sym, ◌∙◌, arith, decimal, Some, append_assoc}
use Rattle.std.specs.List.{prefix_len, slice_split}
use Rattle.std.specs.Char.{is_digit}
use Rattle.labelcore.specs.Steps.{◌>>=◌}
use Rattle.std.proofs.lemmas.Bool.{eq-eqb, ne_eqb}
use Rattle.std.proofs.lemmas.List.FromFn.{length-range_with_len}
use Rattle.picture.specs.Picture.{Picture}
use Rattle.picture.specs.ReadingLaws.{TextsAreRead, IsDrawable}
use Rattle.picture.specs.Text.{below, pbm_digit, pbm_row, pbm_text}
use Rattle.picture.specs.Reading.{is_white, raster, raster_of, pbm_pixels, after_white, leading_number}
use Rattle.picture.proofs.Laws.RasterLaws.{strip, pixels, strip-pbm_rows, all_digits, length-digits, rows-digits}
use Rattle.picture.proofs.Laws.HeaderLaws.{number_after_white}
use Rattle.picture.proofs.Laws.PbmLineLaws.{are_short, short_lines}

raster_of-digits : (p : Picture)
    → raster_of p.width p.height (map pbm_digit (pixels p (below p.height))) ≡ Some (raster p)
raster_of-digits p =
    let size = length-digits p (below p.height) ∙ ap (λ (n : ℕ). p.width * n) (length-range_with_len 0 p.height) in
    rw (all_digits (pixels p (below p.height)), eq-eqb _ _ size, rows-digits p) refl

-- the text after the white space at its front
abbrev drop_white : List ℕ → List ℕ
drop_white text = drop (prefix_len is_white text) text

after_white-white : (b : ℕ) (rest : List ℕ) → is_white b ≡ true → after_white (b ∷ rest) ≡ Some (drop_white (b ∷ rest))
after_white-white b rest white =
    let counted : prefix_len is_white (b ∷ rest) ≡ 1 + prefix_len is_white rest = rw white refl in
    let some : (prefix_len is_white (b ∷ rest) == 0) ≡ false = ne_eqb _ _ (λ e. omega (arith, counted, e)) in
    rw some refl

strip-drop_white : (text : List ℕ) → strip (drop_white text) ≡ strip text
strip-drop_white [] = refl
strip-drop_white (b ∷ text) = by_test (strip-drop_white text) (is_white b) refl where
  by_test : strip (drop_white text) ≡ strip text → (white : Bool) → is_white b ≡ white
      → strip (drop_white (b ∷ text)) ≡ strip (b ∷ text)
  by_test same false e = let none : drop_white (b ∷ text) ≡ b ∷ text = rw e refl in ap strip none
  by_test same true e = let more : 1 + prefix_len is_white text ≡ suc (prefix_len is_white text) = omega arith in
      rw (e, more) same

-- a text of these parts, where each number is read with what is before it
read_sizes : (w h body : List ℕ) (width height : ℕ)
    → are_short (slice_split (λ b. b == 10) (80 ∷ 49 ∷ 10 ∷ (w ++ 32 ∷ (h ++ 10 ∷ body)))) ≡ true
    → ((c : ℕ) (rest : List ℕ) → is_digit c 10 ≡ false
    → (after_white (10 ∷ w ++ c ∷ rest) >>= leading_number) ≡ Some (width, c ∷ rest))
    → ((c : ℕ) (rest : List ℕ) → is_digit c 10 ≡ false
    → (after_white (32 ∷ h ++ c ∷ rest) >>= leading_number) ≡ Some (height, c ∷ rest))
    → pbm_pixels (80 ∷ 49 ∷ 10 ∷ (w ++ 32 ∷ (h ++ 10 ∷ body))) ≡ raster_of width height (strip body)
unfolding pbm_pixels
read_sizes w h body width height short wide high = rw (
  short,
  wide 32 (h ++ 10 ∷ body) refl,
  high 10 body refl,
  after_white-white 10 body refl,
  strip-drop_white (10 ∷ body),
) refl

-- the text, line by line
grouped : (w h body : List ℕ) → ((((80 ∷ 49 ∷ 10 ∷ []) ++ w) ++ (32 ∷ [])) ++ h) ++ (10 ∷ []) ++ body
    ≡ 80 ∷ 49 ∷ 10 ∷ (w ++ 32 ∷ (h ++ 10 ∷ body))
grouped w h body = simp append_assoc

-- a plain PBM file reads back as the picture's pixels
pub pbm_pixels-pbm_text : TextsAreRead pbm_text pbm_pixels IsDrawable
pbm_pixels-pbm_text p drawable =
    let w = decimal p.width in
    let h = decimal p.height in
    let body = flat_map (pbm_row p) (below p.height) in
    ap pbm_pixels (grouped w h body)
    ∙ read_sizes w h body p.width p.height
    (ap (λ t. are_short (slice_split (λ b. b == 10) t)) (sym (grouped w h body)) ∙ short_lines p drawable)
    (number_after_white p.width 10 drawable.wide refl) (number_after_white p.height 32 drawable.high refl)
    ∙ ap (raster_of p.width p.height) (strip-pbm_rows p (below p.height)) ∙ raster_of-digits p

-- the same where the code has the two sides as its numbers
pub read_back : (p : Picture) (width height : ℕ) → 0 < p.width → width ≡ p.width → width < 2 ^ 64 → height ≡ p.height
    → height < 2 ^ 64 → pbm_pixels (pbm_text p) ≡ Some (raster p)
read_back p width height some as_width wide as_height high = pbm_pixels-pbm_text p
    (record { some = some; wide = omega (arith, as_width, wide); high = omega (arith, as_height, high) })
