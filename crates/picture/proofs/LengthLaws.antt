-- The lengths of the texts of rows.
use Rattle.std.proofs.Common.{◌≡◌, ℕ, suc, zero, ◌+◌, ◌*◌, Bool, List, [], ◌∷◌, refl, ap, ◌∙◌, arith, flat_map, length}
use Rattle.std.proofs.Common.{take, length-append}
use Rattle.std.specs.Int.{div_ceil}
use Rattle.std.proofs.lemmas.List.{append-nil, length-map}
use Rattle.picture.specs.Private.Rows.{piece, row_text}
use Rattle.picture.specs.Text.{below, pbm_piece, ascii_pixel}
use Rattle.picture.proofs.LetterLaws.{length-letters}
use Rattle.picture.proofs.Laws.WritingLaws.{all_pieces, flat_map-below_suc, letters_of_pieces, take_piece}

length-pbm_pieces : (row : List Bool) (k : ℕ) → length (flat_map (λ k. pbm_piece (piece row k)) (below k))
    ≡ length (take (70 * k) row) + k
length-pbm_pieces row zero = refl
length-pbm_pieces row (suc k) =
    let next : suc k ≡ k + 1 = omega arith in
    rw (flat_map-below_suc (λ k. pbm_piece (piece row k)) k, next, take_piece row k)
    (simp (length-append, length-map) (omega (arith, length-pbm_pieces row k)))

-- a digit for each pixel, and a line feed for each piece
pub length_of_pbm_row : (row : List Bool) → length (row_text pbm_piece [] row) ≡ length row + div_ceil (length row) 70
length_of_pbm_row row =
    let n = div_ceil (length row) 70 in
    ap length (append-nil (flat_map (λ k. pbm_piece (piece row k)) (below n)))
    ∙ (length-pbm_pieces row n ∙ ap (λ (pixels : List Bool). length pixels + n) (all_pieces row))

-- two letters for each pixel, and a line feed
pub length_of_ascii_row : (row : List Bool)
    → length (row_text (λ pixels. flat_map ascii_pixel pixels) (10 ∷ []) row) ≡ 2 * length row + 1
length_of_ascii_row row =
    let n = div_ceil (length row) 70 in
    length-append (flat_map (λ k. flat_map ascii_pixel (piece row k)) (below n)) (10 ∷ [])
    ∙ ap (λ (m : ℕ). m + 1) (ap length (letters_of_pieces row n ∙ ap (flat_map ascii_pixel) (all_pieces row))
    ∙ length-letters row)
