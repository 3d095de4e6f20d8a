-- The texts of rows, piece by piece.
use Rattle.std.proofs.Common.{◌≡◌, ℕ, suc, zero, ◌+◌, ◌-◌, ◌*◌, ◌<◌, ◌≤◌, min, Bool, List, [], ◌∷◌, ◌++◌, refl, ap, sym}
use Rattle.std.proofs.Common.{◌∙◌, arith, flat_map, map, length, take, drop, zero-add, add-zero, false}
use Rattle.std.specs.Int.{div_ceil}
use Rattle.std.specs.List.{range_with_len}
use Rattle.std.specs.Prelude.{slice_range}
use Rattle.std.proofs.lemmas.List.{append-nil, take_all, take-take, length-take, get_or-drop, get_or-take, length-drop}
use Rattle.std.proofs.lemmas.List.{length-take-le, take_min}
use Rattle.std.proofs.lemmas.Slice.{between_is}
use Rattle.std.proofs.lemmas.Grind.{flat_map-append}
use Rattle.std.proofs.lemmas.List.Folds.{flat_map-map}
use Rattle.std.proofs.lemmas.List.FromFn.{get_or-map-range_with_len, length-map-range_with_len, take-map-range_with_len}
use Rattle.std.proofs.Math.Seq.{take-add}
use Rattle.qrmatrix.specs.Bits.{bit}
use Rattle.picture.proofs.Laws.GridLaws.{filled_from}
use Rattle.picture.specs.Picture.{Picture}
use Rattle.picture.specs.Private.Rows.{piece, row_text}
use Rattle.picture.specs.Text.{below, pixel_row, pbm_piece, pbm_row, ascii_pixel, ascii_row}

pub range_with_len-add : (a n m : ℕ) → range_with_len a (n + m) ≡ range_with_len a n ++ range_with_len (a + n) m
range_with_len-add a zero m = rw (zero-add m, add-zero a) refl
range_with_len-add a (suc n) m =
    let more : suc n + m ≡ suc (n + m) = omega arith in
    let next : (a + 1) + n ≡ a + suc n = omega arith in
    rw (more, ← next, range_with_len-add (a + 1) n m) refl

-- the texts of the numbers below n + m
pub flat_map-below_add : (f : ℕ → List ℕ) (n m : ℕ) → flat_map f (below (n + m))
    ≡ flat_map f (below n) ++ flat_map f (range_with_len n m)
flat_map-below_add f n m = rw (range_with_len-add 0 n m, zero-add n) (flat_map-append f (below n) (range_with_len n m))

-- the text of one number more
pub flat_map-below_more : (f : ℕ → List ℕ) (n : ℕ) → flat_map f (below (n + 1)) ≡ flat_map f (below n) ++ f n
flat_map-below_more f n =
    flat_map-below_add f n 1 ∙ ap (λ (xs : List ℕ). flat_map f (below n) ++ xs) (append-nil (f n))

pub flat_map-below_suc : (f : ℕ → List ℕ) (n : ℕ) → flat_map f (below (suc n)) ≡ flat_map f (below n) ++ f n
flat_map-below_suc f n =
    let next : suc n ≡ n + 1 = omega arith in ap (λ (k : ℕ). flat_map f (below k)) next ∙ flat_map-below_more f n

-- the texts of the numbers below n are a front of those below a larger number
pub flat_map-below_front : (f : ℕ → List ℕ) (n all : ℕ) → n ≤ all
    → (rest : List ℕ) × (flat_map f (below all) ≡ flat_map f (below n) ++ rest)
flat_map-below_front f n all h =
    let size : all ≡ n + (all - n) = omega arith in (
      flat_map f (range_with_len n (all - n)),
      ap (λ (m : ℕ). flat_map f (below m)) size ∙ flat_map-below_add f n (all - n),
    )

-- the pixels before a piece, and the piece
pub take_piece : (row : List Bool) (k : ℕ) → take (70 * (k + 1)) row ≡ take (70 * k) row ++ piece row k
take_piece row k = let place : 70 * (k + 1) ≡ 70 * k + 70 = omega arith in ap (λ (n : ℕ). take n row) place
    ∙ take-add (70 * k) 70 row

-- all pieces of a row are the row
pub all_pieces : (row : List Bool) → take (70 * div_ceil (length row) 70) row ≡ row
all_pieces row = take_all (70 * div_ceil (length row) 70) row (omega arith)

-- a piece of a row at the front of a longer list, from the 80 pixels that begin with it
pub piece_held : (room : List Bool) (width k n : ℕ) → 70 * k < width → width + 80 ≤ length room
    → n ≡ min 70 (width - 70 * k) → take n (slice_range room (70 * k) (70 * k + 80)) ≡ piece (take width room) k
piece_held room width k n some long size =
    let x = 70 * k in
    let rest = take (width - x) (drop x room) in
    let all : length rest ≡ width - x = length-take-le (width - x) (drop x room) (omega (arith, length-drop x room)) in
    take-take n (x + 80 - x) (drop x room) (omega arith)
    ∙ sym (ap (take 70) (sym (between_is room x width)) ∙ sym (take_min 70 rest)
    ∙ rw (all, ← size) (take-take n (width - x) (drop x room) (omega arith)))

-- a piece of a row that the grid is asked for
pub piece_asked : (dark : ℕ → Bool) (width k n : ℕ) → 70 * k < width → n ≡ min 70 (width - 70 * k)
    → map dark (range_with_len (70 * k) n) ≡ piece (map dark (below width)) k
piece_asked dark width k n some size =
    let x = 70 * k in
    let row = map dark (below width) in
    let long = length-map-range_with_len dark 0 width in
    sym (filled_from dark x (piece row k) n (simp (length-take, length-drop) (omega arith)) (λ i h.
    get_or-take 70 (drop x row) i false (omega arith) ∙ get_or-drop x row i false
    ∙ get_or-map-range_with_len dark 0 width (x + i) (x + i) false (omega arith) (zero-add (x + i))))

-- the text of a row of at most a piece, whose pixels are the bits of a number
pub row_text-of_bits : (text : List Bool → List ℕ) (end : List ℕ) (bits width : ℕ) (pixels : List Bool)
    → pixels ≡ map (bit bits) (below 80) → 0 < width → width ≤ 70
    → text (take width pixels) ++ end ≡ row_text text end (map (bit bits) (below width))
row_text-of_bits text end bits width pixels same some narrow =
    let row = map (bit bits) (below width) in
    let size : length row ≡ width = length-map-range_with_len (bit bits) 0 width in
    let one : div_ceil (length row) 70 ≡ 1 = omega arith in
    let front : take width pixels ≡ row = rw same (take-map-range_with_len (bit bits) 0 80 width (omega arith)) in
    rw (one, front, take_all 70 row (omega arith), append-nil (text row)) refl

-- the rows of plain PBM files end with nothing
pub pbm_rows : (p : Picture) (ys : List ℕ) → flat_map (λ y. row_text pbm_piece [] (pixel_row p y)) ys
    ≡ flat_map (pbm_row p) ys
pbm_rows p [] = refl
pbm_rows p (y ∷ ys) =
    let row = pixel_row p y in
    let size : length row ≡ p.width = length-map-range_with_len (λ x. p.dark x y) 0 p.width in
    rw (append-nil (flat_map (λ k. pbm_piece (piece row k)) (below (div_ceil (length row) 70))), pbm_rows p ys)
    (ap (λ (w : ℕ). flat_map (λ k. pbm_piece (piece row k)) (below (div_ceil w 70)) ++ flat_map (pbm_row p) ys) size)

-- the first pieces of a row, joined
pub pieces_joined : (text : List Bool → List ℕ) → text [] ≡ []
    → ((front more : List Bool) → text (front ++ more) ≡ text front ++ text more)
    → (row : List Bool) (k : ℕ) → flat_map (λ k. text (piece row k)) (below k) ≡ text (take (70 * k) row)
pieces_joined text none joined row zero = sym none
pieces_joined text none joined row (suc k) =
    let next : suc k ≡ k + 1 = omega arith in
    rw (
      flat_map-below_suc (λ k. text (piece row k)) k,
      pieces_joined text none joined row k,
      next,
      take_piece row k,
      joined (take (70 * k) row) (piece row k),
    ) refl

pub letters_of_pieces : (row : List Bool) (k : ℕ) → flat_map (λ k. flat_map ascii_pixel (piece row k)) (below k)
    ≡ flat_map ascii_pixel (take (70 * k) row)
letters_of_pieces = pieces_joined (flat_map ascii_pixel) refl (flat_map-append ascii_pixel)

-- the letters of a row are those of its pieces
pub ascii_rows : (p : Picture) (ys : List ℕ) → flat_map
    (λ y. row_text (λ pixels. flat_map ascii_pixel pixels) (10 ∷ []) (pixel_row p y)) ys ≡ flat_map (ascii_row p) ys
ascii_rows p [] = refl
ascii_rows p (y ∷ ys) =
    let row = pixel_row p y in
    let letters : flat_map (λ k. flat_map ascii_pixel (piece row k)) (below (div_ceil (length row) 70))
    ≡ flat_map (λ x. ascii_pixel (p.dark x y)) (below p.width) =
    letters_of_pieces row (div_ceil (length row) 70)
    ∙ (ap (flat_map ascii_pixel) (all_pieces row) ∙ flat_map-map ascii_pixel (λ x. p.dark x y) (below p.width)) in
    rw (letters, ascii_rows p ys) refl
