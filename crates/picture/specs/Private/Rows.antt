-- The rows of a picture as text, for both kinds of text: private contracts of the writers cite these.
use Rattle.std.specs.Prelude.{ℕ, ◌*◌, Bool, List, ◌++◌, length, flat_map, take, drop}
use Rattle.std.specs.Int.{div_ceil}
use Rattle.picture.specs.Picture.{Picture}
use Rattle.picture.specs.Text.{below, pixel_row}

-- the pixels of a row's piece, counted from 0: 70, or fewer in the last piece
abbrev pub piece : List Bool → ℕ → List Bool
piece row k = take 70 (drop (70 * k) row)

-- the text of a row: that of each of its pieces, and then the row's end
abbrev pub row_text : (List Bool → List ℕ) → List ℕ → List Bool → List ℕ
row_text piece_text row_end row = flat_map (λ k. piece_text (piece row k)) (below (div_ceil (length row) 70)) ++ row_end

-- a text n times
abbrev pub repeated : ℕ → List ℕ → List ℕ
repeated n text = flat_map (λ _. text) (below n)

-- a sink that took the text last, since some earlier state
pub record EndsWith {S : Type 0} (took : S → S → List ℕ → Type 0) (now : S) (text : List ℕ) : Type 0 where
  pub first : S
  pub before : List ℕ
  pub whole : took first now (before ++ text)

-- the text of the rows of a picture
abbrev pub rows_text : (List Bool → List ℕ) → List ℕ → Picture → List ℕ
rows_text piece_text row_end p = flat_map (λ y. row_text piece_text row_end (pixel_row p y)) (below p.height)
