-- What reading modules found: a row that all rows are, or the codewords of a square.
use Rattle.filter.proofs.Laws.Words.{◌≡◌, ◌<◌, ◌==◌, ◌∙◌, ℕ, Bool, true, false, List, [], ◌∷◌, Option, Some, refl, sym}
use Rattle.filter.proofs.Laws.Words.{arith, length, get_or, option_and_then, Qr}
use Rattle.std.specs.Bool.{beq, then_some}
use Rattle.std.specs.Cmp.{bool_eq_equiv}
use Rattle.std.specs.Cmp.Lexicographic.{pointwise}
use Rattle.std.specs.List.{list_all}
use Rattle.std.proofs.lemmas.Bool.{and_from}
use Rattle.std.proofs.lemmas.Cmp.{lists_equiv}
use Rattle.std.proofs.lemmas.List.Sums.{AllPass-from_list_all}
use Rattle.std.proofs.lemmas.Option.{none-some, option_and_then_some, same_Some}
use Rattle.linear.proofs.Laws.ReadRowLaws.{same_modules-same}
use Rattle.picture.specs.Reading.{common_row}
use Rattle.qrdata.specs.Reading.{data_in}
use Rattle.qrmatrix.specs.Reading.{Reading, read_matrix}
use Rattle.qrmatrix.specs.Square.{value_at}
use Rattle.filter.specs.Reading.{read_modules}

-- each row is the common one, and there is one
pub common_rows : (rows : List (List Bool)) (row : List Bool) → common_row rows ≡ Some row
    → (0 < length rows) × ((y : ℕ) → y < length rows → get_or rows y [] ≡ row)
common_rows [] row e = absurd (none-some row e)
common_rows (first ∷ rows) row e = at (list_all (pointwise beq first) rows) refl e
  where
    at : (b : Bool) → list_all (pointwise beq first) rows ≡ b → then_some b first ≡ Some row
        → (0 < length (first ∷ rows))
        × ((y : ℕ) → y < length (first ∷ rows) → get_or (first ∷ rows) y [] ≡ row)
    at false is f = absurd (none-some row f)
    at true is f = (
      omega arith,
      λ y inside. sym (same_modules-same first (get_or (first ∷ rows) y [])
          (AllPass-from_list_all (pointwise beq first) (first ∷ rows)
          (and_from _ _ ((lists_equiv bool_eq_equiv).refl first) is) y [] inside)) ∙ same_Some first row f,
    )

-- the data of a reading
abbrev pub data_of : Reading → Option (List ℕ)
data_of r = data_in r.version r.level r.codewords

pub square_read : (rows : List (List Bool)) (full : List ℕ) → read_modules Qr rows ≡ Some full
    → (r : Reading) × (read_matrix (length rows) (value_at rows) ≡ Some r) × (data_of r ≡ Some full)
square_read rows full read = at (list_all (λ row. length row == length rows) rows) read
  where
    at : (b : Bool) → option_and_then (λ n. option_and_then data_of (read_matrix n (value_at rows)))
        (then_some b (length rows)) ≡ Some full
        → (r : Reading) × (read_matrix (length rows) (value_at rows) ≡ Some r) × (data_of r ≡ Some full)
    at false e = absurd (none-some full e)
    at true e =
        option_and_then_some data_of (read_matrix (length rows) (value_at rows)) full e (λ r is found. (r, is, found))
