-- Rows of a picture that are known to be equal.
use Rattle.std.proofs.Common.{◌≡◌, ℕ, ◌+◌, ◌-◌, ◌<◌, Bool, suc, List, map, ap, sym}
use Rattle.std.proofs.Common.{◌∙◌, arith}
use Rattle.std.specs.List.{list_all, range_with_len}
use Rattle.std.specs.Bool.{beq, then_some}
use Rattle.std.specs.Cmp.Lexicographic.{pointwise}
use Rattle.std.proofs.lemmas.List.Folds.{list_all-map}
use Rattle.picture.specs.Picture.{AreEqualRows, Picture}
use Rattle.picture.proofs.Laws.SampleLaws.{map-range, pointwise-same}
use Rattle.picture.specs.Reading.{common_row, raster}
use Rattle.picture.specs.Text.{pixel_row}
use Rattle.reading.proofs.Laws.CellLaws.{pass_all}

-- the row that all rows are equal to is the first
first_row : (p : Picture) (m : ℕ) (row : List Bool) → p.height ≡ suc m → row ≡ pixel_row p 0
    → common_row (raster p).rows
    ≡ then_some (list_all (λ y. pointwise beq row (pixel_row p y)) (range_with_len 1 m)) row
first_row p m row high is =
    ap (λ (n : ℕ). common_row (map (pixel_row p) (range_with_len 0 n))) high
    ∙ ap (λ (b : Bool). then_some b (pixel_row p 0)) (list_all-map (pointwise beq (pixel_row p 0)) (pixel_row p)
    (range_with_len 1 m))
    ∙ ap (λ (r : List Bool). then_some (list_all (λ y. pointwise beq r (pixel_row p y)) (range_with_len 1 m)) r) (sym is)

pixel_row-equal : (p : Picture) (y count : ℕ) → AreEqualRows p 0 count → y < count → pixel_row p y ≡ pixel_row p 0
pixel_row-equal p y count are high = map-range (λ x. p.dark x y) (λ x. p.dark x 0) 0 p.width (λ x _ wide.
    let inside : x < p.width = omega (arith, wide) in
    let place : 0 + y ≡ y = omega arith in
    ap (p.dark x) (sym place) ∙ are.equal x y inside high)

-- the rows after those that are known to equal the first decide
pub rest_decides : (p : Picture) (count : ℕ) (row : List Bool) → 0 < p.height → row ≡ pixel_row p 0 → AreEqualRows p 0 count
    → common_row (raster p).rows
    ≡ then_some (list_all (λ y. pointwise beq row (pixel_row p y)) (range_with_len count (p.height - count))) row
rest_decides p count row some is are =
    let test = λ (y : ℕ). pointwise beq row (pixel_row p y) in
    let last : 1 + (count - 1) ≡ count = omega (arith, are.some) in
    first_row p (p.height - 1) row (omega (arith, some)) is
    ∙ ap (λ (b : Bool). then_some b row) (pass_all test (count - 1) 1 p.height (omega (arith, last, are.inside)) (λ y _ before.
    rw (pixel_row-equal p y count are (omega (arith, before, are.some)), is) (pointwise-same (pixel_row p 0)))
    ∙ ap (λ (a : ℕ). list_all test (range_with_len a (p.height - a))) last)
