-- What sampling a raster found: each module has the colour of all pixels of its cell.
use Rattle.std.proofs.Common.{◌≡◌, ℕ, ◌+◌, ◌-◌, ◌*◌, ◌/◌, ◌%◌, ◌<◌, ◌≤◌, ◌==◌, ◌∙◌, refl, sym, ap, subst, arith}
use Rattle.std.proofs.Common.{inl, inr}
use Rattle.std.proofs.Common.{Bool, true, false, ◌&&◌, List, [], map, length, Some, get_or, nat_le}
use Rattle.std.specs.Bool.{then_some}
use Rattle.std.specs.Cmp.{booleans_Decides}
use Rattle.std.proofs.lemmas.Bool.{and_parts, cases_lt, eqb-true, leb-true}
use Rattle.std.proofs.lemmas.Bool.Decides.{nat_tests}
use Rattle.std.proofs.lemmas.List.{get_or_past}
use Rattle.std.proofs.lemmas.List.FromFn.{length-map-range_with_len, get_or-map-range_with_len}
use Rattle.std.proofs.lemmas.Option.{none-some, same_Some}
use Rattle.std.proofs.Math.Nat.{div-lt_iff_lt-mul, mod-eq-sub-div-mul, div-mul-le_self}
use Rattle.qrmatrix.specs.Square.{value_at}
use Rattle.labelcore.proofs.Laws.ComputedLaws.{passes}
use Rattle.picture.specs.declared.quiet_zone.QuietZone.{QuietZone}
use Rattle.picture.specs.Reading.{Raster, are_cells, cell, is_module, sample}
use Rattle.picture.specs.Text.{below}

-- how many columns and rows of modules a raster shows
abbrev pub columns_of : Raster → ℕ → QuietZone → ℕ
columns_of r scale zone = r.width / scale - zone.left - zone.right

abbrev pub rows_of : Raster → ℕ → QuietZone → ℕ
rows_of r scale zone = r.height / scale - zone.top - zone.bottom

pub record IsSampled (r : Raster) (scale : ℕ) (zone : QuietZone) (rows : List (List Bool)) : Type 0 where
  pub high : (zone.top + rows_of r scale zone + zone.bottom) * scale ≡ r.height
  pub long : length rows ≡ rows_of r scale zone
  pub wide : (row : ℕ) → row < rows_of r scale zone → length (get_or rows row []) ≡ columns_of r scale zone
  pub shows : (column row x y : ℕ) → column < columns_of r scale zone → row < rows_of r scale zone
      → x / scale ≡ zone.left + column → y / scale ≡ zone.top + row
      → value_at rows column row ≡ value_at r.rows x y

module _ (r : Raster) (scale : ℕ) (zone : QuietZone) (some : 0 < scale) where
  columns : ℕ
  columns = columns_of r scale zone

  height : ℕ
  height = rows_of r scale zone

  module_row : ℕ → List Bool
  module_row row = map (λ column. cell r scale (zone.left + column) (zone.top + row)) (below columns)

  -- a whole number of cells
  whole : (size before after : ℕ) → (size % scale == 0) ≡ true → nat_le (before + after) (size / scale) ≡ true
      → (before + (size / scale - before - after) + after) * scale ≡ size
  whole size before after even fits =
      let all : before + (size / scale - before - after) + after ≡ size / scale =
      omega (arith, leb-true (before + after) (size / scale) fits) in
      ap (λ k. k * scale) all
      ∙ omega (arith, eqb-true (size % scale) 0 even, mod-eq-sub-div-mul size scale, div-mul-le_self size scale)

  -- a pixel of a cell is within the raster
  within : (at cells size : ℕ) → cells * scale ≡ size → at / scale < cells → at < size
  within at cells size e inside = omega (arith, (div-lt_iff_lt-mul some).0 inside, e)

  cell_shown : are_cells r scale zone (r.width / scale) (r.height / scale) ≡ true
      → (zone.left + columns + zone.right) * scale ≡ r.width → (zone.top + height + zone.bottom) * scale ≡ r.height
      → (column row x y : ℕ) → column < columns → row < height → x / scale ≡ zone.left + column
      → y / scale ≡ zone.top + row → cell r scale (zone.left + column) (zone.top + row) ≡ value_at r.rows x y
  unfolding columns height
  cell_shown cells width_is height_is column row x y wide high e f =
      let in_width = within x (zone.left + columns + zone.right) r.width width_is (omega (arith, e, wide)) in
      let in_height = within y (zone.top + height + zone.bottom) r.height height_is (omega (arith, f, high)) in
      let test = passes _ r.width x (passes _ r.height y cells in_height) in_width in
      let inside : is_module zone (r.width / scale) (r.height / scale) (x / scale) (y / scale) ≡ true =
      grind (arith, nat_tests) in
      let same = (booleans_Decides _ _).0 test in
      sym (same ∙ ap (λ b. b && cell r scale (x / scale) (y / scale)) inside ∙ (λ i. cell r scale (e i) (f i)))

  sampled_rows : length (map module_row (below height)) ≡ height
  sampled_rows = length-map-range_with_len module_row 0 height

  sampled_row : (row : ℕ) → row < height → get_or (map module_row (below height)) row [] ≡ module_row row
  sampled_row row high = get_or-map-range_with_len module_row 0 height row row [] high (omega arith)

  pub IsSampled-of : (rows : List (List Bool)) → sample r scale zone ≡ Some rows → IsSampled r scale zone rows
  unfolding sample columns height module_row
  IsSampled-of rows e = at (r.width % scale == 0 && r.height % scale == 0
      && nat_le (zone.left + zone.right) (r.width / scale) && nat_le (zone.top + zone.bottom) (r.height / scale)
      && are_cells r scale zone (r.width / scale) (r.height / scale)) refl e
    where
      at : (b : Bool) → (r.width % scale == 0 && r.height % scale == 0
          && nat_le (zone.left + zone.right) (r.width / scale) && nat_le (zone.top + zone.bottom) (r.height / scale)
          && are_cells r scale zone (r.width / scale) (r.height / scale)) ≡ b
          → then_some b (map module_row (below height)) ≡ Some rows → IsSampled r scale zone rows
      at false is f = absurd (none-some rows f)
      at true is f =
          let cells = and_parts _ (are_cells r scale zone (r.width / scale) (r.height / scale)) is in
          let rest = and_parts _ (nat_le (zone.top + zone.bottom) (r.height / scale)) cells.0 in
          let fits = and_parts _ (nat_le (zone.left + zone.right) (r.width / scale)) rest.0 in
          let even = and_parts (r.width % scale == 0) (r.height % scale == 0) fits.0 in
          let width_is = whole r.width zone.left zone.right even.0 fits.1 in
          let height_is = whole r.height zone.top zone.bottom even.1 rest.1 in
          subst (IsSampled r scale zone) (same_Some (map module_row (below height)) rows f) (record {
            high = height_is;
            long = sampled_rows;
            wide = λ row high.
                ap length (sampled_row row high)
                ∙ length-map-range_with_len (λ column. cell r scale (zone.left + column) (zone.top + row)) 0 columns;
            shows = λ column row x y wide high e f.
                ap (λ l. get_or l column false) (sampled_row row high)
                ∙ get_or-map-range_with_len (λ column. cell r scale (zone.left + column) (zone.top + row)) 0 columns
                column column false wide (omega arith)
                ∙ cell_shown cells.1 width_is height_is column row x y wide high e f;
          })

-- what is outside of modules is light
pub outside : (rows : List (List Bool)) (columns height column row : ℕ) → length rows ≡ height
    → ((row : ℕ) → row < height → length (get_or rows row []) ≡ columns) → columns ≤ column
    → value_at rows column row ≡ false
outside rows columns height column row long wide past = elim (cases_lt row height) [
  | inl inside ↦ get_or_past (get_or rows row []) column false (omega (arith, past, wide row inside))
  | inr below_all ↦ ap (λ l. get_or l column false) (get_or_past rows row [] (omega (arith, long, below_all)))
]
