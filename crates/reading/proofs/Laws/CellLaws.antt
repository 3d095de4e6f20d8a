-- Pixels of cells, and the modules that they show.
use Rattle.std.proofs.Common.{◌≡◌, ◌≢◌, ℕ, zero, suc, ◌+◌, ◌-◌, ◌*◌, ◌/◌, ◌%◌, ◌<◌, ◌≤◌, ◌⊎◌, Bool, true, false, ◌&&◌}
use Rattle.std.proofs.Common.{refl, sym, ap, ◌∙◌, arith, inl, inr, nat_le, nat_lt, map}
use Rattle.std.specs.Bool.{beq, then_some}
use Rattle.std.specs.List.{list_all, range_with_len}
use Rattle.std.specs.Cmp.{booleans_Decides}
use Rattle.std.proofs.lemmas.Bool.{cases_eq}
use Rattle.std.proofs.lemmas.Bool.Decides.{nat_tests}
use Rattle.std.proofs.lemmas.Nat.{div-add-mod'}
use Rattle.std.proofs.Math.Nat.{div-le_self, div-mul-le_self, div-lt_iff_lt-mul, le-div_iff_mul-le, mul-div_cancel}
use native.Mathlib.Numerals.{unary_clauses}
use Rattle.labelcore.proofs.Laws.ComputedLaws.{always, passes, passes_on, same_tests}
use Rattle.picture.specs.Picture.{Picture}
use Rattle.picture.specs.Reading.{are_cells, cell, is_module, raster, sample}
use Rattle.picture.specs.Text.{below, pixel_row}
use Rattle.picture.specs.declared.quiet_zone.QuietZone.{QuietZone}
use Rattle.picture.proofs.Laws.SampleLaws.{beq-same, map-range, value_at-raster}
use Rattle.reading.specs.Private.{are_whole_cells, is_of_cell, is_row_of_cells, modules_in}

-- a cell that is there begins inside
pub begins : (length scale cell : ℕ) → 0 < scale → cell < length / scale → cell * scale < length
begins length scale cell some inside =
    let whole : suc cell * scale ≤ length = (le-div_iff_mul-le some).0 inside in
    omega (arith, whole, some)

-- there are no more cells than pixels
pub few_cells : (length scale cell : ℕ) → cell < length / scale → cell < length
few_cells length scale cell inside = omega (arith, inside, div-le_self length scale)

-- a number that is not the first of its cell is of the same cell as the one before
pub same_cell : (scale y : ℕ) → 0 < scale → y % scale ≢ 0 → y / scale ≡ (y - 1) / scale
same_cell scale y some inner =
    let parts = div-add-mod' y scale in
    let least : y / scale ≤ (y - 1) / scale = (le-div_iff_mul-le some).1 (omega (arith, parts, inner)) in
    let next : y / scale < y / scale + 1 = omega arith in
    let most : (y - 1) / scale < y / scale + 1 =
    (div-lt_iff_lt-mul some).1 (omega (arith, (div-lt_iff_lt-mul some).0 next)) in
    omega (arith, least, most)

-- numbers that pass do not decide
pub pass_all : (test : ℕ → Bool) (m a n : ℕ) → a + m ≤ n → ((k : ℕ) → a ≤ k → k < a + m → test k ≡ true)
    → list_all test (range_with_len a (n - a)) ≡ list_all test (range_with_len (a + m) (n - (a + m)))
pass_all test zero a n inside each = simp unary_clauses refl
pass_all test (suc m) a n inside each =
    let next : a + 1 + m ≡ a + suc m = omega arith in
    passes_on test a (a + 1) (n - a) (n - (a + 1)) (omega arith) refl (sym (each a (omega arith) (omega arith)))
    ∙ pass_all test m (a + 1) n (omega arith) (λ k after early. each k (omega (arith, after)) (omega (arith, early)))
    ∙ ap (λ b. list_all test (range_with_len b (n - b))) next

twice : (a b : Bool) → (a && (a && b)) ≡ (a && b)
twice true b = refl
twice false b = refl

-- what passes in two parts of a range
parts_pass : (test : ℕ → Bool) (a m k : ℕ)
    → list_all test (range_with_len a (m + k)) ≡ (list_all test (range_with_len a m) && list_all test (range_with_len (a + m) k))
parts_pass test a zero k =
    let none : 0 + k ≡ k = omega arith in let here : a + 0 ≡ a = omega arith in rw (none, here) refl
parts_pass test a (suc m) k =
    let more : suc m + k ≡ suc (m + k) = omega arith in
    let later : a + suc m ≡ a + 1 + m = omega arith in
    rw (more, later) (ap (λ b. test a && b) (parts_pass test (a + 1) m k)
    ∙ and_later (test a) (list_all test (range_with_len (a + 1) m)) (list_all test (range_with_len (a + 1 + m) k)))
  where
    and_later : (a b c : Bool) → (a && (b && c)) ≡ ((a && b) && c)
    and_later a b c = grind arith

-- two tests agree on a range
same_from : (p q : ℕ → Bool) (a m : ℕ) → ((k : ℕ) → a ≤ k → k < a + m → p k ≡ q k)
    → list_all p (range_with_len a m) ≡ list_all q (range_with_len a m)
same_from p q a zero each = refl
same_from p q a (suc m) each = rw (
  each a (omega arith) (omega arith),
  same_from p q (a + 1) m (λ k low high. each k (omega (arith, low)) (omega (arith, high))),
) refl

module _ (p : Picture) (scale : ℕ) (zone : QuietZone) (some : 0 < scale) where
  -- the first pixel of the cell of a pixel is inside
  first_inside : (length x : ℕ) → x < length → x / scale * scale < length
  first_inside length x inside = omega (arith, inside, div-mul-le_self x scale)

  cells_are : are_cells (raster p) scale zone (p.width / scale) (p.height / scale)
      ≡ list_all (is_row_of_cells p scale zone) (below p.height)
  cells_are = same_tests _ (is_row_of_cells p scale zone) p.height (λ y high.
      same_tests _ (λ x. is_of_cell p scale zone x y) p.width (λ x wide.
      rw (
        value_at-raster p x y wide high,
        value_at-raster p (x / scale * scale) (y / scale * scale) (first_inside p.width x wide) (first_inside p.height y high),
      ) refl))

  modules_are : map (λ row. map (λ column. cell (raster p) scale (zone.left + column) (zone.top + row))
      (below (p.width / scale - zone.left - zone.right))) (below (p.height / scale - zone.top - zone.bottom))
      ≡ (raster (modules_in p scale zone)).rows
  modules_are = map-range _ (pixel_row (modules_in p scale zone)) 0 (p.height / scale - zone.top - zone.bottom) (λ row _ high.
      map-range _ (λ column. (modules_in p scale zone).dark column row) 0 (p.width / scale - zone.left - zone.right)
      (λ column _ wide.
      value_at-raster p ((zone.left + column) * scale) ((zone.top + row) * scale)
      (begins p.width scale (zone.left + column) some (omega (arith, wide)))
      (begins p.height scale (zone.top + row) some (omega (arith, high)))))

  -- what is sampled
  pub sample_is : sample (raster p) scale zone
      ≡ then_some (are_whole_cells p scale zone && list_all (is_row_of_cells p scale zone) (below p.height))
      (raster (modules_in p scale zone)).rows
  unfolding sample
  sample_is = rw (cells_are, modules_are) refl

  -- a row with the pixels of the one before has the colours of its cells where that one has: where they are the same
  -- cells, or no quiet zone is above and below
  pub cells_again : (y : ℕ) → 0 < y → y < p.height → p.height % scale ≡ 0
      → ((x : ℕ) → x < p.width → p.dark x y ≡ p.dark x (y - 1))
      → ((zone.top ≡ 0) × (zone.bottom ≡ 0)) ⊎ (y % scale ≢ 0)
      → is_row_of_cells p scale zone (y - 1) ≡ true → is_row_of_cells p scale zone y ≡ true
  cells_again y later high whole same way before =
      same_tests (λ x. is_of_cell p scale zone x y) (λ x. is_of_cell p scale zone x (y - 1)) p.width each ∙ before
    where
      row_within : (k : ℕ) → k ≤ y → k / scale < p.height / scale
      row_within k before = (div-lt_iff_lt-mul some).1 (omega (arith, before, high, whole, div-add-mod' p.height scale))

      -- where a row of cells begins, and no quiet zone is above and below
      first_row : (x : ℕ) → x < p.width → y % scale ≡ 0 → zone.top ≡ 0 → zone.bottom ≡ 0
          → is_of_cell p scale zone x y ≡ is_of_cell p scale zone x (y - 1)
      first_row x wide first above under =
          let column = x / scale in
          let flag = nat_le zone.left column && nat_lt (column + zone.right) (p.width / scale) in
          let flag_is : (k : ℕ) → k ≤ y
          → is_module zone (p.width / scale) (p.height / scale) column (k / scale) ≡ flag =
          λ k early. let inside = row_within k early in rw (above, under) (grind (arith, nat_tests)) in
          let in_first = first_inside p.width x wide in
          let begins_here : y / scale * scale ≡ y = omega (arith, first, div-add-mod' y scale) in
          let passed = (booleans_Decides _ _).0 (passes (λ x. is_of_cell p scale zone x (y - 1)) p.width (column * scale)
          before in_first) in
          let colour : p.dark (column * scale) (y - 1) ≡ (flag && p.dark (column * scale) ((y - 1) / scale * scale)) =
          passed ∙ rw (mul-div_cancel column some, flag_is (y - 1) (omega arith)) refl in
          let before_it = (y - 1) / scale * scale in
          let same_module : (is_module zone (p.width / scale) (p.height / scale) column (y / scale)
          && p.dark (column * scale) (y / scale * scale))
          ≡ (is_module zone (p.width / scale) (p.height / scale) column ((y - 1) / scale) && p.dark (column * scale) before_it) =
          rw (flag_is y (omega arith), begins_here, same (column * scale) in_first, flag_is (y - 1) (omega arith))
          (ap (λ d. flag && d) colour ∙ twice flag (p.dark (column * scale) before_it)) in
          (λ i. beq (same x wide i) (same_module i))

      each : (x : ℕ) → x < p.width → is_of_cell p scale zone x y ≡ is_of_cell p scale zone x (y - 1)
      each x wide = elim (cases_eq (y % scale) 0) [
        | inr inner ↦ rw (same x wide, same_cell scale y some inner) refl
        | inl first ↦ elim way [
          | inl bars ↦ first_row x wide first bars.0 bars.1
          | inr inner ↦ absurd (inner first)
        ]
      ]

  -- ---- a row, cell by cell

  -- the colour of a cell in a row
  abbrev pub colour : ℕ → ℕ → Bool
  colour column y =
      is_module zone (p.width / scale) (p.height / scale) column (y / scale) && p.dark (column * scale) (y / scale * scale)

  -- a cell decides, and those after it
  pub cell_decides : (column y : ℕ) (dark : Bool) → column < p.width / scale → dark ≡ colour column y
      → list_all (λ x. is_of_cell p scale zone x y) (range_with_len (column * scale) (p.width - column * scale))
      ≡ (list_all (λ x. beq (p.dark x y) dark) (range_with_len (column * scale) scale)
      && list_all (λ x. is_of_cell p scale zone x y)
      (range_with_len ((column + 1) * scale) (p.width - (column + 1) * scale)))
  cell_decides column y dark inside is =
      let test = λ (x : ℕ). is_of_cell p scale zone x y in
      let last : suc column * scale ≤ p.width = (le-div_iff_mul-le some).0 inside in
      let size : p.width - column * scale ≡ scale + (p.width - (column + 1) * scale) = omega (arith, last) in
      let place : column * scale + scale ≡ (column + 1) * scale = omega arith in
      rw size (parts_pass test (column * scale) scale (p.width - (column + 1) * scale)
      ∙ rw place (ap (λ b. b && list_all test (range_with_len ((column + 1) * scale) (p.width - (column + 1) * scale)))
      (same_from test (λ x. beq (p.dark x y) dark) (column * scale) scale (λ x low high.
      let cell : x / scale ≡ column = cell_of column x low (omega (arith, high)) in
      rw (cell, is) refl))))
    where
      cell_of : (column x : ℕ) → column * scale ≤ x → x < column * scale + scale → x / scale ≡ column
      cell_of column x low high =
          let least : column ≤ x / scale = (le-div_iff_mul-le some).1 low in
          let most : x / scale < column + 1 = (div-lt_iff_lt-mul some).1 (omega (arith, high)) in
          omega (arith, least, most)

  -- what is left beside the cells is of no module
  pub rest_is : (from y : ℕ) → from ≡ p.width / scale * scale
      → list_all (λ x. beq (p.dark x y) false) (range_with_len from (p.width - from))
      ≡ list_all (λ x. is_of_cell p scale zone x y) (range_with_len from (p.width - from))
  rest_is from y e = same_from (λ x. beq (p.dark x y) false) (λ x. is_of_cell p scale zone x y) from (p.width - from)
      (λ x low high.
      let past : p.width / scale ≤ x / scale = (le-div_iff_mul-le some).1 (omega (arith, low, e)) in
      let outside : is_module zone (p.width / scale) (p.height / scale) (x / scale) (y / scale) ≡ false =
      grind (arith, nat_tests, past) in
      rw outside refl)

  -- a row of modules of one dot: the zone beside them is light
  pub singles_row : (y : ℕ) → scale ≡ 1
      → (nat_le zone.top (y / scale) && nat_lt (y / scale + zone.bottom) (p.height / scale)) ≡ true
      → zone.left + zone.right ≤ p.width
      → (list_all (λ x. beq (p.dark x y) false) (range_with_len 0 zone.left)
      && list_all (λ x. beq (p.dark x y) false) (range_with_len (p.width - zone.right) zone.right))
      ≡ list_all (λ x. is_of_cell p scale zone x y) (range_with_len 0 p.width)
  singles_row y one inner fits =
      let test = λ (x : ℕ). is_of_cell p scale zone x y in
      let light = λ (x : ℕ). beq (p.dark x y) false in
      let middle = p.width - zone.left - zone.right in
      let parts : p.width ≡ zone.left + (middle + zone.right) = omega (arith, fits) in
      let place : 0 + zone.left + middle ≡ p.width - zone.right = omega (arith, fits) in
      let first : list_all test (range_with_len 0 zone.left) ≡ list_all light (range_with_len 0 zone.left) =
      same_from test light 0 zone.left (λ x low high. outside x (grind (arith, nat_tests, high, one))) in
      let last : list_all test (range_with_len (p.width - zone.right) zone.right)
      ≡ list_all light (range_with_len (p.width - zone.right) zone.right) =
      same_from test light (p.width - zone.right) zone.right
      (λ x low high. outside x (grind (arith, nat_tests, low, one, fits))) in
      let inside : list_all test (range_with_len (0 + zone.left) middle) ≡ true =
      same_from test (λ x. true) (0 + zone.left) middle (λ x low high. own x
      (grind (arith, nat_tests, low, high, one, inner, fits))) ∙ always (0 + zone.left) middle in
      sym (ap (λ n. list_all test (range_with_len 0 n)) parts
      ∙ parts_pass test 0 zone.left (middle + zone.right)
      ∙ ap (λ b. list_all test (range_with_len 0 zone.left) && b) (parts_pass test (0 + zone.left) middle zone.right)
      ∙ rw (first, inside, place, last) refl)
    where
      outside : (x : ℕ) → is_module zone (p.width / scale) (p.height / scale) (x / scale) (y / scale) ≡ false
          → is_of_cell p scale zone x y ≡ beq (p.dark x y) false
      outside x e = rw e refl

      own : (x : ℕ) → is_module zone (p.width / scale) (p.height / scale) (x / scale) (y / scale) ≡ true
          → is_of_cell p scale zone x y ≡ true
      own x e =
          let column : x / scale * scale ≡ x = grind (arith, one) in
          let row : y / scale * scale ≡ y = grind (arith, one) in
          rw (e, column, row) (beq-same (p.dark x y))
