-- The modules of a drawn symbol, sampled again.
use Rattle.std.proofs.Common.{◌≡◌, ℕ, suc, zero, ◌+◌, ◌-◌, ◌*◌, ◌/◌, ◌<◌, ◌≤◌, Bool, true, false, ◌&&◌, List, [], ◌∷◌}
use Rattle.std.proofs.Common.{length, map, refl, ap, sym, ◌∙◌, arith, get_or, nat_le, zero-add, nat_lt}
use Rattle.std.specs.Bool.{beq}
use Rattle.std.specs.Cmp.Lexicographic.{pointwise}
use Rattle.std.specs.List.{list_all, range_with_len}
use Rattle.std.proofs.lemmas.List.FromFn.{get_or-map-range_with_len, fill_by_all, get_or-range_with_len}
use Rattle.std.proofs.lemmas.List.FromFn.{length-range_with_len}
use Rattle.std.proofs.lemmas.List.Elements.{All-from_get_or}
use Rattle.std.proofs.lemmas.List.Sums.{list_all-from_AllPass}
use Rattle.std.proofs.lemmas.Bool.Decides.{nat_tests}
use Rattle.std.proofs.lemmas.Nat.{mul-add-lt}
use Rattle.std.proofs.lemmas.Bool.{le-leb}
use Rattle.std.proofs.Math.Nat.{div-lt_iff_lt-mul, mul-div_cancel, mul-mod_left}
use Rattle.picture.specs.Picture.{Picture, bars, with_quiet_zone, enlargement}
use Rattle.picture.specs.declared.quiet_zone.QuietZone.{QuietZone}
use Rattle.picture.specs.ReadingLaws.{PixelsAreThePicture, ModulesAreSampled, BarsAreOneRow}
use Rattle.picture.specs.Text.{below, pixel_row}
use Rattle.picture.specs.Reading.{raster, cell, are_cells, sample}

-- the pixels of a raster are those of its picture
pub value_at-raster : PixelsAreThePicture
value_at-raster p x y wide high =
    ap (λ (row : List Bool). get_or row x false) (get_or-map-range_with_len (pixel_row p) 0 p.height y y [] high
    (omega arith))
    ∙ get_or-map-range_with_len (λ x. p.dark x y) 0 p.width x x false wide (omega arith)

-- what holds of the numbers below n holds of all of them
list_all-below : (f : ℕ → Bool) (n : ℕ) → ((k : ℕ) → k < n → f k ≡ true) → list_all f (below n) ≡ true
list_all-below f n each = list_all-from_AllPass f (below n) (All-from_get_or (λ k. f k ≡ true) (below n) 0 (λ i h.
    let inside : i < n = omega (arith, h, length-range_with_len 0 n) in
    rw (get_or-range_with_len 0 n i 0 inside, zero-add i) (each i inside)))

pub map-range : {X : Type 0} (f g : ℕ → X) (a n : ℕ) → ((k : ℕ) → a ≤ k → k < a + n → f k ≡ g k)
    → map f (range_with_len a n) ≡ map g (range_with_len a n)
map-range f g a zero each = refl
map-range f g a (suc n) each = rw (
  each a (omega arith) (omega arith),
  map-range f g (a + 1) n
      (λ k low high. each k (omega arith) (omega arith)),
) refl

pub beq-same : (b : Bool) → beq b b ≡ true
beq-same true = refl
beq-same false = refl

cell-enlargement : (p : Picture) (scale column row : ℕ) → column < p.width → row < p.height → 0 < scale
    → cell (raster (enlargement p scale)) scale column row ≡ p.dark column row
cell-enlargement p scale column row wide high some =
    value_at-raster (enlargement p scale) (column * scale) (row * scale)
    (omega (arith, mul-add-lt column scale 0 p.width wide some))
    (omega (arith, mul-add-lt row scale 0 p.height high some))
    ∙ rw (mul-div_cancel column some, mul-div_cancel row some) refl

-- a test of a picture in its quiet zone, by the picture within
nat_lt-add : (a b c : ℕ) → nat_lt (a + c) (b + c) ≡ nat_lt a b
nat_lt-add a b c = grind (arith, nat_tests)

inside_twice : (inside dark : Bool) → beq (inside && dark) (inside && (inside && dark)) ≡ true
inside_twice true dark = beq-same dark
inside_twice false dark = refl

-- a module of a picture in its quiet zone
pub dark-with_quiet_zone : (p : Picture) (zone : QuietZone) (column row : ℕ) → column < p.width → row < p.height
    → (with_quiet_zone p zone).dark (zone.left + column) (zone.top + row) ≡ p.dark column row
dark-with_quiet_zone p zone column row wide high =
    let x : (zone.left + column) - zone.left ≡ column = omega arith in
    let y : (zone.top + row) - zone.top ≡ row = omega arith in
    rw (x, y) (grind (arith, nat_tests))

are_cells-enlargement : (p : Picture) (zone : QuietZone) (scale : ℕ) → 0 < scale
    → are_cells (raster (enlargement (with_quiet_zone p zone) scale)) scale zone (with_quiet_zone p zone).width
    (with_quiet_zone p zone).height ≡ true
are_cells-enlargement p zone scale some =
    let q = with_quiet_zone p zone in
    list_all-below _ (q.height * scale) (λ y high. list_all-below _ (q.width * scale) (λ x wide.
    let column = x / scale in
    let row = y / scale in
    let in_column : column < q.width = (div-lt_iff_lt-mul some).1 wide in
    let in_row : row < q.height = (div-lt_iff_lt-mul some).1 high in
    rw (
      value_at-raster (enlargement q scale) x y wide high,
      cell-enlargement q scale column row in_column in_row some,
      nat_lt-add column (zone.left + p.width) zone.right,
      nat_lt-add row (zone.top + p.height) zone.bottom,
    ) (inside_twice (nat_le zone.left column && nat_lt column (zone.left + p.width) && nat_le zone.top row
    && nat_lt row (zone.top + p.height)) (p.dark (column - zone.left) (row - zone.top)))))

sampled : (p : Picture) (zone : QuietZone) (scale : ℕ) → 0 < scale →
    map (λ row. map (λ column. cell (raster (enlargement (with_quiet_zone p zone) scale)) scale (zone.left + column)
    (zone.top + row)) (below p.width)) (below p.height) ≡ map (pixel_row p) (below p.height)
sampled p zone scale some = map-range _ (pixel_row p) 0 p.height (λ row _ high.
    map-range _ (λ x. p.dark x row) 0 p.width (λ column _ wide.
    cell-enlargement (with_quiet_zone p zone) scale (zone.left + column) (zone.top + row)
    (omega arith) (omega arith) some
    ∙ dark-with_quiet_zone p zone column row (omega arith) (omega arith)))

-- what was drawn is sampled
pub sample-raster : ModulesAreSampled
unfolding sample
sample-raster p zone scale some =
    let w = (with_quiet_zone p zone).width in
    let h = (with_quiet_zone p zone).height in
    let columns : w - zone.left - zone.right ≡ p.width = omega arith in
    let rows : h - zone.top - zone.bottom ≡ p.height = omega arith in
    rw (
      mul-div_cancel w some,
      mul-div_cancel h some,
      mul-mod_left w scale,
      mul-mod_left h scale,
      le-leb (zone.left + zone.right) w (omega arith),
      le-leb (zone.top + zone.bottom) h (omega arith),
      are_cells-enlargement p zone scale some,
      columns,
      rows,
      sampled p zone scale some,
    ) refl

pub pointwise-same : (row : List Bool) → pointwise beq row row ≡ true
pointwise-same [] = refl
pointwise-same (b ∷ row) = rw (beq-same b, pointwise-same row) refl

pub pixel_row_of_bars : (row : List Bool) (height y : ℕ) → pixel_row (bars row height) y ≡ row
pixel_row_of_bars row height y = sym (fill_by_all (λ x. get_or row x false) row (length row) false refl (λ k h. refl))

same_rows : (row : List Bool) (height : ℕ) (ys : List ℕ)
    → list_all (pointwise beq row) (map (pixel_row (bars row height)) ys) ≡ true
same_rows row height [] = refl
same_rows row height (y ∷ ys) = rw (pixel_row_of_bars row height y, pointwise-same row, same_rows row height ys) refl

-- bars of some height have one row
pub common_row-bars : BarsAreOneRow
common_row-bars row zero some = absurd (omega arith)
common_row-bars row (suc n) some =
    rw (pixel_row_of_bars row (suc n) 0, same_rows row (suc n) (range_with_len (0 + 1) n)) refl
