-- No dots are read by two symbologies, nor at two scales. The first module is dark, and left of it and above it is the quiet
-- zone: so its place is the same for both. The second module of EAN and UPC is light: so theirs is as wide as the first of
-- the other, or a whole number of times as wide, which no two quiet zones allow.
use Rattle.std.proofs.Common.{◌≡◌, ◌≢◌, ℕ, ◌+◌, ◌-◌, ◌*◌, ◌/◌, ◌%◌, ◌<◌, ◌≤◌, refl, sym, ap, ◌∙◌, arith, Bool, true, false}
use Rattle.std.proofs.Common.{List, [], ◌∷◌, Option, Some, get_or, length, inl, inr, ◌&&◌}
use Rattle.std.specs.Prelude.{◌==◌, find, option_and_then, slice_index_or}
use Rattle.std.specs.Bool.{then_some}
use Rattle.std.specs.Cmp.{booleans_Decides}
use Rattle.std.proofs.lemmas.Bool.{and_parts, both_ways, cases_eq, cases_lt, false≢true}
use Rattle.std.proofs.lemmas.Bool.Decides.{nat_tests}
use Rattle.std.proofs.lemmas.Option.{none-some, option_and_then_some, same_Some}
use Rattle.std.proofs.lemmas.Nat.{div-add-mod', div-mul-add}
use Rattle.std.proofs.Math.Nat.{le-div_iff_mul-le, mul-add-mod_self_right, mul-div_cancel}
use Rattle.labelcore.specs.declared.symbology.Symbology.{Symbology}
use Rattle.labelcore.specs.declared.symbology.Symbology.TheVariants.{Ean13, Ean8, UpcA, Code128, Qr}
use Rattle.linear.specs.Code128Reading.{read_code128}
use Rattle.linear.specs.Ean.{ean13_row}
use Rattle.linear.specs.EanReading.{read_ean13, read_ean8, read_upca}
use Rattle.linear.proofs.Laws.OneReadingLaws.{code128_bounded, ean13_bounded, ean8_bounded, upca_bounded}
use Rattle.linear.proofs.Laws.ReadRowLaws.{ean13_drawn, ean8_drawn, if_some, upca_drawn}
use Rattle.qrdata.specs.Reading.{data_in}
use Rattle.qrdata.specs.Versions.{side_of}
use Rattle.qrmatrix.specs.Functions.{finder, fixed_module, role}
use Rattle.qrmatrix.specs.Reading.{read_matrix, read_square}
use Rattle.qrmatrix.specs.Square.{value_at}
use Rattle.qrmatrix.proofs.Laws.FoundLaws.{IsReading-of}
use Rattle.qrmatrix.proofs.Laws.ReadingLaws.{fixed_at, inside_from}
use Rattle.labelcore.proofs.Laws.ComputedLaws.{passes}
use Rattle.picture.specs.Reading.{Raster, are_cells, cell, common_row, is_module, sample}
use Rattle.picture.proofs.Laws.PixelLaws.{IsSampled-of, columns_of, outside, rows_of}
use Rattle.filter.specs.Reading.{read_modules}
use Rattle.filter.specs.Symbol.{quiet_zone}
use Rattle.filter.proofs.Laws.FoundLaws.{common_rows}
use Rattle.reading.specs.Found.{symbologies}
use Rattle.reading.specs.Labels.{is_width, read_dots, read_label}
use Rattle.reading.specs.Private.{is_second_light}
use Rattle.reading.proofs.Laws.CellLaws.{begins, same_cell}

-- ---- the first modules

-- the first of rows that are read by the rule of a row
first_read : (reading : List Bool → Option (List ℕ)) (rows : List (List Bool)) (full : List ℕ)
    → option_and_then reading (common_row rows) ≡ Some full → reading (get_or rows 0 []) ≡ Some full
first_read reading rows full read =
    option_and_then_some reading (common_row rows) full read (λ row is after.
    let lines = common_rows rows row is in rw (lines.1 0 lines.0) after)

square_dark : (n : ℕ) (m : ℕ → ℕ → Bool) (full : List ℕ) → read_square n m ≡ Some full → m 0 0 ≡ true
unfolding role finder fixed_module
square_dark n m full read =
    option_and_then_some (λ symbol. data_in symbol.version symbol.level symbol.codewords) (read_matrix n m) full read
    (λ r is after.
    let reading = IsReading-of n m r is in
    let some : 0 < side_of reading.version = omega arith in
    fixed_at reading.version reading.format.0 reading.format.1 m reading.functions 0 0
    (inside_from (side_of reading.version) 0 0 some some))

corner_dark : (symbology : Symbology) (rows : List (List Bool)) (full : List ℕ)
    → read_modules symbology rows ≡ Some full → value_at rows 0 0 ≡ true
corner_dark Ean13 rows full read = (ean13_bounded (get_or rows 0 []) full (first_read read_ean13 rows full read)).first
corner_dark Ean8 rows full read = (ean8_bounded (get_or rows 0 []) full (first_read read_ean8 rows full read)).first
corner_dark UpcA rows full read = (upca_bounded (get_or rows 0 []) full (first_read read_upca rows full read)).first
corner_dark Code128 rows full read = (code128_bounded (get_or rows 0 []) full (first_read read_code128 rows full read)).first
corner_dark Qr rows full read =
    option_and_then_some (λ n. read_square n (value_at rows)) (then_some _ (length rows)) full read (λ n is after.
    square_dark n (value_at rows) full after)

ean13_light : (full : List ℕ) → get_or (ean13_row full) 1 false ≡ false
ean13_light [] = refl
ean13_light (first ∷ rest) = refl

second_light : (symbology : Symbology) → is_second_light symbology ≡ true → (rows : List (List Bool)) (full : List ℕ)
    → read_modules symbology rows ≡ Some full → value_at rows 1 0 ≡ false
second_light Ean13 is rows full read =
    ap (λ (l : List Bool). get_or l 1 false) (ean13_drawn (get_or rows 0 []) full (first_read read_ean13 rows full read)).0
    ∙ ean13_light full
second_light Ean8 is rows full read =
    ap (λ (l : List Bool). get_or l 1 false) (ean8_drawn (get_or rows 0 []) full (first_read read_ean8 rows full read)).0
second_light UpcA is rows full read =
    ap (λ (l : List Bool). get_or l 1 false) (upca_drawn (get_or rows 0 []) full (first_read read_upca rows full read)).0
second_light Code128 is rows full read = absurd (false≢true is)
second_light Qr is rows full read = absurd (false≢true is)

-- ---- quiet zones

-- no two have as many modules on the left, and none more than eleven
pub zone_is : (a : Symbology) → (find (λ b. (quiet_zone b).left == (quiet_zone a).left) symbologies ≡ Some a)
    × (0 < (quiet_zone a).left) × ((quiet_zone a).left ≤ 11) × (0 < (quiet_zone a).right)
zone_is Ean13 = (refl, omega arith, omega arith, omega arith)
zone_is Ean8 = (refl, omega arith, omega arith, omega arith)
zone_is UpcA = (refl, omega arith, omega arith, omega arith)
zone_is Code128 = (refl, omega arith, omega arith, omega arith)
zone_is Qr = (refl, omega arith, omega arith, omega arith)

same_zone : (a b : Symbology) → (quiet_zone a).left ≡ (quiet_zone b).left → a ≡ b
same_zone a b e = same_Some a b (sym (zone_is a).0
    ∙ ap (λ n. find (λ c. (quiet_zone c).left == n) symbologies) e ∙ (zone_is b).0)

-- none is a multiple of that of EAN or UPC
once : (a : Symbology) (m n : ℕ) → is_second_light a ≡ true → (quiet_zone a).left * m ≡ n → 0 < n → n ≤ 11 → m ≡ 1
once Ean13 m n is e some most = omega arith
once Ean8 m n is e some most = omega arith
once UpcA m n is e some most = omega arith
once Code128 m n is e some most = absurd (false≢true is)
once Qr m n is e some most = absurd (false≢true is)

-- ---- what is read

-- the modules that are sampled, and the place of the first one, which is dark
pub record IsRead (symbology : Symbology) (r : Raster) (scale : ℕ) : Type 0 where
  pub some : 0 < scale
  pub rows : List (List Bool)
  pub is : sample r scale (quiet_zone symbology) ≡ Some rows
  pub columns : 0 < columns_of r scale (quiet_zone symbology)
  pub lines : 0 < rows_of r scale (quiet_zone symbology)
  pub wide : (quiet_zone symbology).left * scale < r.width
  pub high : (quiet_zone symbology).top * scale < r.height
  pub dark : value_at r.rows ((quiet_zone symbology).left * scale) ((quiet_zone symbology).top * scale) ≡ true
  pub light : is_second_light symbology ≡ true → value_at rows 1 0 ≡ false

pub is_read : (symbology : Symbology) (r : Raster) (scale : ℕ) (full : List ℕ) → 0 < scale
    → read_dots symbology scale r ≡ Some full → IsRead symbology r scale
is_read symbology r scale full some read =
    let zone = quiet_zone symbology in
    option_and_then_some (read_label symbology) (sample r scale zone) full read (λ rows is after.
    let read = (if_some (is_width symbology (length (slice_index_or rows 0 []))) _ full after).1 in
    let dark = corner_dark symbology rows full read in
    let sampled = IsSampled-of r scale zone some rows is in
    let columns : 0 < columns_of r scale zone = elim (cases_lt 0 (columns_of r scale zone)) [
      | inl has ↦ has
      | inr none ↦ absurd (both_ways _ (outside rows (columns_of r scale zone) (rows_of r scale zone) 0 0 sampled.long
          sampled.wide none) dark)
    ] in
    let lines : 0 < rows_of r scale zone = elim (cases_lt 0 (rows_of r scale zone)) [
      | inl has ↦ has
      | inr none ↦ absurd (both_ways _ (outside rows 0 0 0 0 (omega (arith, none, sampled.long))
          (λ row inside. absurd (omega (arith, inside))) (omega arith)) dark)
    ] in
    record {
      some = some;
      rows = rows;
      is = is;
      columns = columns;
      lines = lines;
      wide = begins r.width scale zone.left some (omega (arith, columns));
      high = begins r.height scale zone.top some (omega (arith, lines));
      dark = sym (sampled.shows 0 0 (zone.left * scale) (zone.top * scale) columns lines
          (mul-div_cancel zone.left some ∙ omega arith) (mul-div_cancel zone.top some ∙ omega arith)) ∙ dark;
      light = λ ean. second_light symbology ean rows full read;
    })

pub scale_within : (r : Raster) (symbology : Symbology) (scale : ℕ) (full : List ℕ) → 0 < scale
    → read_dots symbology scale r ≡ Some full → (scale ≤ r.width) × (scale ≤ r.height)
scale_within r symbology scale full some read =
    let it = is_read symbology r scale full some read in
    let broad : 1 * scale ≤ r.width = (le-div_iff_mul-le some).0 (omega (arith, it.columns)) in
    let tall : 1 * scale ≤ r.height = (le-div_iff_mul-le some).0 (omega (arith, it.lines)) in
    (omega (arith, broad), omega (arith, tall))

then_true : {A : Type 0} (b : Bool) (x y : A) → then_some b x ≡ Some y → b ≡ true
then_true true x y e = refl
then_true false x y e = absurd (none-some y e)

module _ {a : Symbology} {r : Raster} {s : ℕ} (it : IsRead a r s) where
  -- the colour of a pixel, by its cell
  colour : ℕ → ℕ → Bool
  colour column row = is_module (quiet_zone a) (r.width / s) (r.height / s) column row && cell r s column row

  colour_is : (x y : ℕ) → x < r.width → y < r.height → value_at r.rows x y ≡ colour (x / s) (y / s)
  unfolding sample colour
  colour_is x y wide high =
      let cells = (and_parts _ (are_cells r s (quiet_zone a) (r.width / s) (r.height / s)) (then_true _ _ it.rows it.is)).1 in
      (booleans_Decides _ _).0 (passes _ r.width x (passes _ r.height y cells high) wide)

  outside_light : (x y : ℕ) → x < r.width → y < r.height
      → is_module (quiet_zone a) (r.width / s) (r.height / s) (x / s) (y / s) ≡ false → value_at r.rows x y ≡ false
  unfolding colour
  outside_light x y wide high out = colour_is x y wide high ∙ rw out refl

  -- what is dark is neither left of the first module nor above it
  pub after_first : (x y : ℕ) → x < r.width → y < r.height → value_at r.rows x y ≡ true
      → ((quiet_zone a).left * s ≤ x) × ((quiet_zone a).top * s ≤ y)
  unfolding colour
  after_first x y wide high dark =
      let inside = (and_parts _ (cell r s (x / s) (y / s)) (sym (colour_is x y wide high) ∙ dark)).0 in
      ((le-div_iff_mul-le it.some).0 (grind (arith, nat_tests)), (le-div_iff_mul-le it.some).0 (grind (arith, nat_tests)))

  -- the module right of the first one is light in EAN and UPC
  pub second_wide : ((quiet_zone a).left + 1) * s < r.width
  second_wide = begins r.width s ((quiet_zone a).left + 1) it.some (omega (arith, it.columns, (zone_is a).3))

  pub second_is : is_second_light a ≡ true → value_at r.rows (((quiet_zone a).left + 1) * s) ((quiet_zone a).top * s) ≡ false
  second_is ean =
      let zone = quiet_zone a in
      let column : (zone.left + 1) * s / s ≡ zone.left + 1 = mul-div_cancel (zone.left + 1) it.some in
      elim (cases_lt 1 (columns_of r s zone)) [
        | inl more ↦ sym ((IsSampled-of r s zone it.some it.rows it.is).shows 1 0 ((zone.left + 1) * s) (zone.top * s) more
            it.lines column (mul-div_cancel zone.top it.some ∙ omega arith)) ∙ it.light ean
        | inr none ↦ outside_light ((zone.left + 1) * s) (zone.top * s) second_wide it.high
            (rw column (grind (arith, nat_tests)))
      ]

-- the first module of both is at the same place
same_corner : {r : Raster} {a b : Symbology} {s u : ℕ} → IsRead a r s → IsRead b r u
    → ((quiet_zone a).left * s ≡ (quiet_zone b).left * u) × ((quiet_zone a).top * s ≡ (quiet_zone b).top * u)
same_corner is too =
    let first = after_first is _ _ too.wide too.high too.dark in
    let other = after_first too _ _ is.wide is.high is.dark in
    (omega (arith, first.0, other.0), omega (arith, first.1, other.1))

-- dots that are read as a symbol of EAN or UPC are read as no other
one_ean : {r : Raster} {a b : Symbology} {s u : ℕ} → is_second_light a ≡ true → IsRead a r s → IsRead b r u → (a ≡ b) × (s ≡ u)
one_ean {r = r} {a = a} {b = b} {s = s} {u = u} ean is too = elim (cases_eq (s % u) 0) [
  | inl whole ↦
      let m = s / u in
      let size : m * u ≡ s = omega (arith, whole, div-add-mod' s u) in
      let left : (quiet_zone a).left * m * u ≡ (quiet_zone b).left * u =
      omega arith ∙ ap (λ n. (quiet_zone a).left * n) size ∙ (same_corner is too).0 in
      let times : (quiet_zone a).left * m ≡ (quiet_zone b).left =
      sym (mul-div_cancel ((quiet_zone a).left * m) too.some) ∙ ap (λ n. n / u) left
      ∙ mul-div_cancel (quiet_zone b).left too.some in
      let one : m ≡ 1 = once a m _ ean times (zone_is b).1 (zone_is b).2 in
      (same_zone a b (omega (arith, rw one at times)), omega (arith, rw one at size))
  | inr inner ↦
      let y = (quiet_zone a).top * s in
      let start = (quiet_zone a).left * s in
      let x = ((quiet_zone a).left + 1) * s in
      let from : x ≡ (quiet_zone b).left * u + s = omega (arith, (same_corner is too).0) in
      let not_first : x % u ≢ 0 = λ e. inner (sym (ap (λ n. n % u) from
      ∙ mul-add-mod_self_right (quiet_zone b).left u s) ∙ e) in
      let before : x - 1 < r.width = omega (arith, second_wide is) in
      let last : x - 1 ≡ (quiet_zone a).left * s + (s - 1) = omega (arith, is.some) in
      let module_is : (x - 1) / s ≡ start / s =
      ap (λ n. n / s) last ∙ div-mul-add (quiet_zone a).left s (s - 1) (omega (arith, is.some))
      ∙ sym (mul-div_cancel (quiet_zone a).left is.some) in
      let dark : value_at r.rows (x - 1) y ≡ true =
      colour_is is (x - 1) y before is.high ∙ ap (λ column. colour is column (y / s)) module_is
      ∙ sym (colour_is is start y is.wide is.high) ∙ is.dark in
      let same : value_at r.rows x y ≡ value_at r.rows (x - 1) y =
      colour_is too x y (second_wide is) is.high ∙ ap (λ column. colour too column (y / u)) (same_cell u x too.some not_first)
      ∙ sym (colour_is too (x - 1) y before is.high) in
      absurd (both_ways _ (second_is is ean) (same ∙ dark))
]

other_way : {a b : Symbology} {s u : ℕ} → (a ≡ b) × (s ≡ u) → (b ≡ a) × (u ≡ s)
other_way e = (sym e.0, sym e.1)

one : {r : Raster} {s u : ℕ} (a b : Symbology) → IsRead a r s → IsRead b r u → (a ≡ b) × (s ≡ u)
one Ean13 b is too = one_ean refl is too
one Ean8 b is too = one_ean refl is too
one UpcA b is too = one_ean refl is too
one Code128 Ean13 is too = other_way (one_ean refl too is)
one Code128 Ean8 is too = other_way (one_ean refl too is)
one Code128 UpcA is too = other_way (one_ean refl too is)
one Code128 Code128 is too = (refl, omega (arith, (same_corner is too).0))
one Code128 Qr is too = absurd (omega (arith, too.some, (same_corner is too).1))
one Qr Ean13 is too = other_way (one_ean refl too is)
one Qr Ean8 is too = other_way (one_ean refl too is)
one Qr UpcA is too = other_way (one_ean refl too is)
one Qr Code128 is too = absurd (omega (arith, is.some, (same_corner is too).1))
one Qr Qr is too = (refl, omega (arith, (same_corner is too).0))

pub one_reading : (r : Raster) (a b : Symbology) (s u : ℕ) (full more : List ℕ) → 0 < s → 0 < u
    → read_dots a s r ≡ Some full → read_dots b u r ≡ Some more → (a ≡ b) × (s ≡ u)
one_reading r a b s u full more some also read too =
    one a b (is_read a r s full some read) (is_read b r u more also too)
