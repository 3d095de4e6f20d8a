-- Modules that are a square, and what they are read as.
use mathlib.Core.Path.{fun_ext}
use Rattle.std.proofs.Common.{◌≡◌, ◌≢◌, ℕ, zero, suc, ◌+◌, ◌<◌, ◌≤◌, refl, sym, ap, ◌∙◌, arith, Bool, true, false, inl, inr}
use Rattle.std.proofs.Common.{◌-◌, ◌/◌, List, Option, [], None, length, map, take, get_or, ◌&&◌, ◌==◌, ◌*◌, ◌^◌, ◌%◌}
use Rattle.std.specs.Prelude.{bit_and, nat_lt, option_and_then, slice_index}
use Rattle.std.specs.Int.{from_bool}
use Rattle.std.specs.List.{list_all, range_with_len}
use Rattle.std.proofs.lemmas.Bool.{cases_eq, cases_lt, eq-eqb, ne_eqb}
use Rattle.std.proofs.lemmas.Bool.Decides.{nat_tests}
use Rattle.std.proofs.lemmas.List.{get_or-take, get_or_past, length-take-le}
use Rattle.std.proofs.lemmas.List.FromFn.{get_or-map-range_with_len, length-map-range_with_len}
use Rattle.qrdata.specs.Reading.{data_in}
use Rattle.qrmatrix.specs.Bits.{bit}
use Rattle.qrmatrix.specs.Reading.{Reading, read_matrix, read_square}
use Rattle.qrmatrix.proofs.Laws.RowBitsLaws.{above_bit, shr_bit}
use Rattle.qrmatrix.specs.Square.{value_at}
use Rattle.qr_reading.proofs.Laws.SymbolReadingLaws.{wide_side}
use Rattle.picture.specs.Picture.{Picture}
use Rattle.picture.specs.Reading.{raster}
use Rattle.picture.specs.Text.{pixel_row}
use Rattle.picture.proofs.Laws.SampleLaws.{value_at-raster}
use Rattle.std.proofs.Math.Pow.{pow_mono}
use Rattle.std.proofs.lemmas.Nat.{pow-add}
use Rattle.std.proofs.lemmas.Nat.Bits.{bit_at-lt, bit_at_cat_high, shr_and_one}
use Rattle.std.specs.Int.{bit_at}
use Rattle.reading.specs.Found.{quarter}
use Rattle.filter.specs.Symbol.{quiet_zone}
use Rattle.reading.specs.Private.{Packs, are_whole_cells, modules_in}
use Rattle.reading.specs.declared.packed.Packed.{Packed}
use Rattle.labelcore.specs.declared.symbology.Symbology.TheVariants.{Qr}
use Rattle.filter.specs.Reading.{read_modules}

-- the data of what modules were read as
abbrev pub symbol_data : Option Reading → Option (List ℕ)
symbol_data symbol = option_and_then (λ symbol. data_in symbol.version symbol.level symbol.codewords) symbol

module _ (p : Picture) where
  -- a pixel of a raster, which is light outside
  pub pixel_at : (x y : ℕ) → value_at (raster p).rows x y ≡ ((nat_lt x p.width && nat_lt y p.height) && p.dark x y)
  pixel_at x y = elim (cases_lt y p.height) [
    | inl high ↦ elim (cases_lt x p.width) [
      | inl wide ↦ value_at-raster p x y wide high ∙ grind (arith, nat_tests)
      | inr past ↦
          ap (λ (row : List Bool). get_or row x false)
          (get_or-map-range_with_len (pixel_row p) 0 p.height y y [] high (omega arith))
          ∙ get_or_past (pixel_row p y) x false (omega (arith, past, length-map-range_with_len (λ x. p.dark x y) 0 p.width))
          ∙ grind (arith, nat_tests)
    ]
    | inr past ↦
        ap (λ (row : List Bool). get_or row x false)
        (get_or_past (raster p).rows y [] (omega (arith, past, length-map-range_with_len (pixel_row p) 0 p.height)))
        ∙ grind (arith, nat_tests)
  ]

  long : length (raster p).rows ≡ p.height
  long = length-map-range_with_len (pixel_row p) 0 p.height

  -- whether rows are as long as some number
  are_long : ℕ → List (List Bool) → Bool
  are_long n rows = list_all (λ row. length row == n) rows

  wide_rows : (n a m : ℕ) → p.width ≡ n → are_long n (map (pixel_row p) (range_with_len a m)) ≡ true
  unfolding are_long
  wide_rows n a zero e = refl
  wide_rows n a (suc m) e =
      rw (length-map-range_with_len (λ x. p.dark x a) 0 p.width, eq-eqb p.width n e) (wide_rows n (a + 1) m e)

  other_rows : (n m : ℕ) → p.width ≢ n → are_long n (map (pixel_row p) (range_with_len 0 (suc m))) ≡ false
  unfolding are_long
  other_rows n m ne = rw (length-map-range_with_len (λ x. p.dark x 0) 0 p.width, ne_eqb p.width n ne) refl

  pub square_read : p.width ≡ p.height → read_modules Qr (raster p).rows ≡ read_square p.width (value_at (raster p).rows)
  unfolding are_long
  square_read e = rw (long, wide_rows p.height 0 p.height e, e) refl

  pub not_square : p.width ≢ p.height → read_modules Qr (raster p).rows ≡ None
  unfolding are_long read_matrix
  not_square ne = at p.height refl
    where
      at : (h : ℕ) → p.height ≡ h → read_modules Qr (raster p).rows ≡ None
      at zero e = rw (long, e) refl
      at (suc h) e =
          let other : p.width ≢ suc h = λ same. ne (same ∙ sym e) in
          rw (long, e, other_rows (suc h) h other) refl

  pub wide_square : 57 < p.width → read_modules Qr (raster p).rows ≡ None
  wide_square wide = elim (cases_eq p.width p.height) [
    | inl e ↦ square_read e ∙ ap symbol_data (wide_side p.width (value_at (raster p).rows) wide)
    | inr ne ↦ not_square ne
  ]

-- ---- words

-- words that have the rows of a square are read as the square
pub square_of_words : (p : Picture) (rows : List ℕ) (n : ℕ) → p.width ≡ n → p.height ≡ n → n ≤ length rows
    → ((x y : ℕ) → y < n → bit (get_or rows y 0) x ≡ (nat_lt x p.width && p.dark x y))
    → read_square (length (take n rows)) (λ x y. bit (slice_index (take n rows) y) x) ≡ read_modules Qr (raster p).rows
square_of_words p rows n wide high long is =
    rw (length-take-le n rows long) (ap (read_square n) (fun_ext (λ x. fun_ext (λ y. same x y))))
    ∙ ap (λ k. read_square k (value_at (raster p).rows)) (sym wide)
    ∙ sym (square_read p (wide ∙ sym high))
  where
    same : (x y : ℕ) → bit (slice_index (take n rows) y) x ≡ value_at (raster p).rows x y
    same x y = elim (cases_lt y n) [
      | inl inside ↦
          ap (λ w. bit w x) (get_or-take n rows y 0 inside) ∙ is x y inside
          ∙ sym (pixel_at p x y ∙ grind (arith, nat_tests))
      | inr past ↦
          ap (λ w. bit w x) (get_or_past (take n rows) y 0 (omega (arith, past, length-take-le n rows long)))
          ∙ above_bit 0 0 x (omega arith) (omega arith) ∙ sym (pixel_at p x y ∙ grind (arith, nat_tests))
    ]

-- one row more in a word of a column
pub column_added : (line : ℕ → Bool) (column b y : ℕ) → b < 2 → (b == 1) ≡ line y
    → ((i : ℕ) → bit column i ≡ (nat_lt i y && line (y - 1 - i)))
    → (i : ℕ) → bit (2 * column + b) i ≡ (nat_lt i (y + 1) && line (y + 1 - 1 - i))
column_added line column b y small is seen zero =
    let low : (2 * column + b) / 2 ^ 0 % 2 ≡ b = omega (arith, small) in
    let last : y + 1 - 1 - 0 ≡ y = omega arith in
    let some : nat_lt 0 (y + 1) ≡ true = grind (arith, nat_tests) in
    ap (λ z. z == 1) low ∙ is ∙ rw (last, some) refl
column_added line column b y small is seen (suc i) =
    let high = bit_at_cat_high column 1 b (suc i) small (omega arith) in
    let same : 2 * column + b ≡ column * 2 ^ 1 + b = omega arith in
    let before : suc i - 1 ≡ i = omega arith in
    let place : y + 1 - 1 - suc i ≡ y - 1 - i = omega arith in
    let test : nat_lt (suc i) (y + 1) ≡ nat_lt i y = grind (arith, nat_tests) in
    ap (λ z. z == 1) (ap (λ n. bit_at n (suc i)) same ∙ high ∙ ap (bit_at column) before) ∙ seen i ∙ rw (place, test) refl

-- the first y rows of a column as a number, the last one lowest
pub record SeesColumn (rows : List ℕ) (x y column : ℕ) : Type 0 where
  pub small : column < 2 ^ y
  pub seen : (i : ℕ) → bit column i ≡ (nat_lt i y && bit (slice_index rows (y - 1 - i)) x)

-- no row is read yet
pub no_row : (rows : List ℕ) (x : ℕ) → SeesColumn rows x 0 0
no_row rows x = record {
  small = omega arith;
  seen = λ i. at i;
}
  where
    at : (i : ℕ) → bit 0 i ≡ (nat_lt i 0 && bit (slice_index rows (0 - 1 - i)) x)
    at i = let none : nat_lt i 0 ≡ false = grind (arith, nat_tests) in
        rw none (above_bit 0 0 i (omega arith) (omega arith))

-- one row more
pub row_seen : (rows : List ℕ) (x y column b : ℕ) → SeesColumn rows x y column
    → b < 2 → (b == 1) ≡ bit (slice_index rows y) x → SeesColumn rows x (y + 1) (2 * column + b)
row_seen rows x y column b sees few is =
    let power = pow-add 2 y 1 in
    record {
      small = omega (arith, sees.small, few, power);
      seen = column_added (λ y. bit (slice_index rows y) x) column b y few is sees.seen;
    }

-- a bit of a row that is moved down
pub moved_bit : (row x k : ℕ) → (bit_and (row / 2 ^ x / 2 ^ k) 1 < 2) × ((bit_and (row / 2 ^ x / 2 ^ k) 1 == 1) ≡ bit row (x + k))
moved_bit row x k =
    let one = shr_and_one (row / 2 ^ x) k in
    let few = bit_at-lt (row / 2 ^ x) k in
    let place : k + x ≡ x + k = omega arith in
    (omega (arith, one, few), ap (λ z. z == 1) one ∙ shr_bit row x k ∙ ap (bit row) place)

-- a sum that fits
pub column_fits : (rows : List ℕ) (x y column : ℕ) → SeesColumn rows x y column → y ≤ 56 → column < 2 ^ 56
column_fits rows x y column sees few = let most : 2 ^ y ≤ 2 ^ 56 = pow_mono few in omega (arith, sees.small, most)

-- a column whose rows are all read
pub column_seen : (rows : List ℕ) (x x' y side column : ℕ) → x' ≡ x → y ≡ side → SeesColumn rows x y column → (i : ℕ)
    → bit column i ≡ (nat_lt i side && bit (slice_index rows (side - 1 - i)) x')
column_seen rows x x' y side column place last sees i = rw (place, ← last) (sees.seen i)

-- a module of a square that is turned
pub turned_module : (p : Picture) (packed : Packed) → Packs p packed → (rows : List ℕ) (x y : ℕ) → y < packed.side
    → bit (slice_index rows y) x ≡ (nat_lt x packed.side && bit (slice_index packed.rows (packed.side - 1 - x)) y)
    → bit (slice_index rows y) x ≡ (nat_lt x packed.side && (quarter p).dark x y)
turned_module p packed packs rows x y inside is = is ∙ elim (cases_lt x packed.side) [
  | inl wide ↦
      let place : p.height - 1 - x ≡ packed.side - 1 - x = ap (λ n. n - 1 - x) packs.high in
      let pixel = packs.modules y (packed.side - 1 - x) (omega (arith, wide)) in
      let test : nat_lt y packed.side ≡ true = grind (arith, nat_tests) in
      rw (pixel, test, place) refl
  | inr past ↦ let test : nat_lt x packed.side ≡ false = grind (arith, nat_tests) in rw test refl
]

-- the modules of a turned picture at scale 1 are those of the picture, turned
pub singles_turned : (p : Picture) (packed : Packed) → are_whole_cells p 1 (quiet_zone Qr) ≡ true
    → Packs (quarter (modules_in p 1 (quiet_zone Qr))) packed
    → (are_whole_cells (quarter p) 1 (quiet_zone Qr) ≡ true) × Packs (modules_in (quarter p) 1 (quiet_zone Qr)) packed
singles_turned p packed whole packs = (
  grind (arith, nat_tests),
  record {
    wide = packs.wide;
    high = packs.high;
    count = packs.count;
    modules = λ x y inside. packs.modules x y inside ∙ elim (cases_lt x packed.side) [
      | inl wide ↦
          let place : (4 + (p.height / 1 - 4 - 4 - 1 - x)) * 1 ≡ p.height - 1 - (4 + x) * 1 =
          omega (arith, wide, packs.wide) in
          ap (λ row. nat_lt x packed.side && p.dark ((4 + y) * 1) row) place
      | inr past ↦ let test : nat_lt x packed.side ≡ false = grind (arith, nat_tests) in rw test refl
    ];
  },
)

-- ---- rows, from the last column on

pub no_bits : (i : ℕ) (b : Bool) → bit 0 i ≡ (nat_lt i 0 && b)
no_bits i b =
    let none : nat_lt i 0 ≡ false = grind (arith, nat_tests) in
    rw none (above_bit 0 0 i (omega arith) (omega arith))

-- a colour as a number
pub dark_as_number : (dark : Bool) (b : ℕ) → b ≡ from_bool dark → (b < 2) × ((b == 1) ≡ dark)
dark_as_number true b e = rw e (omega arith, refl)
dark_as_number false b e = rw e (omega arith, refl)

-- one bit more
pub number_fits : (row b y : ℕ) → row < 2 ^ y → b < 2 → 2 * row + b < 2 ^ (y + 1)
number_fits row b y small few = let power = pow-add 2 y 1 in omega (arith, small, few, power)

-- all columns
pub whole_row : (line : ℕ → Bool) (row place width w : ℕ) → place ≡ w → width ≡ w
    → ((i : ℕ) → bit row i ≡ (nat_lt i place && line (width - 1 - (place - 1 - i))))
    → (x : ℕ) → bit row x ≡ (nat_lt x w && line x)
whole_row line row place width w last e written x = written x ∙ elim (cases_lt x w) [
  | inl inside ↦
      let here : width - 1 - (place - 1 - x) ≡ x = omega (arith, last, e, inside) in
      rw (here, last) refl
  | inr past ↦
      let none : nat_lt x place ≡ false = grind (arith, nat_tests, past, last) in
      let none_later : nat_lt x w ≡ false = grind (arith, nat_tests, past) in
      rw (none, none_later) refl
]
