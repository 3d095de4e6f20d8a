-- Modules that are wider than any symbol are not read, and others are read by their rule.
use Rattle.std.proofs.Common.{◌≡◌, ℕ, zero, suc, ◌<◌, ◌≤◌, Bool, true, false, Option, Some, None}
use Rattle.std.proofs.Common.{List, [], length, map, refl, arith, inl, inr}
use Rattle.std.specs.Prelude.{◌⊎◌, ◌&&◌, if◌then◌else◌, nat_le, option_and_then, option_map, slice_index_or}
use Rattle.std.specs.Bool.{beq, then_some}
use Rattle.std.specs.Cmp.Lexicographic.{pointwise}
use Rattle.std.specs.List.{list_all, range_with_len}
use Rattle.std.proofs.lemmas.Bool.{le-leb}
use Rattle.std.proofs.lemmas.Bool.Decides.{nat_tests}
use Rattle.std.proofs.lemmas.List.FromFn.{length-map-range_with_len}
use Rattle.linear_reading.specs.Reading.{read_row}
use Rattle.labelcore.specs.declared.symbology.Symbology.{Symbology}
use Rattle.labelcore.specs.declared.symbology.Symbology.TheVariants.{Qr}
use Rattle.linear.specs.declared.limits.TheConstants.{MAX_MODULES, MIN_MODULES}
use Rattle.picture.specs.Picture.{Picture}
use Rattle.picture.specs.Reading.{common_row, raster}
use Rattle.picture.specs.Text.{pixel_row}
use Rattle.filter.specs.Reading.{read_modules}
use Rattle.reading.specs.Labels.{is_width, read_label}

pub too_wide : (reading : List Bool → Option (List ℕ)) (p : Picture) → MAX_MODULES < p.width
    → option_and_then (read_row reading) (common_row (raster p).rows) ≡ None
too_wide reading p wide = at p.height
  where
    is_long : (nat_le MIN_MODULES (length (pixel_row p 0)) && nat_le (length (pixel_row p 0)) MAX_MODULES) ≡ false
    is_long = let row = length-map-range_with_len (λ x. p.dark x 0) 0 p.width in grind (arith, nat_tests)

    at : (n : ℕ) → option_and_then (read_row reading) (common_row (map (pixel_row p) (range_with_len 0 n))) ≡ None
    at zero = refl
    at (suc n) =
        elim (list_all (pointwise beq (pixel_row p 0)) (map (pixel_row p) (range_with_len 1 n)))
        as (λ b. option_and_then (read_row reading) (then_some b (pixel_row p 0)) ≡ None) [ true ↦ rw is_long refl | false ↦ refl ]

-- the first row of modules that are no wider than the widest symbol
first_short : (p : Picture) → p.width ≤ MAX_MODULES → length (slice_index_or (raster p).rows 0 []) ≤ MAX_MODULES
first_short p short = at p.height
  where
    at : (n : ℕ) → length (slice_index_or (map (pixel_row p) (range_with_len 0 n)) 0 []) ≤ MAX_MODULES
    at zero = omega arith
    at (suc n) = omega (arith, short, length-map-range_with_len (λ x. p.dark x 0) 0 p.width)

-- a square that is no wider than the widest symbol is read by its rule
pub square_if_short : (p : Picture) → p.width ≤ MAX_MODULES → read_label Qr (raster p).rows ≡ read_modules Qr (raster p).rows
square_if_short p short = rw (le-leb _ MAX_MODULES (first_short p short)) refl

-- and so are bars that are no shorter than the shortest
bars_if_wide : (symbology : Symbology) (width : ℕ) → MIN_MODULES ≤ width → width ≤ MAX_MODULES
    → is_width symbology width ≡ true
bars_if_wide Qr width long short = le-leb width MAX_MODULES short
bars_if_wide _ width long short = rw (le-leb MIN_MODULES width long, le-leb width MAX_MODULES short) refl

-- the first row of modules in rows
first_row : (p : Picture) → 0 < p.height → length (slice_index_or (raster p).rows 0 []) ≡ p.width
first_row p some = at p.height some
  where
    at : (n : ℕ) → 0 < n → length (slice_index_or (map (pixel_row p) (range_with_len 0 n)) 0 []) ≡ p.width
    at zero none = absurd (omega (arith, none))
    at (suc n) more = length-map-range_with_len (λ x. p.dark x 0) 0 p.width

pub read_if_width : (symbology : Symbology) (p : Picture) → 0 < p.height → p.width ≤ MAX_MODULES
    → (symbology ≡ Qr) ⊎ (MIN_MODULES ≤ p.width) → read_label symbology (raster p).rows ≡ read_modules symbology (raster p).rows
read_if_width symbology p some short (inl square) = rw square (square_if_short p short)
read_if_width symbology p some short (inr long) = rw (first_row p some, bars_if_wide symbology p.width long short) refl

-- what a rule does not read is not read
pub none_if_unread : (symbology : Symbology) (rows : List (List Bool)) → read_modules symbology rows ≡ None
    → read_label symbology rows ≡ None
none_if_unread symbology rows none =
    elim (is_width symbology (length (slice_index_or rows 0 [])))
    as (λ b. (if b then read_modules symbology rows else None) ≡ None) [ true ↦ none | false ↦ refl ]

-- a test before a rule is one after it
pub test_after : {A B : Type 0} (rule : A → Option B) (it : A) (passes : Bool) → option_and_then rule (then_some passes it)
    ≡ option_and_then (then_some passes) (rule it)
test_after {B = B} rule it passes = at passes (rule it) refl
  where
    at : (b : Bool) (o : Option B) → rule it ≡ o → option_and_then rule (then_some b it) ≡ option_and_then (then_some b) (rule it)
    at true None e = rw e refl
    at true (Some found) e = rw e refl
    at false None e = rw e refl
    at false (Some found) e = rw e refl

pub told_if : {A B : Type 0} (told : A → B) (it : A) (passes : Bool)
    → option_map told (then_some passes it) ≡ then_some passes (told it)
told_if told it true = refl
told_if told it false = refl
