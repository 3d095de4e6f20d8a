-- The rows of the function patterns, computed for each version.
use Rattle.std.proofs.Common.{◌≡◌, ℕ, ◌<◌, ◌≤◌, ◌^◌, refl, sym, ap, ◌∙◌, arith, Bool, true, not, ◌&&◌}
use Rattle.std.proofs.Common.{Option, None, Some}
use Rattle.std.specs.Prelude.{nat_lt, is_none}
use Rattle.std.specs.Bool.{beq}
use Rattle.std.proofs.lemmas.Bool.{and_parts, ltb-true}
use Rattle.std.proofs.Math.Pow.{pow_mono}
use Rattle.gf256.specs.BinaryPolynomial.{binary_remainder}
use Rattle.qrdata.specs.Versions.{side_of}
use Rattle.qrmatrix.specs.Bits.{bit}
use Rattle.qrmatrix.specs.Private.Drawing.{unmasked_module, HasFunctions}
use Rattle.qrmatrix.specs.Private.FunctionRows.{function_row}
use Rattle.qrmatrix.specs.Functions.{Role, Function, Format, Version, format_bit, role, is_free}
use Rattle.qrmatrix.specs.Information.{version_information}
use Rattle.qrmatrix.specs.declared.function.PatternRow.{PatternRow}
use Rattle.qrmatrix.proofs.Laws.AlignmentLaws.{near_role, near_role_is}
use Rattle.labelcore.proofs.Laws.ComputedLaws.{by_version, found_is, same_found}
use Rattle.qrmatrix.proofs.Laws.RowBitsLaws.{same_beq}
use Rattle.qrmatrix.proofs.Laws.SumLaws.{all_below, all_below_at}

-- the bit of the format information that a role shows
unfoldable pub index_of : Option Role → Option ℕ
index_of (Some (Function b)) = None
index_of (Some (Format i)) = Some i
index_of (Some (Version i)) = None
index_of None = None

-- whether two modules agree: whether a pattern has them, whether they are dark, and which bit of the format information
-- they show
abbrev agree : (a b c d : Bool) (i k : Option ℕ) → Bool
agree a b c d i k = beq a b && (beq c d && same_found i k)

agree_is : (a b c d : Bool) (i k : Option ℕ) → agree a b c d i k ≡ true → (a ≡ b) × ((c ≡ d) × (i ≡ k))
agree_is a b c d i k h =
    let one = and_parts (beq a b) (beq c d && same_found i k) h in
    let two = and_parts (beq c d) (same_found i k) one.1 in
    (same_beq a b one.0, (same_beq c d two.0, found_is i k two.1))

-- whether the bits of a row have the module of a role, and the role shows the bit of the format information there
module_fits : ℕ → ℕ → PatternRow → ℕ → Option Role → Bool
unfolding index_of format_bit version_information
module_fits v y row x r =
    agree (bit row.taken x) (not (is_none r)) (bit row.dark x) (unmasked_module v r) (index_of r)
    (format_bit (side_of v) x y)

-- whether the bits of a row are within the side, and those of a row of a version
row_fits : ℕ → ℕ → PatternRow → Bool
unfolding module_fits near_role
row_fits v y row =
    (nat_lt row.taken (2 ^ side_of v) && nat_lt row.dark (2 ^ side_of v))
    && all_below (side_of v) (λ x. module_fits v y row x (near_role v x y))

rows_fit : (v : ℕ) → 1 ≤ v → v ≤ 10 → all_below (side_of v) (λ y. row_fits v y (function_row v y)) ≡ true
unfolding function_row row_fits version_information binary_remainder
rows_fit = by_version (λ v. all_below (side_of v) (λ y. row_fits v y (function_row v y))) (λ v. true) refl

module _ (v : ℕ) (l : 1 ≤ v) (h : v ≤ 10) (y : ℕ) (ly : y < side_of v) where
  parts : (nat_lt (function_row v y).taken (2 ^ side_of v) && nat_lt (function_row v y).dark (2 ^ side_of v) ≡ true)
      × (all_below (side_of v) (λ x. module_fits v y (function_row v y) x (near_role v x y)) ≡ true)
  unfolding row_fits
  parts =
      and_parts (nat_lt (function_row v y).taken (2 ^ side_of v) && nat_lt (function_row v y).dark (2 ^ side_of v))
      (all_below (side_of v) (λ x. module_fits v y (function_row v y) x (near_role v x y)))
      (all_below_at (side_of v) (λ y. row_fits v y (function_row v y)) (rows_fit v l h) y ly)

  module_is : (x : ℕ) → x < side_of v → (bit (function_row v y).taken x ≡ not (is_none (role v x y)))
      × ((bit (function_row v y).dark x ≡ unmasked_module v (role v x y))
      × (index_of (role v x y) ≡ format_bit (side_of v) x y))
  unfolding module_fits
  module_is x lx =
      let row = function_row v y in
      let r = role v x y in
      agree_is (bit row.taken x) (not (is_none r)) (bit row.dark x) (unmasked_module v r) (index_of r)
      (format_bit (side_of v) x y)
      (ap (module_fits v y row x) (sym (near_role_is v x y))
      ∙ all_below_at (side_of v) (λ x. module_fits v y row x (near_role v x y)) parts.1 x lx)

  pub function_row_is : HasFunctions v y (function_row v y)
  unfolding is_free
  function_row_is =
      let row = function_row v y in
      let narrow = and_parts (nat_lt row.taken (2 ^ side_of v)) (nat_lt row.dark (2 ^ side_of v)) parts.0 in
      record {
        taken = λ x lx. (module_is x lx).0;
        dark = λ x lx. (module_is x lx).1.0;
        narrow_taken = ltb-true row.taken (2 ^ side_of v) narrow.0;
        narrow_dark = ltb-true row.dark (2 ^ side_of v) narrow.1;
      }

  -- the role of a module says which bit of the format information it shows
  pub index_right : (x : ℕ) → x < side_of v → index_of (role v x y) ≡ format_bit (side_of v) x y
  index_right x lx = (module_is x lx).1.1

-- a row of a symbol fits a row of a square
pub fits : (v w : ℕ) → v ≤ 10 → w < 2 ^ side_of v → w < 2 ^ 57
fits v w h l =
    let wide : side_of v ≤ 57 = omega arith in
    let p : 2 ^ side_of v ≤ 2 ^ 57 = pow_mono wide in
    omega arith

-- whether each row leaves the same modules free as the column of its number
is_turned : ℕ → Bool
is_turned v =
    all_below (side_of v) (λ y. all_below (side_of v)
    (λ x. beq (bit (function_row v y).taken x) (bit (function_row v x).taken y)))

turned : (v : ℕ) → 1 ≤ v → v ≤ 10 → is_turned v ≡ true
unfolding is_turned function_row version_information binary_remainder
turned = by_version is_turned (λ v. true) refl

-- a column has the same free modules as the row of its number
pub free_turned : (v : ℕ) → 1 ≤ v → v ≤ 10 → (x y : ℕ) → x < side_of v → y < side_of v
    → is_free v x y ≡ is_free v y x
unfolding is_turned
free_turned v l h x y lx ly =
    let same = same_beq (bit (function_row v y).taken x) (bit (function_row v x).taken y)
    (all_below_at (side_of v) (λ x. beq (bit (function_row v y).taken x) (bit (function_row v x).taken y))
    (all_below_at (side_of v) (λ y. all_below (side_of v)
    (λ x. beq (bit (function_row v y).taken x) (bit (function_row v x).taken y))) (turned v l h) y ly) x lx) in
    let row = (function_row_is v l h y ly).taken x lx in
    let column = (function_row_is v l h x lx).taken y ly in
    grind (arith, same, row, column)
