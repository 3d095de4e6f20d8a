-- Definitions that only the contracts of private functions cite: nothing here has to be believed.
use Rattle.std.specs.Prelude.{◌≡◌, ◌≢◌, ◌⊎◌, ◌<◌, ℕ, ◌+◌, ◌-◌, ◌*◌, ◌/◌, ◌%◌, ◌==◌, ◌&&◌, nat_le, nat_lt, not, Bool, true, false}
use Rattle.std.specs.Prelude.{IfSome, Option, None, if◌then◌else◌, length, slice_index}
use Rattle.std.specs.Bool.{beq}
use Rattle.std.specs.List.{list_all}
use Rattle.labelcore.specs.declared.symbology.Symbology.{Symbology}
use Rattle.labelcore.specs.declared.symbology.Symbology.TheVariants.{Code128, Qr}
use Rattle.filter.specs.Symbol.{quiet_zone}
use Rattle.picture.specs.Picture.{Picture}
use Rattle.picture.specs.Reading.{is_module}
use Rattle.picture.specs.Text.{below}
use Rattle.picture.specs.declared.quiet_zone.QuietZone.{QuietZone}
use Rattle.qrmatrix.specs.Bits.{bit}
use Rattle.qrmatrix.specs.declared.square.TheConstants.{SIDE}
use Rattle.reading.specs.Found.{Found, reading_as}
use Rattle.reading.specs.declared.packed.Packed.{Packed}

-- a row before another is of the same cells as the one before it, or no quiet zone is above and below
abbrev pub IsAgain : ℕ → QuietZone → ℕ → ℕ → Type 0
IsAgain scale zone equal y = (y < equal) × (((zone.top ≡ 0) × (zone.bottom ≡ 0)) ⊎ (y % scale ≢ 0))

-- whether a pixel has the colour of its cell, which is light in the quiet zone
abbrev pub is_of_cell : Picture → ℕ → QuietZone → ℕ → ℕ → Bool
is_of_cell p scale zone x y = beq (p.dark x y)
    (is_module zone (p.width / scale) (p.height / scale) (x / scale) (y / scale)
    && p.dark (x / scale * scale) (y / scale * scale))

-- whether each pixel of a row has the colour of its cell
abbrev pub is_row_of_cells : Picture → ℕ → QuietZone → ℕ → Bool
is_row_of_cells p scale zone y = list_all (λ x. is_of_cell p scale zone x y) (below p.width)

-- whether a picture is a whole number of cells, as many as a quiet zone has at least
abbrev pub are_whole_cells : Picture → ℕ → QuietZone → Bool
are_whole_cells p scale zone =
    p.width % scale == 0 && p.height % scale == 0 && nat_le (zone.left + zone.right) (p.width / scale)
    && nat_le (zone.top + zone.bottom) (p.height / scale)

-- the modules inside the quiet zone
abbrev pub modules_in : Picture → ℕ → QuietZone → Picture
modules_in p scale zone = record {
  width = p.width / scale - zone.left - zone.right;
  height = p.height / scale - zone.top - zone.bottom;
  dark = λ column row. p.dark ((zone.left + column) * scale) ((zone.top + row) * scale);
}

-- the pixels of a row before one are light
abbrev pub IsLightBefore : Picture → ℕ → ℕ → Type 0
IsLightBefore p end y = (x : ℕ) → x < end → p.dark x y ≡ false

-- the rows before one are light
abbrev pub AreLightBefore : Picture → ℕ → Type 0
AreLightBefore p end = (x y : ℕ) → x < p.width → y < end → p.dark x y ≡ false

-- the first dark pixel of a picture, row by row
pub record IsFirst (p : Picture) (x y : ℕ) : Type 0 where
  pub wide : x < p.width
  pub high : y < p.height
  pub dark : p.dark x y ≡ true
  pub before : IsLightBefore p x y
  pub above : AreLightBefore p y

-- whether the second module of each symbol of a symbology is light: that of EAN and UPC
abbrev pub is_second_light : Symbology → Bool
is_second_light Code128 = false
is_second_light Qr = false
is_second_light other = true

-- whether a symbol of a symbology can have its first module at the first dark pixel, behind its quiet zone
abbrev pub can_begin : Picture → ℕ → ℕ → Symbology → Bool
can_begin p x y symbology =
    let zone = quiet_zone symbology in
    let scale = x / zone.left in
    x % zone.left == 0 && y == zone.top * scale && nat_lt (x + scale) p.width
    && not (is_second_light symbology && p.dark (x + scale) y) && nat_lt 0 scale

-- what a picture is read as by the rule of a symbology, at the scale at which its quiet zone ends at the first dark pixel
abbrev pub reading_from : ℕ → Picture → ℕ → ℕ → Symbology → Option Found
reading_from turns p x y symbology =
    if can_begin p x y symbology then reading_as turns p (x / (quiet_zone symbology).left) symbology else None

-- a picture is no square, or a wider one than any symbol
abbrev pub IsNoSquare : Picture → Type 0
IsNoSquare p = (p.width ≢ p.height) ⊎ (SIDE < p.width)

-- words have the pixels of a square
pub record Packs (p : Picture) (packed : Packed) : Type 0 where
  pub wide : p.width ≡ packed.side
  pub high : p.height ≡ packed.side
  pub count : length packed.rows ≡ SIDE
  pub modules : (x y : ℕ) → y < packed.side
      → bit (slice_index packed.rows y) x ≡ (nat_lt x packed.side && p.dark x y)

-- words, if there are any, have the modules of a QR symbol at scale 1
abbrev pub ShowsSingles : Picture → Option Packed → Type 0
ShowsSingles p singles =
    IfSome singles (λ packed. (are_whole_cells p 1 (quiet_zone Qr) ≡ true) × (Packs (modules_in p 1 (quiet_zone Qr)) packed))
