-- Pictures, by coordinates: x counts columns from the left and y rows from the top, both from 0 (ISO/IEC 15420, 15417
-- and 18004, quiet zones).
-- Why: `Picture`, `bars`, `with_quiet_zone`, `enlargement`: quiet zones of each standard.
-- Why: `symbol_picture`: quiet zones of each standard.
use Rattle.std.specs.Prelude.{◌≡◌, ℕ, ◌+◌, ◌-◌, ◌*◌, ◌/◌, ◌<◌, ◌≤◌, Bool, false, ◌&&◌, List, length, slice_index_or}
use Rattle.std.specs.Prelude.{nat_lt}
use Rattle.std.specs.Prelude.{nat_le}
use Rattle.qrmatrix.specs.Symbol.{Symbol, is_dark}
use Rattle.picture.specs.declared.quiet_zone.QuietZone.{QuietZone}

-- a picture: its width, its height, and whether the pixel at x and y is dark
pub record Picture : Type 0 where
  pub width : ℕ
  pub height : ℕ
  pub dark : ℕ → ℕ → Bool

-- there are `count` rows from the row y on, at least one, and they all have the pixels of y
pub record AreEqualRows (p : Picture) (y count : ℕ) : Type 0 where
  pub some : 0 < count
  pub inside : y + count ≤ p.height
  pub equal : (x k : ℕ) → x < p.width → k < count → p.dark x (y + k) ≡ p.dark x y

-- at most 65,535 columns and rows
abbrev pub Fits : Picture → Type 0
Fits p = (p.width ≤ 65535) × (p.height ≤ 65535)

-- bars of one height, one for each module of the row
abbrev pub bars : List Bool → ℕ → Picture
bars row height = record { width = length row; height = height; dark = λ x y. slice_index_or row x false }

-- a square of modules
abbrev pub symbol_picture : Symbol → Picture
symbol_picture s = record { width = s.side; height = s.side; dark = is_dark s }

-- the quiet zone with these widths
abbrev pub zone_with : ℕ → ℕ → ℕ → ℕ → QuietZone
zone_with left right top bottom = record { left = left; right = right; top = top; bottom = bottom }

-- a picture in a quiet zone, which is light
abbrev pub with_quiet_zone : Picture → QuietZone → Picture
with_quiet_zone p zone = record {
  width = zone.left + p.width + zone.right;
  height = zone.top + p.height + zone.bottom;
  dark = λ x y.
      nat_le zone.left x && nat_lt x (zone.left + p.width) && nat_le zone.top y && nat_lt y (zone.top + p.height)
      && p.dark (x - zone.left) (y - zone.top);
}

-- each pixel drawn as a square of n by n pixels
abbrev pub enlargement : Picture → ℕ → Picture
enlargement p n = record { width = p.width * n; height = p.height * n; dark = λ x y. p.dark (x / n) (y / n) }
