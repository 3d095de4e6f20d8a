-- What dots are read as by the rules of a label's symbology.
-- Why: `is_width`, `read_label`, `read_dots`, `ModulesAreRead`: the same sampling and the same rules as of an image that was
-- drawn.
use Rattle.std.specs.Prelude.{◌≡◌, ◌<◌, ℕ, Bool, ◌&&◌, List, [], None, Option, if◌then◌else◌, length, nat_le, slice_index_or}
use Rattle.labelcore.specs.declared.symbology.Symbology.{Symbology}
use Rattle.labelcore.specs.declared.symbology.Symbology.TheVariants.{Qr}
use Rattle.linear.specs.declared.limits.TheConstants.{MAX_MODULES, MIN_MODULES}
use Rattle.labelcore.specs.Steps.{◌>>=◌}
use Rattle.picture.specs.Picture.{Picture, enlargement, with_quiet_zone}
use Rattle.picture.specs.Reading.{Raster, raster, sample}
use Rattle.filter.specs.Reading.{read_modules}
use Rattle.filter.specs.Symbol.{quiet_zone}

-- Whether a symbol of a symbology that is drawn can have so many modules in its first row. A Code 128 has one character for
-- data at least between its start and its check character, and is the shortest row of bars.
abbrev pub is_width : Symbology → ℕ → Bool
is_width Qr width = nat_le width MAX_MODULES
is_width linear width = nat_le MIN_MODULES width && nat_le width MAX_MODULES

-- the full data of a symbol's modules, row by row; those whose first row is no row of a symbol that is drawn are not read
abbrev pub read_label : Symbology → List (List Bool) → Option (List ℕ)
read_label symbology rows =
    if is_width symbology (length (slice_index_or rows 0 [])) then read_modules symbology rows else None

-- the full data of a raster as a symbol of a symbology, in its quiet zone
abbrev pub read_dots : Symbology → ℕ → Raster → Option (List ℕ)
read_dots symbology scale r = sample r scale (quiet_zone symbology) >>= read_label symbology

-- modules in the quiet zone of a symbology, drawn at any scale, are read as these modules
abbrev pub ModulesAreRead : Type 0
ModulesAreRead =
    (symbology : Symbology) (p : Picture) (scale : ℕ) → 0 < scale
    → read_dots symbology scale (raster (enlargement (with_quiet_zone p (quiet_zone symbology)) scale))
    ≡ read_label symbology (raster p).rows
