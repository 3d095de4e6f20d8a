-- In what other way an image could be read, and is not.
-- Why: `HoldsNoBars`, `IsAlone`: a scanner is told neither the symbology nor the direction, nor where a symbol begins.
use Rattle.std.specs.Prelude.{◌≡◌, ◌<◌, ◌+◌, Bool, false, List, [], ◌∷◌, ◌++◌, length, replicate, IfSome, None, Some}
use Rattle.labelcore.specs.declared.symbology.Symbology.{Symbology}
use Rattle.labelcore.specs.declared.symbology.Symbology.TheVariants.{Qr}
use Rattle.linear.specs.Scanning.{HasNoGap, HasNoPart, HasOneReading}
use Rattle.linear.specs.declared.limits.TheConstants.{MIN_MODULES}
use Rattle.qrmatrix.specs.Reading.{IsUpright}
use Rattle.qrmatrix.specs.Square.{value_at}
use Rattle.picture.specs.Reading.{common_row}
use Rattle.filter.specs.Reading.{read_modules}
use Rattle.filter.specs.Symbol.{quiet_zone}

-- Nothing in a line of modules, with the quiet zone of its symbology on either side, is read as a symbol that may be drawn:
-- what is read at all has no data, and is shorter than any row of bars.
abbrev pub HoldsNoBars : List Bool → Type 0
HoldsNoBars line =
    (symbology : Symbology) (before part after : List Bool)
    → line ≡ before ++ (replicate (quiet_zone symbology).left false
    ++ (part ++ (replicate (quiet_zone symbology).right false ++ after)))
    → IfSome (read_modules symbology (part ∷ [])) (λ full. (full ≡ []) × (length part < MIN_MODULES))

-- A linear symbol is not read as a QR symbol, and its row has no second reading, no gap and no part that is read. A QR
-- symbol is not read as a linear one, in a mirror, or turned, and no line as long as its image is wide holds a bar code.
abbrev pub IsAlone : Symbology → List (List Bool) → Type 0
IsAlone Qr rows =
    (common_row rows ≡ None) × IsUpright (length rows) (value_at rows)
    × ((line : List Bool) → length line ≡ 4 + length rows + 4 → HoldsNoBars line)
IsAlone linear rows =
    (read_modules Qr rows ≡ None)
    × ((row : List Bool) → common_row rows ≡ Some row → HasOneReading row × HasNoGap row × HasNoPart row)
