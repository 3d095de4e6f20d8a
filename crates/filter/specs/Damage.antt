-- What a damaged image is read as: the full data or nothing, unless more is wrong than the check digits, the check
-- characters and the error correction codewords are for.
-- Why: `turned_limit`, `AreClose`, `IsNotMisread`, `IsGuarded`: ISO/IEC 15420 and 15417, the check digit and the check
-- character; 18004, 7.5.1, the errors that are detected, and annex C.
-- Why: `pixel_limit`, `AreNear`, `IsGuardedInPixels`: the same, in pixels; a cell of two colours is not read.
use Rattle.std.specs.Prelude.{◌≡◌, ◌≤◌, ◌<◌, ◌⊎◌, ℕ, ◌+◌, ◌*◌, Bool, List, length, min, None, Some, IfSome}
use Rattle.std.specs.List.{AllZip}
use Rattle.std.specs.Option.{option_map_or}
use Rattle.labelcore.specs.declared.options.Format.{Format}
use Rattle.labelcore.specs.declared.symbology.Symbology.{Symbology}
use Rattle.labelcore.specs.declared.symbology.Symbology.TheVariants.{Ean13, Ean8, UpcA, Code128, Qr}
use Rattle.linear.specs.Modules.{turned_modules}
use Rattle.qrdata.specs.Versions.{ec_codewords_per_block}
use Rattle.qrmatrix.specs.Reading.{AgreeBut, read_matrix}
use Rattle.qrmatrix.specs.Square.{value_at}
use Rattle.picture.specs.Reading.{Raster}
use Rattle.filter.specs.Reading.{modules_in, pixels, read_image}
use Rattle.filter.specs.Symbol.{Symbol}

-- How many modules may be turned in each row of a linear symbol, or in a QR symbol that has these modules: of this, as
-- many as each of its blocks has codewords for error correction, and 13 at most.
abbrev pub turned_limit : Symbology → List (List Bool) → ℕ
turned_limit Ean13 rows = 1
turned_limit Ean8 rows = 3
turned_limit UpcA rows = 3
turned_limit Code128 rows = 1
turned_limit Qr rows =
    option_map_or (λ symbol. min 13 (ec_codewords_per_block symbol.version symbol.level))
    (read_matrix (length rows) (value_at rows)) 0

-- modules of the same size, of which no more are turned
abbrev pub AreClose : Symbology → (rows other : List (List Bool)) → Type 0
AreClose Qr rows other =
    (length other ≡ length rows) × ((turned : List (ℕ × ℕ)) × (length turned ≤ turned_limit Qr rows)
    × AgreeBut turned (value_at rows) (value_at other))
AreClose linear rows other = AllZip (λ row other_row. (length other_row ≡ length row)
    × (turned_modules row other_row ≤ turned_limit linear rows)) rows other

-- an image is read as nothing or as the full data
abbrev pub IsNotMisread : Format → ℕ → List ℕ → Symbol → Type 0
IsNotMisread format scale image symbol =
    (read_image format scale symbol.symbology image ≡ None)
    ⊎ (read_image format scale symbol.symbology image ≡ Some symbol.full)

-- However an image is damaged, it is not misread, unless it shows modules of another size, or ones of which more than a
-- few are turned.
abbrev pub IsGuarded : Format → ℕ → List ℕ → Symbol → Type 0
IsGuarded format scale image symbol =
    (damaged : List ℕ) (rows : List (List Bool)) → modules_in format scale symbol.symbology image ≡ Some rows
    → IfSome (modules_in format scale symbol.symbology damaged) (AreClose symbol.symbology rows)
    → IsNotMisread format scale damaged symbol

-- the pixels of one module more than may be turned: a module of a QR symbol is a square, and a bar is as high as the
-- image
abbrev pub pixel_limit : Symbology → ℕ → Raster → List (List Bool) → ℕ
pixel_limit Qr scale image rows = (turned_limit Qr rows + 1) * (scale * scale)
pixel_limit linear scale image rows = (turned_limit linear rows + 1) * (scale * image.height)

-- an image of the same size, with fewer wrong pixels, wherever they are
abbrev pub AreNear : Symbology → ℕ → Raster → List (List Bool) → Raster → Type 0
AreNear symbology scale shown rows seen =
    (seen.width ≡ shown.width) × (seen.height ≡ shown.height) × ((wrong : List (ℕ × ℕ))
    × (length wrong < pixel_limit symbology scale shown rows)
    × AgreeBut wrong (value_at shown.rows) (value_at seen.rows))

-- However an image is damaged, it is not misread, unless it shows pixels of another size, or so many wrong ones.
abbrev pub IsGuardedInPixels : Format → ℕ → List ℕ → Symbol → Type 0
IsGuardedInPixels format scale image symbol =
    (damaged : List ℕ) (shown : Raster) (rows : List (List Bool)) → pixels format image ≡ Some shown
    → modules_in format scale symbol.symbology image ≡ Some rows
    → IfSome (pixels format damaged) (AreNear symbol.symbology scale shown rows)
    → IsNotMisread format scale damaged symbol
