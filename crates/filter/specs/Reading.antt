-- What an image is read as: pbm(5), and the readings of ISO/IEC 15420, 15417 and 18004 with no correction.
-- Why: `cut`, `pixels`, `modules_in`, `read_modules`, `read_image`: "read back by the standards' reading rules".
use Rattle.std.specs.Prelude.{ℕ, ◌==◌, Bool, List, length, Option}
use Rattle.std.specs.List.{list_all}
use Rattle.std.specs.Bool.{then_some}
use Rattle.labelcore.specs.declared.options.Format.{Format}
use Rattle.labelcore.specs.declared.options.Format.TheVariants.{Pbm, Ascii}
use Rattle.labelcore.specs.declared.symbology.Symbology.{Symbology}
use Rattle.labelcore.specs.declared.symbology.Symbology.TheVariants.{Ean13, Ean8, UpcA, Code128, Qr}
use Rattle.labelcore.specs.Steps.{◌>>=◌}
use Rattle.linear.specs.EanReading.{read_ean13, read_ean8, read_upca}
use Rattle.linear.specs.Code128Reading.{read_code128}
use Rattle.qrmatrix.specs.Reading.{read_square}
use Rattle.qrmatrix.specs.Square.{value_at}
use Rattle.picture.specs.Reading.{Raster, pbm_files, ascii_files, pbm_pixels, ascii_pixels, sample, common_row}
use Rattle.filter.specs.Symbol.{quiet_zone}

-- a stream of images, cut into its images
abbrev pub cut : Format → List ℕ → List (List ℕ)
cut Pbm stream = pbm_files stream
cut Ascii stream = ascii_files stream

-- the pixels of an image
abbrev pub pixels : Format → List ℕ → Option Raster
pixels Pbm text = pbm_pixels text
pixels Ascii text = ascii_pixels text

-- the full data of a symbol's modules, row by row: the rows of a linear symbol are equal, a QR symbol is a square
abbrev pub read_modules : Symbology → List (List Bool) → Option (List ℕ)
read_modules Ean13 rows = common_row rows >>= read_ean13
read_modules Ean8 rows = common_row rows >>= read_ean8
read_modules UpcA rows = common_row rows >>= read_upca
read_modules Code128 rows = common_row rows >>= read_code128
read_modules Qr rows =
    then_some (list_all (λ row. length row == length rows) rows) (length rows) >>= λ n. read_square n (value_at rows)

-- the modules that an image shows, row by row; the reader knows the format, the scale and the symbology
unfoldable pub modules_in : Format → ℕ → Symbology → List ℕ → Option (List (List Bool))
modules_in format scale symbology text = pixels format text >>= λ image. sample image scale (quiet_zone symbology)

-- the full data of an image
unfoldable pub read_image : Format → ℕ → Symbology → List ℕ → Option (List ℕ)
read_image format scale symbology text = modules_in format scale symbology text >>= read_modules symbology
