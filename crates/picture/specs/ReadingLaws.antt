-- What reading finds in the texts and the pixels of pictures (pbm(5), the plain format).
use Rattle.std.specs.Prelude.{◌≡◌, ℕ, ◌^◌, ◌<◌, All, Option, Some, List, ◌++◌, Bool, map, flat_map}
use Rattle.labelcore.specs.Lines.{ended_text}
use Rattle.qrmatrix.specs.Square.{value_at}
use Rattle.picture.specs.declared.quiet_zone.QuietZone.{QuietZone}
use Rattle.picture.specs.Picture.{Picture, bars, with_quiet_zone, enlargement}
use Rattle.picture.specs.Reading.{Raster, raster, pbm_files, pbm_pixels, ascii_files, ascii_pixels, sample, common_row}
use Rattle.picture.specs.Text.{pbm_text, ascii_text}

-- a picture of at least one column, whose width and height are below 2^64
pub record IsDrawable (p : Picture) : Type 0 where
  pub some : 0 < p.width
  pub wide : p.width < 2 ^ 64
  pub high : p.height < 2 ^ 64

-- each text of such a picture is read as the picture's pixels
abbrev pub TextsAreRead : (Picture → List ℕ) → (List ℕ → Option Raster) → (Picture → Type 0) → Type 0
TextsAreRead text pixels IsSuch = (p : Picture) → IsSuch p → pixels (text p) ≡ Some (raster p)

-- a stream of texts of such pictures is cut into these texts; with a beginning of more texts after them, it is cut up to
-- its last line feed into these texts, and what the beginning is cut into up to its own
pub record FilesAreTexts (text : Picture → List ℕ) (files : List ℕ → List (List ℕ)) (IsSuch : Picture → Type 0)
    : Type 0 where
  pub whole : (ps : List Picture) → All IsSuch ps → files (flat_map text ps) ≡ map text ps
  pub begins : (ps more : List Picture) (begun rest : List ℕ) → All IsSuch ps → flat_map text more ≡ begun ++ rest
      → files (ended_text (flat_map text ps ++ begun)) ≡ map text ps ++ files (ended_text begun)

-- modules in their quiet zone, each drawn as a square of pixels, are sampled as these modules
abbrev pub ModulesAreSampled : Type 0
ModulesAreSampled =
    (p : Picture) (zone : QuietZone) (scale : ℕ) → 0 < scale
    → sample (raster (enlargement (with_quiet_zone p zone) scale)) scale zone ≡ Some (raster p).rows

-- a pixel that is read is dark where the picture is, and light where it is light
abbrev pub PixelsAreThePicture : Type 0
PixelsAreThePicture =
    (p : Picture) (x y : ℕ) → x < p.width → y < p.height → value_at (raster p).rows x y ≡ p.dark x y

-- the rows of bars are all one row
abbrev pub BarsAreOneRow : Type 0
BarsAreOneRow = (row : List Bool) (height : ℕ) → 0 < height → common_row (raster (bars row height)).rows ≡ Some row

-- all of these, for both kinds of text
pub record ReadingLaws : Type 0 where
  pub pbm_files : FilesAreTexts pbm_text pbm_files IsDrawable
  pub ascii_files : FilesAreTexts ascii_text ascii_files (λ p. 0 < p.width)
  pub pbm_texts : TextsAreRead pbm_text pbm_pixels IsDrawable
  pub ascii_texts : TextsAreRead ascii_text ascii_pixels (λ p. 0 < p.height)
  pub sampled : ModulesAreSampled
  pub pixels : PixelsAreThePicture
  pub one_row : BarsAreOneRow
