-- Images read back.
-- Why: `IsRead`, `AreRead`, `HoldsImages`, `ReadsBack`: each image reads as its line's full data, damaged as nothing
-- else, and in no other way.
use Rattle.std.specs.Prelude.{◌≡◌, ℕ, List, [], ◌++◌, Some, IfSome}
use Rattle.std.specs.List.{AllZip}
use Rattle.labelcore.specs.declared.options.Format.{Format}
use Rattle.labelcore.specs.Lines.{ended_text}
use Rattle.labelcore.specs.OptionValues.{RunValues}
use Rattle.filter.specs.Damage.{IsGuarded, IsGuardedInPixels}
use Rattle.filter.specs.OneReading.{IsAlone}
use Rattle.filter.specs.Output.{Event, Images, drawn_symbols, sent}
use Rattle.filter.specs.Reading.{cut, modules_in, read_image}
use Rattle.filter.specs.Symbol.{Symbol}

-- the image reads as the symbol's full data, with a few modules or pixels wrong as nothing else, and in no other way
pub record IsRead (format : Format) (scale : ℕ) (image : List ℕ) (symbol : Symbol) : Type 0 where
  pub full : read_image format scale symbol.symbology image ≡ Some symbol.full
  pub guarded : IsGuarded format scale image symbol
  pub guarded_in_pixels : IsGuardedInPixels format scale image symbol
  pub alone : IfSome (modules_in format scale symbol.symbology image) (IsAlone symbol.symbology)

-- there is one image for each symbol, in order, and it reads as the symbol's full data
unfoldable pub AreRead : Format → ℕ → List (List ℕ) → List Symbol → Type 0
AreRead format scale images symbols = AllZip (IsRead format scale) images symbols

-- a stream, which ends with `begun`, is cut up to its last line feed into images that are read as the full data of
-- these symbols, and into what `begun` is cut into up to its own; with nothing begun, all of it is cut into the images
pub record HoldsImages (format : Format) (scale : ℕ) (symbols : List Symbol) (stream begun : List ℕ) : Type 0 where
  pub images : List (List ℕ)
  pub parts : cut format (ended_text stream) ≡ images ++ cut format (ended_text begun)
  pub whole : begun ≡ [] → cut format stream ≡ images
  pub read : AreRead format scale images symbols

-- What a sink holds of a script: the images that a front of it sends, and whatever beginning of what is sent later. The
-- images of the front are cut from what it holds up to its last line feed, and read.
abbrev pub ReadsBack : RunValues → List Event → Type 0
ReadsBack run script = (front later : List Event) (begun rest : List ℕ) → script ≡ front ++ later
    → sent run Images later ≡ begun ++ rest
    → HoldsImages run.format run.scale (drawn_symbols front) (sent run Images front ++ begun) begun
