-- The modules of a symbol read back, without an image: for a caller who draws them in his own way.
-- Why: `IsReadInModules`: the readings of ISO/IEC 15420, 15417 and 18004 with no correction, as `IsRead` has them.
use Rattle.std.specs.Prelude.{◌≡◌, ◌⊎◌, Bool, List, Some, None}
use Rattle.picture.specs.Reading.{raster}
use Rattle.filter.specs.Damage.{AreClose}
use Rattle.filter.specs.OneReading.{IsAlone}
use Rattle.filter.specs.Reading.{read_modules}
use Rattle.filter.specs.Symbol.{Symbol}

-- the modules read as the symbol's full data, with a few of them turned as nothing else, and in no other way
pub record IsReadInModules (symbol : Symbol) : Type 0 where
  pub full : read_modules symbol.symbology (raster symbol.modules).rows ≡ Some symbol.full
  pub guarded : (damaged : List (List Bool)) → AreClose symbol.symbology (raster symbol.modules).rows damaged
      → (read_modules symbol.symbology damaged ≡ None) ⊎ (read_modules symbol.symbology damaged ≡ Some symbol.full)
  pub alone : IsAlone symbol.symbology (raster symbol.modules).rows
