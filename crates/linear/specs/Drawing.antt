-- What drawing promises of the row of a symbol (ISO/IEC 15420 and 15417).
use Rattle.std.specs.Prelude.{◌≡◌, ◌≤◌, ℕ, Bool, List, Option, Some, length}
use Rattle.linear.specs.Modules.{IsGuarded}
use Rattle.linear.specs.Scanning.{HasNoGap, HasOneReading}
use Rattle.linear.specs.declared.limits.TheConstants.{MAX_MODULES}

-- the row is that of the full data, is not too long, reads as the full data, and with modules turned, up to the limit,
-- as nothing; it has no second reading, and no gap that a scanner takes for a quiet zone
pub record IsDrawn (row_of : List ℕ → List Bool) (reading : List Bool → Option (List ℕ)) (turned_limit : ℕ)
    (full : List ℕ) (row : List Bool) : Type 0 where
  pub drawn : row ≡ row_of full
  pub fits : length (row_of full) ≤ MAX_MODULES
  pub read : reading (row_of full) ≡ Some full
  pub guarded : IsGuarded turned_limit reading (row_of full)
  pub alone : HasOneReading (row_of full)
  pub whole : HasNoGap (row_of full)
