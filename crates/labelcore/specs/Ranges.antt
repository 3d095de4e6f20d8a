-- The ranges of the options (docs/SPECIFICATION.md, Options).
-- Why: `IsInRange`, `IsMask`: SPECIFICATION, Options.
use Rattle.std.specs.Prelude.{ℕ, ◌≤◌, Option, ⊤, Some, None}

-- a mask is 0 to 7; none means the one with the lowest penalty
abbrev pub IsMask : Option ℕ → Type 0
IsMask None = ⊤
IsMask (Some number) = number ≤ 7

-- the ranges of the options that are numbers
pub record IsInRange (scale height min_version : ℕ) (mask : Option ℕ) : Type 0 where
  pub scale_low : 1 ≤ scale
  pub scale_high : scale ≤ 8
  pub height_low : 1 ≤ height
  pub height_high : height ≤ 500
  pub version_low : 1 ≤ min_version
  pub version_high : min_version ≤ 10
  pub mask_fits : IsMask mask
