-- What a parse that succeeds has checked.
use Rattle.std.specs.Prelude.{◌≡◌, ◌≤◌, ◌⊎◌, ℕ, IfSome, codes}
use Rattle.std.specs.Str.Parse.{IsNumeral, without_leading_plus}
use Rattle.clap.specs.Words.{Text, one_text}
use Rattle.clap.specs.declared.parser.matches.Found.{Found}
use Rattle.command.specs.CommandLine.{number_written}

-- a numeral from low to high
abbrev pub IsNumberIn : ℕ → ℕ → Text → Type 0
IsNumberIn low high text =
    IsNumeral 10 (without_leading_plus text) × (low ≤ number_written text) × (number_written text ≤ high)

-- an option that was given holds a number from low to high
abbrev pub HoldsNumber : ℕ → ℕ → Text → Found → Type 0
HoldsNumber low high id f = IfSome (one_text f id) (IsNumberIn low high)

-- each number is in its range, and the switch is on or off
pub record HoldsValues (f : Found) : Type 0 where
  pub scale : HoldsNumber 1 8 (codes "scale") f
  pub height : HoldsNumber 1 500 (codes "height") f
  pub min_version : HoldsNumber 1 10 (codes "min-version") f
  pub mask : HoldsNumber 0 7 (codes "mask") f
  pub escapes : IfSome (one_text f (codes "escapes")) (λ t. (t ≡ codes "true") ⊎ (t ≡ codes "false"))
