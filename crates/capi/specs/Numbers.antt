-- What the numbers of a call mean: the constants of the C header.
-- Why: `format_numbered`, `level_numbered`, `symbology_numbered`, `mask_numbered`, `options_numbered`, `code_of`: lib/labels.h.
use Rattle.std.specs.Prelude.{ℕ, ◌==◌, ◌&&◌, nat_le, Bool, true, false, List, Option, None, Some, ok_or, if◌then◌else◌}
use Rattle.std.specs.Prelude.{Result, Ok, Err}
use Rattle.std.specs.List.{list_all}
use Rattle.labelcore.specs.declared.fault.Fault.{Fault}
use Rattle.labelcore.specs.declared.fault.Fault.TheVariants.{NotADigit, WrongNumberOfDigits, WrongCheckDigit}
use Rattle.labelcore.specs.declared.fault.Fault.TheVariants.{DataTooLong, NotAscii, DoesNotFit, NoData}
use Rattle.labelcore.specs.declared.fault.Fault.TheVariants.{LineTooLong, UnknownSymbology, UnknownSetting, BadValue}
use Rattle.labelcore.specs.declared.fault.Fault.TheVariants.{BadEscape}
use Rattle.labelcore.specs.declared.options.Format.{Format}
use Rattle.labelcore.specs.declared.options.Format.TheVariants.{Pbm, Ascii}
use Rattle.labelcore.specs.declared.options.Options.{Options}
use Rattle.labelcore.specs.declared.symbology.Symbology.{Symbology}
use Rattle.labelcore.specs.declared.symbology.Symbology.TheVariants.{Ean13, Ean8, UpcA, Code128, Qr}
use Rattle.labelcore.specs.declared.level.Level.{Level}
use Rattle.labelcore.specs.declared.level.Level.TheVariants.{L, M, Q, H}
use Rattle.capi.specs.declared.numbers.CallOptions.{CallOptions}

-- the format of a picture
abbrev pub format_numbered : ℕ → Option Format
format_numbered n = if n == 0 then Some Pbm else if n == 1 then Some Ascii else None

-- the level of a QR symbol
abbrev pub level_numbered : ℕ → Option Level
level_numbered n =
    if n == 0 then Some L else if n == 1 then Some M else if n == 2 then Some Q else if n == 3 then Some H else None

-- the symbology of a symbol
abbrev pub symbology_numbered : ℕ → Option Symbology
symbology_numbered n =
    if n == 0 then Some Ean13 else if n == 1 then Some Ean8 else if n == 2 then Some UpcA
    else if n == 3 then Some Code128 else if n == 4 then Some Qr else None

-- a truth value
abbrev pub flag_numbered : ℕ → Option Bool
flag_numbered n = if n == 0 then Some false else if n == 1 then Some true else None

-- the mask of a QR symbol; 8 is the one with the lowest penalty
abbrev pub mask_numbered : ℕ → Option ℕ
mask_numbered n = if n == 8 then None else Some n

infixl 10 ◌>>=◌
-- the next step, on what this one found; or the number of this one
abbrev pub ◌>>=◌ : {A B : Type 0} → Result A ℕ → (A → Result B ℕ) → Result B ℕ
(Ok x) >>= f = f x
(Err number) >>= f = Err number

-- a number from `low` to `high`; else `at`
abbrev pub ranged : (low n high at : ℕ) → Result ℕ ℕ
ranged low n high at = if nat_le low n && nat_le n high then Ok n else Err at

-- whether spare words are 0, as a later version may give them a meaning
abbrev pub are_unused : List ℕ → Bool
are_unused words = list_all (λ word. word == 0) words

-- the options that the numbers of a call mean, or the number of the first that is out of its range, as the C header has
-- them, from 1 on: 8 is a spare word
unfoldable pub options_numbered : CallOptions → Result Options ℕ
options_numbered o = do
  format ← ok_or (format_numbered o.format) 1
  scale ← ranged 1 o.scale 8 2
  height ← ranged 1 o.height 500 3
  level ← ok_or (level_numbered o.level) 4
  min_version ← ranged 1 o.min_version 10 5
  mask ← ranged 0 o.mask 8 6
  escapes ← ok_or (flag_numbered o.escapes) 7
  if are_unused o.reserved then Ok (record {
    run = record { format = format; scale = scale; escapes = escapes };
    label = record { height = height; level = level; min_version = min_version; mask = mask_numbered mask };
  }) else Err 8

-- the place of the wrong byte of a refusal, or of the wrong setting, from 1 on; 0 of others
abbrev pub place_of : Fault → ℕ
place_of (NotADigit place) = place
place_of (NotAscii place) = place
place_of (BadEscape place) = place
place_of (UnknownSetting number) = number
place_of (BadValue number) = number
place_of other = 0

-- the code of a refusal: of those without a number of their own here, 0 is done, 1 no room, 2 a bad option, 14 a skipped
-- line, 15 a text of more than one line
abbrev pub code_of : Fault → ℕ
code_of NoData = 4
code_of (NotADigit place) = 5
code_of (WrongNumberOfDigits count) = 6
code_of (WrongCheckDigit given right) = 7
code_of DataTooLong = 8
code_of (NotAscii place) = 9
code_of (DoesNotFit level) = 10
code_of LineTooLong = 11
code_of UnknownSymbology = 3
code_of (UnknownSetting number) = 12
code_of (BadValue number) = 12
code_of (BadEscape place) = 13
