-- What is drawn of a line's data: ISO/IEC 15420, 15417 and 18004.
use Rattle.std.specs.Prelude.{ℕ, Bool, List, Result, Ok, ok_or}
use Rattle.std.specs.Result.{result_map_both}
use Rattle.labelcore.specs.declared.symbology.Symbology.{Symbology}
use Rattle.labelcore.specs.declared.symbology.Symbology.TheVariants.{Ean13, Ean8, UpcA, Code128, Qr}
use Rattle.labelcore.specs.declared.fault.Fault.{Fault}
use Rattle.labelcore.specs.declared.fault.Fault.TheVariants.{DoesNotFit}
use Rattle.labelcore.specs.OptionValues.{LabelValues}
use Rattle.labelcore.specs.Settings.{◌>>=◌}
use Rattle.linear.specs.Digits.{full_digits}
use Rattle.linear.specs.Ean.{ean13_row, ean8_row, upca_row}
use Rattle.linear.specs.Code128.{full_code128, code128_row}
use Rattle.qrdata.specs.Codewords.{symbol_codewords}
use Rattle.qrdata.specs.Fewest.{chosen_segments, chosen_version}
use Rattle.qrdata.specs.Versions.{side_of}
use Rattle.qrmatrix.specs.MaskChoice.{chosen_mask}
use Rattle.qrmatrix.specs.Modules.{module_at}
use Rattle.picture.specs.declared.quiet_zone.QuietZone.{QuietZone}
use Rattle.picture.specs.Picture.{Picture, bars}

-- a symbol: its symbology, its full data (for EAN and UPC with the check digit), and its modules
pub record Symbol : Type 0 where
  pub symbology : Symbology
  pub full : List ℕ
  pub modules : Picture

-- the quiet zone of a symbology
abbrev pub quiet_zone : Symbology → QuietZone
quiet_zone Ean13 = record { left = 11; right = 7; top = 0; bottom = 0 }
quiet_zone Ean8 = record { left = 7; right = 7; top = 0; bottom = 0 }
quiet_zone UpcA = record { left = 9; right = 9; top = 0; bottom = 0 }
quiet_zone Code128 = record { left = 10; right = 10; top = 0; bottom = 0 }
quiet_zone Qr = record { left = 4; right = 4; top = 4; bottom = 4 }

-- the row of full data as bars, as high as the label's options say
abbrev pub linear_symbol : Symbology → (List ℕ → List Bool) → LabelValues → Result (List ℕ) Fault
    → Result Symbol Fault
linear_symbol symbology row label found =
    result_map_both (λ full. record { symbology = symbology; full = full; modules = bars (row full) label.height })
    (λ fault. fault) found

-- the modules of the data in a version, under the mask of the label, or else the first with the lowest penalty
unfoldable pub qr_modules : LabelValues → List ℕ → ℕ → Picture
qr_modules label bytes version =
    let codewords = symbol_codewords version label.level (chosen_segments version bytes) bytes in
    let mask = chosen_mask version label.level label.mask codewords in
    let side = side_of version in
    record { width = side; height = side; dark = module_at version label.level mask codewords }

-- the symbol of the data, or why there is none
unfoldable pub symbol_of : LabelValues → Symbology → List ℕ → Result Symbol Fault
symbol_of label Ean13 bytes = linear_symbol Ean13 ean13_row label (full_digits 12 bytes)
symbol_of label Ean8 bytes = linear_symbol Ean8 ean8_row label (full_digits 7 bytes)
symbol_of label UpcA bytes = linear_symbol UpcA upca_row label (full_digits 11 bytes)
symbol_of label Code128 bytes = linear_symbol Code128 code128_row label (full_code128 bytes)
symbol_of label Qr bytes = do
  version ← ok_or (chosen_version label.min_version label.level bytes) (DoesNotFit label.level)
  Ok (record { symbology = Qr; full = bytes; modules = qr_modules label bytes version })
