-- Definitions that only the contracts of private functions cite: nothing here has to be believed.
use Rattle.std.specs.Prelude.{◌≡◌, List, Result, Ok, Err, Some, ℕ}
use Rattle.labelcore.specs.declared.fault.Fault.{Fault}
use Rattle.labelcore.specs.declared.symbology.Symbology.{Symbology}
use Rattle.labelcore.specs.OptionValues.{LabelValues, RunValues}
use Rattle.picture.specs.Picture.{Picture, enlargement, with_quiet_zone}
use Rattle.picture.specs.declared.quiet_zone.QuietZone.{QuietZone}
use Rattle.qrdata.specs.Codewords.{symbol_codewords}
use Rattle.qrdata.specs.Fewest.{chosen_segments, chosen_version}
use Rattle.qrdata.specs.Versions.{side_of}
use Rattle.qrmatrix.specs.MaskChoice.{chosen_mask}
use Rattle.qrmatrix.specs.Symbol.{Symbol as Matrix}
use Rattle.filter.specs.Output.{text_of}
use Rattle.filter.specs.Symbol.{Symbol as Drawn}
use Rattle.filter.specs.declared.status.Status.{Status}
use Rattle.filter.specs.declared.status.Status.TheVariants.{Clean, Refused}

-- the status of all lines, from that of some of them and that of the others
abbrev pub worst : Status → Status → Status
worst Clean other = other
worst Refused other = Refused

-- the text of modules in a quiet zone, as the options of the run say
abbrev pub image_in : QuietZone → RunValues → Picture → List ℕ
image_in zone run modules = text_of run.format (enlargement (with_quiet_zone modules zone) run.scale)

-- a symbol is drawn: one of this symbology, with these modules
abbrev pub HasModules : Result Drawn Fault → Symbology → Picture → Type 0
HasModules (Ok symbol) symbology modules = (symbol.symbology ≡ symbology) × (symbol.modules ≡ modules)
HasModules (Err fault) symbology modules = ⊥

-- a QR matrix of the bytes: its version, its side and its mask
pub record IsMatrixOf (label : LabelValues) (bytes : List ℕ) (matrix : Matrix) : Type 0 where
  pub version : ℕ
  pub chosen : chosen_version label.min_version label.level bytes ≡ Some version
  pub side : matrix.side ≡ side_of version
  pub mask : matrix.mask ≡ chosen_mask version label.level label.mask
      (symbol_codewords version label.level (chosen_segments version bytes) bytes)
