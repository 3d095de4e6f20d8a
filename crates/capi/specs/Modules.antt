-- What a call of the C library leaves of a symbol's modules.
use Rattle.std.specs.Prelude.{◌≡◌, ℕ, ◌*◌, nat_le, Bool, true, Some, Result, Ok, Err, List, [], ◌∷◌, ◌++◌, length, drop, flat_map}
use Rattle.std.specs.Prelude.{if◌then◌else◌, IfOk, ⊤}
use Rattle.labelcore.specs.LineItem.{Outcome, Request, skipped, refused, drawn}
use Rattle.labelcore.specs.Message.{fault_text}
use Rattle.labelcore.specs.OptionValues.{LabelValues}
use Rattle.filter.specs.ModuleReading.{IsReadInModules}
use Rattle.filter.specs.Output.{outcome_of_item}
use Rattle.filter.specs.Symbol.{Symbol, quiet_zone, symbol_of}
use Rattle.labelcore.specs.declared.symbology.Symbology.{Symbology}
use Rattle.labelcore.specs.declared.symbology.Symbology.TheVariants.{Qr}
use Rattle.picture.specs.Picture.{Picture}
use Rattle.qrdata.specs.Codewords.{symbol_codewords}
use Rattle.qrdata.specs.Fewest.{chosen_segments, chosen_version}
use Rattle.qrmatrix.specs.MaskChoice.{chosen_mask}
use Rattle.capi.specs.Numbers.{are_unused, code_of, level_numbered, place_of, symbology_numbered}
use Rattle.picture.specs.Text.{below, pixel_row}
use Rattle.capi.specs.Calls.{Asked, Declines}
use Rattle.capi.specs.declared.asked.Reason.{Reason}
use Rattle.capi.specs.declared.numbers.Answer.{Answer}
use Rattle.capi.specs.declared.numbers.SymbolInfo.{SymbolInfo}

-- the modules of a picture, row by row
abbrev pub modules_of : Picture → List Bool
modules_of p = flat_map (pixel_row p) (below p.height)

-- the caller's room for modules, before and after, and that for a message
pub record ModuleRooms : Type 0 where
  pub modules : List Bool
  pub modules_after : List Bool
  pub message : List ℕ
  pub message_after : List ℕ

-- the size of a symbol and its quiet zones
pub record IsSizeOf (symbol : Symbol) (info : SymbolInfo) : Type 0 where
  pub width : info.width ≡ symbol.modules.width
  pub rows : info.rows ≡ symbol.modules.height
  pub left : info.left ≡ (quiet_zone symbol.symbology).left
  pub right : info.right ≡ (quiet_zone symbol.symbology).right
  pub top : info.top ≡ (quiet_zone symbol.symbology).top
  pub bottom : info.bottom ≡ (quiet_zone symbol.symbology).bottom
  pub unused : are_unused info.reserved ≡ true

-- whether nothing is told of a symbol: each number is 0
unfoldable pub is_nothing : SymbolInfo → Bool
is_nothing i = are_unused (i.symbology ∷ i.width ∷ i.rows ∷ i.height ∷ i.left ∷ i.right ∷ i.top ∷ i.bottom
    ∷ i.version ∷ i.level ∷ i.mask ∷ i.data_length ∷ i.reserved)

-- the symbology of a symbol, and the height of its picture in modules
pub record IsDrawnAs (symbol : Symbol) (info : SymbolInfo) : Type 0 where
  pub symbology : symbology_numbered info.symbology ≡ Some symbol.symbology
  pub height : info.height ≡ symbol.modules.height

-- the modules of a picture are put into the room where there is room for all, and nothing after them is written
pub record PutsModules (rooms : ModuleRooms) (answer : Answer) (p : Picture) : Type 0 where
  pub code_is : answer.code ≡ (if nat_le (p.width * p.height) (length rooms.modules) then 0 else 1)
  pub unused : answer.reserved ≡ 0
  pub size : answer.length ≡ p.width * p.height
  pub no_place : answer.at ≡ 0
  pub no_message : answer.message_length ≡ 0
  pub modules : rooms.modules_after ≡ (if nat_le (p.width * p.height) (length rooms.modules)
      then modules_of p ++ drop (p.width * p.height) rooms.modules else rooms.modules)
  pub message : rooms.message_after ≡ rooms.message

-- no modules are put, and nothing is told of a symbol
abbrev pub DeclinesModules : ModuleRooms → Answer → SymbolInfo → ℕ → ℕ → List ℕ → Type 0
DeclinesModules rooms answer info code place text = (rooms.modules_after ≡ rooms.modules)
    × ((is_nothing info ≡ true)
    × ((out : List ℕ) → Declines (record {
      out = out;
      out_after = out;
      message = rooms.message;
      message_after = rooms.message_after;
    }) answer code place text))

-- the rows of a symbol that are put: one of a linear symbol, whose rows are equal
abbrev pub rows_put : Symbology → ℕ → ℕ
rows_put Qr rows = rows
rows_put other rows = 1

-- a symbol with the rows that are put
abbrev pub with_rows_put : Symbol → Symbol
with_rows_put symbol = record symbol {
  modules = record symbol.modules { height = rows_put symbol.symbology symbol.modules.height };
}

-- the modules of a symbol that is drawn, their size, and what they are drawn as; or why there are none. 14 is a line that
-- is skipped
abbrev pub AnswersModulesOutcome : ModuleRooms → Answer → SymbolInfo → Outcome Symbol → Type 0
AnswersModulesOutcome rooms answer info skipped = DeclinesModules rooms answer info 14 0 []
AnswersModulesOutcome rooms answer info (refused fault) =
    DeclinesModules rooms answer info (code_of fault) (place_of fault) (fault_text fault)
AnswersModulesOutcome rooms answer info (drawn symbol) =
    PutsModules rooms answer (with_rows_put symbol).modules × (IsSizeOf (with_rows_put symbol) info × IsDrawnAs symbol info)

-- the modules of what is asked for, or why there are none
abbrev pub AnswersModules : ModuleRooms → Answer → SymbolInfo → Result Asked Reason → Type 0
AnswersModules rooms answer info (Err reason) = DeclinesModules rooms answer info reason.code reason.at []
AnswersModules rooms answer info (Ok a) = AnswersModulesOutcome rooms answer info (outcome_of_item a.item)

-- the modules of a symbol read as its full data, and as nothing else
abbrev pub ReadsModulesOutcome : Outcome Symbol → Type 0
ReadsModulesOutcome (drawn symbol) = IsReadInModules (with_rows_put symbol)
ReadsModulesOutcome other = ⊤

-- the modules of what is asked for read as the full data, and as nothing else
abbrev pub ReadsModules : Result Asked Reason → Type 0
ReadsModules found = IfOk found (λ a. ReadsModulesOutcome (outcome_of_item a.item))

-- the version, the level and the mask that a QR symbol has
pub record HasQrNumbers (label : LabelValues) (bytes : List ℕ) (info : SymbolInfo) : Type 0 where
  pub version : chosen_version label.min_version label.level bytes ≡ Some info.version
  pub level : level_numbered info.level ≡ Some label.level
  pub mask : info.mask ≡ chosen_mask info.version label.level label.mask
      (symbol_codewords info.version label.level (chosen_segments info.version bytes) bytes)

-- the numbers of a symbol: those of a QR symbol, and 0 of others
abbrev pub HasNumbers : LabelValues → Symbology → List ℕ → SymbolInfo → Type 0
HasNumbers label Qr bytes info = HasQrNumbers label bytes info
HasNumbers label other bytes info = (info.version ≡ 0) × ((info.level ≡ 0) × (info.mask ≡ 0))

-- the numbers of a symbol that is drawn
abbrev pub NumbersItem : SymbolInfo → Outcome Request → Type 0
NumbersItem info (drawn asked) = IfOk (symbol_of asked.options.label asked.symbology asked.bytes)
    (λ symbol. HasNumbers asked.options.label asked.symbology asked.bytes info)
NumbersItem info other = ⊤

-- the numbers of what is asked for
abbrev pub NumbersAsked : SymbolInfo → Result Asked Reason → Type 0
NumbersAsked info found = IfOk found (λ a. NumbersItem info a.item)
