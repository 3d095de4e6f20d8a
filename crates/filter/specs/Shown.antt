-- What a run sends of a text, by what its images are read as, without a word on how they are drawn.
-- Why: `Shows`: "each image gives exactly its line's full data"; it follows from `Produces`.
use Rattle.std.specs.Prelude.{◌≡◌, ◌≢◌, ◌≤◌, ◌⊎◌, ℕ, ◌+◌, Bool, true, false, if◌then◌else◌, List, [], ◌∷◌, ◌++◌, Result, Ok, Err}
use Rattle.std.specs.Prelude.{Option, Some, None, ⊤}
use Rattle.std.specs.List.{AllZip, filter_map, list_any}
use Rattle.labelcore.specs.LineItem.{Outcome, Request, skipped, refused, drawn, item}
use Rattle.labelcore.specs.Lines.{lines}
use Rattle.labelcore.specs.Message.{message}
use Rattle.labelcore.specs.OptionValues.{RunValues}
use Rattle.labelcore.specs.declared.fault.Fault.{Fault}
use Rattle.labelcore.specs.declared.fault.Fault.TheVariants.{DoesNotFit}
use Rattle.labelcore.specs.declared.options.Options.{Options}
use Rattle.labelcore.specs.declared.symbology.Symbology.{Symbology}
use Rattle.labelcore.specs.declared.symbology.Symbology.TheVariants.{Ean13, Ean8, UpcA, Code128, Qr}
use Rattle.linear.specs.Code128.{full_code128}
use Rattle.linear.specs.Digits.{full_digits}
use Rattle.qrdata.specs.Reading.{data_in}
use Rattle.filter.specs.Output.{Channel, Images, Messages, line_number}
use Rattle.filter.specs.Readback.{IsRead}
use Rattle.filter.specs.Reading.{cut}
use Rattle.filter.specs.Symbol.{Symbol}
use Rattle.filter.specs.declared.status.Status.{Status}
use Rattle.filter.specs.declared.status.Status.TheVariants.{Clean, Refused}

-- what is sent of a line: nothing, an image, or the message of a fault
pub data Shown : Type 0 where
  nothing : Shown
  image : List ℕ → Shown
  told : Fault → Shown

-- the full data of a symbology, or why there is none
abbrev pub full_data : Symbology → List ℕ → Result (List ℕ) Fault
full_data Ean13 bytes = full_digits 12 bytes
full_data Ean8 bytes = full_digits 7 bytes
full_data UpcA bytes = full_digits 11 bytes
full_data Code128 bytes = full_code128 bytes
full_data Qr bytes = Ok bytes

-- the data has no full data, or is for a QR symbol, and no symbol from the least version to version 10 is read as it
abbrev pub HasFault : Request → Fault → Type 0
HasFault asked fault =
    (full_data asked.symbology asked.bytes ≡ Err fault)
    ⊎ ((asked.symbology ≡ Qr) × (fault ≡ DoesNotFit asked.options.label.level)
    × ((version : ℕ) (codewords : List ℕ) → asked.options.label.min_version ≤ version → version ≤ 10
    → data_in version asked.options.label.level codewords ≢ Some asked.bytes))

-- what is sent of what a line asks for: nothing of an empty line or a comment, the message of its fault, or an image
-- that is read as its full data
abbrev pub IsShown : RunValues → Outcome Request → Shown → Type 0
IsShown run skipped nothing = ⊤
IsShown run (refused fault) (told other) = other ≡ fault
IsShown run (drawn asked) (told fault) = HasFault asked fault
IsShown run (drawn asked) (image text) =
    (symbol : Symbol) × (symbol.symbology ≡ asked.symbology)
    × (full_data asked.symbology asked.bytes ≡ Ok symbol.full) × IsRead run.format run.scale text symbol
IsShown run asked shown = ⊥

-- the images, in order
abbrev pub image_in : Shown → Option (List ℕ)
image_in (image text) = Some text
image_in other = None

-- the messages after `before` lines, in order
abbrev pub messages_after : ℕ → List Shown → List ℕ
messages_after before [] = []
messages_after before (told fault ∷ later) = message (line_number before) fault ++ messages_after (before + 1) later
messages_after before (other ∷ later) = messages_after (before + 1) later

abbrev pub is_told : Shown → Bool
is_told (told fault) = true
is_told other = false

-- Of the one text that the source gave, something is sent for each line: the images' sink took a stream that is cut
-- into the images, and the messages' sink took the messages.
pub record Shows (options : Options) (gave : List ℕ → Type 0) (took : Channel → List ℕ → Type 0) (status : Status)
    : Type 0 where
  pub text : List ℕ
  pub given : gave text
  pub shown : List Shown
  pub each : AllZip (λ line. IsShown options.run (item options line)) (lines text) shown
  pub stream : List ℕ
  pub images : cut options.run.format stream ≡ filter_map image_in shown
  pub took_images : took Images stream
  pub took_messages : took Messages (messages_after 0 shown)
  pub status_is : status ≡ (if list_any is_told shown then Refused else Clean)
