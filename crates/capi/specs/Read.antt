-- What a call that reads a symbol back asks for, and what it answers.
-- Why: `read_asked`, `modules_asked`, `bits_asked`, `AnswersRead`, `AnswersFound`: the same sampling and the same rules as
-- of an image that was drawn.
use Rattle.std.specs.Prelude.{◌≡◌, ℕ, ◌==◌, true, List, [], ◌∷◌, None, Some, Option, Result, Ok, Err, if◌then◌else◌, length}
use Rattle.std.specs.Bool.{then_some}
use Rattle.labelcore.specs.declared.symbology.Symbology.{Symbology}
use Rattle.picture.specs.Picture.{Picture}
use Rattle.picture.specs.Reading.{Raster, raster}
use Rattle.labelcore.specs.Steps.{◌>>=◌}
use Rattle.reading.specs.Dots.{bits_picture, bytes_read, is_inside}
use Rattle.reading.specs.Found.{Found, any_reading}
use Rattle.reading.specs.Labels.{read_dots, read_label}
use Rattle.reading.specs.declared.bits.BitRegion.{BitRegion}
use Rattle.capi.specs.Calls.{Declines, PutsWhole, Rooms}
use Rattle.capi.specs.Numbers.{are_unused, flag_numbered, symbology_numbered}
use Rattle.capi.specs.declared.numbers.Answer.{Answer}
use Rattle.capi.specs.declared.numbers.CallRegion.{CallRegion}
use Rattle.capi.specs.declared.numbers.FoundInfo.{FoundInfo}

-- what a picture is read as by the rule of a symbology, or the code of why it cannot be: the number of the symbology
abbrev pub reading_of : Option Symbology → (Symbology → Raster → Option (List ℕ)) → Option Picture → Result (Option (List ℕ)) ℕ
reading_of None rule found = Err 3
reading_of (Some symbology) rule found = Ok (found >>= λ p. rule symbology (raster p))

-- what the numbers and the dots of a call are read as, digits 0 and 1
unfoldable pub read_asked : (symbology scale width height : ℕ) → List ℕ → Result (Option (List ℕ)) ℕ
read_asked symbology scale width height dots =
    if scale == 0 then Err 2
    else reading_of (symbology_numbered symbology) (λ symbology. read_dots symbology scale) (bytes_read 48 49 width height dots)

-- what the numbers and the modules of a call are read as, bytes 0 and 1
unfoldable pub modules_asked : (symbology width rows : ℕ) → List ℕ → Result (Option (List ℕ)) ℕ
modules_asked symbology width rows modules =
    reading_of (symbology_numbered symbology) (λ symbology r. read_label symbology r.rows)
    (bytes_read 0 1 width rows modules)

-- the region that the numbers of a call mean
abbrev pub region_numbered : CallRegion → Option BitRegion
region_numbered r = do
  dark ← flag_numbered r.dark
  then_some (are_unused r.reserved) (record {
    stride = r.stride;
    left = r.left;
    top = r.top;
    width = r.width;
    height = r.height;
    dark = dark;
  })

-- what a region of bits is read as, or the code of why it cannot be: it is none, or not within them
abbrev pub bits_as : Option BitRegion → List ℕ → Result (Option Found) ℕ
bits_as None bits = Err 2
bits_as (Some r) bits = if is_inside r (length bits) then Ok (any_reading (bits_picture r bits)) else Err 2

-- what the numbers and the bits of a call are read as
unfoldable pub bits_asked : CallRegion → List ℕ → Result (Option Found) ℕ
bits_asked region bits = bits_as (region_numbered region) bits

-- the caller's room alone
abbrev pub room_alone : List ℕ → List ℕ → Rooms
room_alone room room_after = record { out = room; out_after = room_after; message = []; message_after = [] }

-- the full data of what is asked for is put into the room, or nothing is
abbrev pub AnswersRead : (room room_after : List ℕ) → Answer → Result (Option (List ℕ)) ℕ → Type 0
AnswersRead room room_after answer (Err code) = Declines (room_alone room room_after) answer code 0 []
AnswersRead room room_after answer (Ok None) = Declines (room_alone room room_after) answer 17 0 []
AnswersRead room room_after answer (Ok (Some full)) = PutsWhole (room_alone room room_after) answer full

-- what was read is told
pub record TellsFound (info : FoundInfo) (found : Found) : Type 0 where
  pub symbology : symbology_numbered info.symbology ≡ Some found.symbology
  pub scale : info.scale ≡ found.scale
  pub turns : info.turns ≡ found.turns
  pub unused : are_unused info.reserved ≡ true

-- nothing is put and nothing told, for the reason with this code
abbrev pub DeclinesFound : (room room_after : List ℕ) → Answer → FoundInfo → ℕ → Type 0
DeclinesFound room room_after answer info code =
    Declines (room_alone room room_after) answer code 0 []
    × (are_unused (info.symbology ∷ info.scale ∷ info.turns ∷ info.reserved) ≡ true)

-- the full data of what is found is put into the room, and what was found is told; or neither
abbrev pub AnswersFound : (room room_after : List ℕ) → Answer → FoundInfo → Result (Option Found) ℕ → Type 0
AnswersFound room room_after answer info (Err code) = DeclinesFound room room_after answer info code
AnswersFound room room_after answer info (Ok None) = DeclinesFound room room_after answer info 17
AnswersFound room room_after answer info (Ok (Some found)) =
    PutsWhole (room_alone room room_after) answer found.full × TellsFound info found
