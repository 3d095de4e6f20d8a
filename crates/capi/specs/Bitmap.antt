-- What a call of the C library leaves of a symbol's bitmap: the dots of its picture as bits.
use Rattle.std.specs.Prelude.{◌≡◌, ℕ, zero, suc, ◌+◌, ◌-◌, ◌*◌, ◌^◌, ◌==◌, ◌&&◌, nat_le, min, Bool, false, Result, Ok, Err, List, [], length}
use Rattle.std.specs.Prelude.{if◌then◌else◌, map, slice_index_or, IfOk, Some, ⊤}
use Rattle.std.specs.Int.{div_ceil}
use Rattle.labelcore.specs.LineItem.{Outcome, skipped, refused, drawn}
use Rattle.labelcore.specs.Message.{fault_text}
use Rattle.labelcore.specs.OptionValues.{RunValues}
use Rattle.picture.specs.Picture.{Picture}
use Rattle.picture.specs.Text.{below, pixel_row}
use Rattle.filter.specs.Output.{outcome_of_item, picture_of}
use Rattle.filter.specs.Symbol.{Symbol}
use Rattle.reading.specs.Found.{any_reading}
use Rattle.capi.specs.Calls.{Asked, Declines, Rooms}
use Rattle.capi.specs.Numbers.{code_of, place_of}
use Rattle.capi.specs.Room.{put_text}
use Rattle.capi.specs.declared.asked.Reason.{Reason}
use Rattle.capi.specs.declared.numbers.ToldBitmap.{ToldBitmap}

-- 1 where the dot is dark; a dot past the end of the row is light
abbrev pub dot_at : List Bool → ℕ → ℕ
dot_at dots x = if slice_index_or dots x false then 1 else 0

-- eight dots from a place on, the first in the highest bit
abbrev pub byte_at : List Bool → ℕ → ℕ
byte_at dots x =
    128 * dot_at dots x + 64 * dot_at dots (x + 1) + 32 * dot_at dots (x + 2) + 16 * dot_at dots (x + 3)
    + 8 * dot_at dots (x + 4) + 4 * dot_at dots (x + 5) + 2 * dot_at dots (x + 6) + dot_at dots (x + 7)

-- the bytes of a row of dots
abbrev pub bytes_of : List Bool → ℕ → List ℕ
bytes_of dots count = map (λ j. byte_at dots (8 * j)) (below count)

-- how many bytes a row has
abbrev pub row_size : Picture → ℕ
row_size p = div_ceil p.width 8

-- the bytes from one row to the next, where `stride` are asked for: 0 asks for rows without a gap
abbrev pub row_step : (stride size : ℕ) → ℕ
row_step stride size = if stride == 0 then size else stride

-- the room after the first rows of a picture were put, each `stride` bytes after the one before; the rest is as it was
unfoldable pub put_bit_rows : Picture → ℕ → List ℕ → ℕ → List ℕ
put_bit_rows p stride room zero = room
put_bit_rows p stride room (suc y) =
    put_text (put_bit_rows p stride room y) (y * stride) (bytes_of (pixel_row p y) (row_size p))

-- the bytes from the first row to the end of the last one
abbrev pub bitmap_size : Picture → ℕ → ℕ
bitmap_size p stride = (p.height - 1) * stride + row_size p

-- whether rows do not overlap, and there is room for all
abbrev pub bitmap_fits : Picture → ℕ → List ℕ → Bool
bitmap_fits p stride room = nat_le (row_size p) stride && nat_le (bitmap_size p stride) (length room)

-- the bitmap of a picture is put where there is room for all of it, and nothing else is written
pub record PutsBitmap (rooms : Rooms) (stride : ℕ) (told : ToldBitmap) (p : Picture) : Type 0 where
  pub code_is : told.answer.code ≡ (if bitmap_fits p (row_step stride (row_size p)) rooms.out then 0 else 1)
  pub unused : told.answer.reserved ≡ 0
  pub size : told.answer.length ≡ min (bitmap_size p (row_step stride (row_size p))) (2 ^ 64 - 1)
  pub no_place : told.answer.at ≡ 0
  pub no_message : told.answer.message_length ≡ 0
  pub width : told.width ≡ p.width
  pub height : told.height ≡ p.height
  pub out : rooms.out_after ≡ (if bitmap_fits p (row_step stride (row_size p)) rooms.out
      then put_bit_rows p (row_step stride (row_size p)) rooms.out p.height else rooms.out)
  pub message : rooms.message_after ≡ rooms.message

-- the dots of a symbol's picture read as its full data, as they lie and at their scale, and as nothing else
abbrev pub IsReadInDots : RunValues → Symbol → Type 0
IsReadInDots run symbol = any_reading (picture_of run symbol)
    ≡ Some (record { symbology = symbol.symbology; scale = run.scale; turns = 0; full = symbol.full })

-- nothing is drawn, and has no size
abbrev pub DeclinesBitmap : Rooms → ToldBitmap → ℕ → ℕ → List ℕ → Type 0
DeclinesBitmap rooms told code place text = (told.width ≡ 0) × ((told.height ≡ 0) × Declines rooms told.answer code place text)

-- the bitmap of a symbol that is drawn, or why there is none; 14 is a line that is skipped
abbrev pub AnswersBitmapOutcome : Rooms → ℕ → ToldBitmap → RunValues → Outcome Symbol → Type 0
AnswersBitmapOutcome rooms stride told run skipped = DeclinesBitmap rooms told 14 0 []
AnswersBitmapOutcome rooms stride told run (refused fault) = DeclinesBitmap rooms told (code_of fault) (place_of fault) (fault_text fault)
AnswersBitmapOutcome rooms stride told run (drawn symbol) = PutsBitmap rooms stride told (picture_of run symbol)

-- the bitmap of what is asked for, or why there is none
abbrev pub AnswersBitmap : Rooms → ℕ → ToldBitmap → Result Asked Reason → Type 0
AnswersBitmap rooms stride told (Err reason) = DeclinesBitmap rooms told reason.code reason.at []
AnswersBitmap rooms stride told (Ok a) = AnswersBitmapOutcome rooms stride told a.run (outcome_of_item a.item)

-- the bitmap of a symbol reads as its full data
abbrev pub ReadsBitmapOutcome : RunValues → Outcome Symbol → Type 0
ReadsBitmapOutcome run (drawn symbol) = IsReadInDots run symbol
ReadsBitmapOutcome run other = ⊤

-- the bitmap of what is asked for reads as the full data
abbrev pub ReadsBitmap : Result Asked Reason → Type 0
ReadsBitmap found = IfOk found (λ a. ReadsBitmapOutcome a.run (outcome_of_item a.item))
