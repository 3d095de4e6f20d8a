-- What a call of the C library leaves of a symbol's full data.
use Rattle.std.specs.Prelude.{◌≡◌, ℕ, Result, Ok, Err, List, length}
use Rattle.labelcore.specs.LineItem.{Outcome, drawn}
use Rattle.filter.specs.Output.{outcome_of_item}
use Rattle.filter.specs.Symbol.{Symbol}
use Rattle.capi.specs.Calls.{Asked}
use Rattle.capi.specs.Room.{put_text}
use Rattle.capi.specs.declared.asked.Reason.{Reason}

-- full data is put into a room, as much as there is room for, and its length told
abbrev pub IsFullPut : List ℕ → List ℕ → List ℕ → ℕ → Type 0
IsFullPut full room room_after told = (told ≡ length full) × (room_after ≡ put_text room 0 full)

-- the full data of a symbol that is drawn is put, and where there is none nothing is
abbrev pub PutsFullOutcome : List ℕ → List ℕ → ℕ → Outcome Symbol → Type 0
PutsFullOutcome room room_after told (drawn symbol) = IsFullPut symbol.full room room_after told
PutsFullOutcome room room_after told other = room_after ≡ room

-- the full data of what is asked for
abbrev pub PutsFull : List ℕ → List ℕ → ℕ → Result Asked Reason → Type 0
PutsFull room room_after told (Err reason) = room_after ≡ room
PutsFull room room_after told (Ok a) = PutsFullOutcome room room_after told (outcome_of_item a.item)
