-- A sink over a caller's room, as its clauses see it.
use Rattle.std.specs.Prelude.{◌≡◌, ℕ, ◌+◌, ◌-◌, ◌^◌, ◌<◌, Bool, List, length, min}
use Rattle.capi.specs.Room.{put_text}
use Rattle.capi.specs.declared.slice_sink.SliceSink.{SliceSink}

-- how many bytes a sink took
abbrev pub count_of : SliceSink → ℕ
count_of s = s.count

-- whether a sink was flushed after the last byte that it took
abbrev pub is_flushed : SliceSink → Bool
is_flushed s = s.is_flushed

-- the room of a sink as it is now
abbrev pub room_of : SliceSink → List ℕ
room_of s = s.room.now

-- From the first state to the second, the sink took these bytes, and it has the same room. The count stops at the
-- greatest `usize`, which no room passes.
pub record Puts (old new : SliceSink) (xs : List ℕ) : Type 0 where
  pub same : new.room.ghost_name ≡ old.room.ghost_name
  pub size : length (room_of new) ≡ length (room_of old)
  pub count : new.count ≡ min (old.count + length xs) (2 ^ 64 - 1)
  pub room : length (room_of old) < 2 ^ 64 - 1 → room_of new ≡ put_text (room_of old) old.count xs
