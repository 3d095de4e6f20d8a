-- A row that is put several times, and eight dots as a byte.
use Rattle.std.specs.Prelude.{ℕ, zero, suc, ◌+◌, ◌*◌, Bool, if◌then◌else◌, List}
use Rattle.capi.specs.Room.{put_text}

-- the room after the same bytes were put as so many rows, from row y on
unfoldable pub put_equal : ℕ → List ℕ → List ℕ → ℕ → ℕ → List ℕ
put_equal stride row room y zero = room
put_equal stride row room y (suc k) = put_text (put_equal stride row room y k) ((y + k) * stride) row

-- eight dots as a byte, the first the highest bit
abbrev pub byte_of_dots : Bool → Bool → Bool → Bool → Bool → Bool → Bool → Bool → ℕ
byte_of_dots a b c d e f g h =
    128 * (if a then 1 else 0) + 64 * (if b then 1 else 0) + 32 * (if c then 1 else 0) + 16 * (if d then 1 else 0)
    + 8 * (if e then 1 else 0) + 4 * (if f then 1 else 0) + 2 * (if g then 1 else 0) + (if h then 1 else 0)
