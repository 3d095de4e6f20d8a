-- What a filter holds of a line (docs/SPECIFICATION.md, Lines).
use Rattle.std.specs.Prelude.{ℕ, Bool, nat_lt, List, length, take}

-- the most bytes of a line
unfoldable pub line_limit : ℕ
line_limit = 1100

-- what is held of a line: its first bytes, and whether it is longer
pub record HeldLine : Type 0 where
  pub bytes : List ℕ
  pub is_too_long : Bool

-- this line as it is held: at most its first 1,100 bytes, and whether it is longer
abbrev pub held_line : List ℕ → HeldLine
held_line line = record { bytes = take line_limit line; is_too_long = nat_lt line_limit (length line) }
