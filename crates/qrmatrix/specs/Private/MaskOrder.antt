-- The order in which the masks are tried. The mask that is chosen does not depend on it.
use Rattle.std.specs.Prelude.{ℕ, ◌+◌, ◌==◌, nat_lt, if◌then◌else◌}

-- the turn of a mask: mask 2 before the others
abbrev pub turn_of : ℕ → ℕ
turn_of mask = if mask == 2 then 0 else (if nat_lt mask 2 then mask + 1 else mask)
