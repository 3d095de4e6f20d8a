-- Groups of characters: how many of them one number stands for, and which, as contracts inside this crate see them.
use Rattle.std.specs.Prelude.{ℕ, ◌+◌, ◌/◌, ◌%◌, List, [], ◌∷◌, nat_lt, if◌then◌else◌}
use Rattle.qrdata.specs.declared.mode.Mode.{Mode}
use Rattle.qrdata.specs.declared.mode.Mode.TheVariants.{Numeric, Alphanumeric, Byte}
use Rattle.qr_reading.specs.declared.segment_reading.Group.{Group}
use Rattle.qrdata.specs.Reading.{alphanumeric_character}

-- the next group, where this many characters are left
abbrev pub next_group : Mode → (left : ℕ) → Group
next_group Numeric left =
    if nat_lt left 2 then record { size = 1; limit = 10; width = 4 }
    else if nat_lt left 3 then record { size = 2; limit = 100; width = 7 }
    else record { size = 3; limit = 1000; width = 10 }
next_group Alphanumeric left =
    if nat_lt left 2 then record { size = 1; limit = 45; width = 6 } else record { size = 2; limit = 2025; width = 11 }
next_group Byte left = record { size = 1; limit = 256; width = 8 }

-- the bytes of its characters
abbrev pub group_bytes : Mode → (left number : ℕ) → List ℕ
group_bytes Numeric left n =
    if nat_lt left 2 then (48 + n) ∷ []
    else if nat_lt left 3 then (48 + n / 10) ∷ (48 + n % 10) ∷ []
    else (48 + n / 100) ∷ (48 + n / 10 % 10) ∷ (48 + n % 10) ∷ []
group_bytes Alphanumeric left n =
    if nat_lt left 2 then alphanumeric_character n ∷ []
    else alphanumeric_character (n / 45) ∷ alphanumeric_character (n % 45) ∷ []
group_bytes Byte left n = n ∷ []
