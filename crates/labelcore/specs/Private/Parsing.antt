-- A line and its escapes, as contracts inside this crate see them.
use Rattle.std.specs.Prelude.{ℕ, ◌+◌, ◌<◌, ◌≤◌, ◌≡◌, List, length, drop, Err, Option, if◌then◌else◌}
use Rattle.std.specs.Bool.{then_some}
use Rattle.std.specs.Char.{is_digit}
use Rattle.std.specs.List.{list_all}
use Rattle.std.specs.Str.Parse.{digits_value}
use Rattle.labelcore.specs.declared.fault.Fault.TheVariants.{LineTooLong}
use Rattle.labelcore.specs.declared.options.Options.{Options}
use Rattle.labelcore.specs.HeldLine.{HeldLine}
use Rattle.labelcore.specs.LineItem.{Outcome, Request, skipped, refused, is_skipped, outcome_of, request}
use Rattle.labelcore.specs.Escapes.{naming, unescaped_from}

-- what a line asks for, by what is held of it
abbrev pub item_of_held : Options → HeldLine → Outcome Request
item_of_held options line =
    if is_skipped line.bytes then skipped
    else if line.is_too_long then refused LineTooLong
    else outcome_of (request options line.bytes)

-- the number that digits write
abbrev pub digits_read : List ℕ → Option ℕ
digits_read value = then_some (list_all (λ b. is_digit b 10) value) (digits_value 10 value)

-- the text begins with a unit of this size, which names the byte
pub record IsFirstUnit (text : List ℕ) (byte size : ℕ) : Type 0 where
  pub some : 0 < size
  pub within : size ≤ length text
  pub small : byte < 256
  pub read : (place : ℕ) → unescaped_from place text ≡ naming byte (unescaped_from (place + size) (drop size text))

-- the text begins with a backslash, and with no unit
abbrev pub BeginsNoUnit : List ℕ → Type 0
BeginsNoUnit text = (place : ℕ) → unescaped_from place text ≡ Err place
