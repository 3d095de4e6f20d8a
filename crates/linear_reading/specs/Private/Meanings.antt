-- The meanings of Code 128 values in the code, as contracts inside this crate see them.
use Rattle.std.specs.Prelude.{ℕ, Bool, true, false, Option, Some, None, List, [], ◌∷◌, ◌++◌, find, position, if◌then◌else◌}
use Rattle.std.specs.Str.{bytes_eq}
use Rattle.linear.specs.Code128.{characters, with_check}
use Rattle.linear.specs.Modules.{same_modules}
use Rattle.linear.specs.declared.switching.CodeSet.{CodeSet}
use Rattle.linear.specs.declared.switching.CodeSet.TheVariants.{A, B, C}
use Rattle.linear_reading.specs.declared.read_code128.Meaning.{Meaning as Coded}
use Rattle.linear_reading.specs.declared.read_code128.Meaning.TheVariants.{Character, Pair, Change, Shift, Nothing}
use Rattle.linear.specs.Code128Reading.{Meaning, text, change, shift, none}

-- what the code's meaning stands for
abbrev pub meant : Coded → Meaning
meant (Character byte) = text (byte ∷ [])
meant (Pair first second) = text (first ∷ second ∷ [])
meant (Change set) = change set
meant Shift = shift
meant Nothing = none

-- what is read with a value of this meaning, after what was read before; the set after it, and whether it shifts
abbrev pub step : List ℕ → CodeSet → Bool → Meaning → Option (List ℕ × (CodeSet × Bool))
step before set is_shifted (text bytes) = Some (before ++ bytes, (set, false))
step before set is_shifted (change next) = if is_shifted then None else Some (before, (next, false))
step before set is_shifted shift = if is_shifted then None else Some (before, (set, true))
step before set is_shifted none = None

-- the value whose character is a group
abbrev pub group_value : List Bool → Option ℕ
group_value group = position (same_modules group) characters

-- the set in which these are the values of a symbol whose values of the data are the inner ones
abbrev pub set_in : List ℕ → List ℕ → Option CodeSet
set_in inner values = find (λ set. bytes_eq (with_check set inner) values) (A ∷ B ∷ C ∷ [])
