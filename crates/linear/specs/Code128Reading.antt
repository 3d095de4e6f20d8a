-- Reading of Code 128 symbols (ISO/IEC 15417, symbol characters, code sets and check character).
-- Why: `meaning`, `read_values`, `read_code128`: 15417; a symbol with a value that means nothing is not read.
use Rattle.std.specs.Prelude.{ℕ, ◌+◌, ◌-◌, ◌*◌, ◌/◌, ◌%◌, ◌==◌, nat_lt, if◌then◌else◌, Bool, true, false, ◌&&◌, Option}
use Rattle.std.specs.Prelude.{Some, None, List, [], ◌∷◌, ◌++◌, length, drop, position, find, option_map}
use Rattle.std.specs.Prelude.{option_and_then, slice_range}
use Rattle.std.specs.Option.{option_map_or}
use Rattle.std.specs.Str.{bytes_eq}
use Rattle.linear.specs.declared.switching.CodeSet.{CodeSet}
use Rattle.linear.specs.declared.switching.CodeSet.TheVariants.{A, B, C}
use Rattle.linear.specs.Modules.{same_modules, each_group}
use Rattle.linear.specs.CodeSets.{change_value, shift_value}
use Rattle.linear.specs.Code128.{characters, character_modules, with_check}

-- the meaning of a value: text, a change of set that lasts, a shift of the next character alone to the other of A and
-- B, or none between the start and the check value
pub data Meaning : Type 0 where
  text : List ℕ → Meaning
  change : CodeSet → Meaning
  shift : Meaning
  none : Meaning

-- the meaning of a value that is no character: a shift, or a change to one of these sets
abbrev pub switch_meaning : List CodeSet → ℕ → Meaning
switch_meaning sets value =
    if value == shift_value then shift
    else option_map_or change (find (λ set. change_value set == value) sets) none

-- set A: values 0 to 63 are bytes 32 to 95, and 64 to 95 are bytes 0 to 31
-- set B: values 0 to 95 are bytes 32 to 127
-- set C: values 0 to 99 are two digits
abbrev pub meaning : CodeSet → ℕ → Meaning
meaning A value = if nat_lt value 96 then text ((value + 32) % 96 ∷ []) else switch_meaning (B ∷ C ∷ []) value
meaning B value = if nat_lt value 96 then text ((value + 32) ∷ []) else switch_meaning (A ∷ C ∷ []) value
meaning C value =
    if nat_lt value 100 then text ((48 + value / 10) ∷ (48 + value % 10) ∷ [])
    else switch_meaning (A ∷ B ∷ []) value

-- the set of the one character after a shift
abbrev pub other_set : CodeSet → CodeSet
other_set A = B
other_set B = A
other_set C = C

-- the bytes of values, while a set holds; after a shift the next value is a character of the other set
abbrev pub read_values : CodeSet → Bool → List ℕ → Option (List ℕ)
read_values set is_shifted [] = if is_shifted then None else Some []
read_values set is_shifted (value ∷ values) =
    elim (meaning (if is_shifted then other_set set else set) value) [
      | text bytes ↦ option_map (λ rest. bytes ++ rest) (read_values set false values)
      | change next ↦ if is_shifted then None else read_values next false values
      | shift ↦ if is_shifted then None else read_values set true values
      | none ↦ None
    ]

-- the data of the values before the stop character: the set is the one whose start value and check value are the first
-- and the last of them, and those between are read
abbrev pub symbol_data : List ℕ → Option (List ℕ)
symbol_data values =
    let inner = slice_range values 1 (length values - 1) in
    option_and_then (λ set. read_values set false inner)
    (find (λ set. bytes_eq (with_check set inner) values) (A ∷ B ∷ C ∷ []))

-- the data of a row of modules: groups of eleven, each the character of a value, before the thirteen of the stop
-- character; where only the start and the check character stand before it, the data is empty
abbrev pub read_code128 : List Bool → Option (List ℕ)
read_code128 row =
    let count = (length row - 13) / 11 in
    if length row == 11 * count + 13 && same_modules (drop (11 * count) row) (character_modules 106)
    then option_and_then symbol_data (each_group (λ group. position (same_modules group) characters) 11 count row)
    else None
