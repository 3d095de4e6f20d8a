-- The data and the rows of Code 128 symbols (ISO/IEC 15417, symbol structure and check character).
-- Why: `check_value`, `characters`, `code128_row`, `full_code128`: 15417, check character and symbol structure.
use Rattle.std.specs.Prelude.{ℕ, ◌+◌, ◌*◌, ◌%◌, nat_lt, nat_le, if◌then◌else◌, Bool, true, not, Result, Ok, Err, List}
use Rattle.std.specs.Prelude.{[], ◌∷◌, ◌++◌, length, map, replicate, position, flat_map, slice_index_or, sum_by}
use Rattle.std.specs.List.{enumerate_from}
use Rattle.labelcore.specs.declared.fault.Fault.{Fault}
use Rattle.labelcore.specs.declared.fault.Fault.TheVariants.{DataTooLong, NotAscii}
use Rattle.linear.specs.declared.switching.CodeSet.{CodeSet}
use Rattle.linear.specs.Digits.{digit_value, unless_found}
use Rattle.linear.specs.Tables.{character_widths}
use Rattle.linear.specs.CodeSets.{start_value, start_set, data_values}

-- the full data of a symbol: the data itself, at most 80 bytes, each of them ASCII
abbrev pub full_code128 : List ℕ → Result (List ℕ) Fault
full_code128 bytes =
    if nat_lt 80 (length bytes) then Err DataTooLong
    else unless_found NotAscii (position (λ byte. nat_le 128 byte) bytes) (Ok bytes)

-- the check value of a start value and the values after it: the sum of all, each of these times its place from 1 on
abbrev pub check_value : ℕ → List ℕ → ℕ
check_value start values = (start + sum_by (λ item. item.0 * item.1) (enumerate_from 1 values)) % 103

-- bars and spaces of these widths in turn
abbrev pub bars_and_spaces : Bool → List ℕ → List Bool
bars_and_spaces dark [] = []
bars_and_spaces dark (width ∷ widths) = replicate width dark ++ bars_and_spaces (not dark) widths

-- the modules of the symbol characters, in the order of their values
abbrev pub characters : List (List Bool)
characters = map (λ widths. bars_and_spaces true (map digit_value widths)) character_widths

-- the modules of a value's character
abbrev pub character_modules : ℕ → List Bool
character_modules value = slice_index_or characters value []

-- the values of a symbol before the stop character: the start value of a set, the values of the data, and the check
-- value
abbrev pub with_check : CodeSet → List ℕ → List ℕ
with_check set values = start_value set ∷ (values ++ check_value (start_value set) values ∷ [])

-- the row of data: its values, the check value and the stop character
abbrev pub code128_row : List ℕ → List Bool
code128_row bytes =
    let set = start_set bytes in
    flat_map character_modules (with_check set (data_values set bytes)) ++ character_modules 106
