-- What the patterns of a symbol have in each row, 64 bits a row: bit x is the module at column x; and where the bits of
-- the format information are (ISO/IEC 18004, 6.3, 7.9 and 7.10).
use Rattle.std.specs.Prelude.{ℕ, ◌+◌, ◌-◌, ◌==◌, nat_lt, if◌then◌else◌, List, [], slice_index_or}
use Rattle.qrmatrix.specs.declared.function.PatternRow.{PatternRow}
use Rattle.qrmatrix.specs.declared.function.TheConstants.{DARK, TAKEN}

-- the entry of a table for a row of a version
abbrev pub entry : List (List ℕ) → ℕ → ℕ → ℕ
entry table v y = slice_index_or (slice_index_or {A = List ℕ} table (v - 1) []) y 0

-- the modules that the codewords do not choose, those of the format information light
unfoldable pub function_row : ℕ → ℕ → PatternRow
function_row v y = record { taken = entry TAKEN v y; dark = entry DARK v y }

-- the row of the module in column 8 that has a bit of the format information
unfoldable pub row_of_bit : ℕ → ℕ → ℕ
row_of_bit n i = if nat_lt i 6 then i else (if nat_lt i 8 then i + 1 else n + i - 15)

-- the column of the module in row 8 that has a bit of the format information
unfoldable pub column_of_bit : ℕ → ℕ → ℕ
column_of_bit n i = if nat_lt i 8 then n - 1 - i else (if i == 8 then 7 else 14 - i)
