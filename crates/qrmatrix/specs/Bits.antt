-- The binary digits of numbers, from which ISO/IEC 18004 makes codewords (7.4) and format and version information
-- (7.9 and 7.10).
-- Why: `bit`: codewords, format and version information, and the rows of `Matrix::rows` use it.
use Rattle.std.specs.Prelude.{ℕ, ◌/◌, ◌%◌, ◌^◌, ◌==◌, Bool}

-- whether bit i of n is set, bit 0 being the lowest
abbrev pub bit : ℕ → ℕ → Bool
bit n i = (n / 2 ^ i) % 2 == 1
