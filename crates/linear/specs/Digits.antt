-- The digits of EAN and UPC as bytes, and their check digit (ISO/IEC 15420, check digit).
-- Why: `check_digit`, `full_digits`: 15420, check digit.
use Rattle.std.specs.Prelude.{ℕ, ◌+◌, ◌-◌, ◌*◌, ◌%◌, ◌==◌, if◌then◌else◌, not, Option, Result, Ok, Err, List, []}
use Rattle.std.specs.Prelude.{◌∷◌, ◌++◌, length, take, position, slice_index}
use Rattle.std.specs.Char.{is_ascii_digit}
use Rattle.std.specs.Option.{option_map_or}
use Rattle.labelcore.specs.declared.fault.Fault.{Fault}
use Rattle.labelcore.specs.declared.fault.Fault.TheVariants.{NotADigit, WrongNumberOfDigits, WrongCheckDigit}

-- the value of a digit's byte
abbrev pub digit_value : ℕ → ℕ
digit_value byte = byte - 48

-- the sum of the digits, each times its weight: from the right the weights are 3, 1, 3, 1 and so on
abbrev pub weighted_sum : List ℕ → ℕ
weighted_sum [] = 0
weighted_sum (byte ∷ rest) = (if length rest % 2 == 0 then 3 else 1) * digit_value byte + weighted_sum rest

-- the check digit of the digits before it
abbrev pub check_digit : List ℕ → ℕ
check_digit digits = (10 - weighted_sum digits % 10) % 10

-- these digits and the last one, or a refusal where the last one is not their check digit
abbrev pub checked_digits : List ℕ → ℕ → Result (List ℕ) Fault
checked_digits digits last =
    if digit_value last == check_digit digits then Ok (digits ++ last ∷ [])
    else Err (WrongCheckDigit (digit_value last) (check_digit digits))

-- `count` digits with their check digit, which is appended or already there
abbrev pub with_check_digit : ℕ → List ℕ → Result (List ℕ) Fault
with_check_digit count digits =
    if length digits == count then Ok (digits ++ (48 + check_digit digits) ∷ [])
    else if length digits == count + 1 then checked_digits (take count digits) (slice_index digits count)
    else Err (WrongNumberOfDigits (length digits))

-- the refusal of a byte that was found at an index, with its place counted from 1; else the result
abbrev pub unless_found : (ℕ → Fault) → Option ℕ → Result (List ℕ) Fault → Result (List ℕ) Fault
unless_found refusal found result = option_map_or (λ index. Err (refusal (index + 1))) found result

-- the full data of a symbol that has `count` digits and a check digit: a byte that is no digit is refused first, then
-- a wrong number of digits, then a wrong check digit
abbrev pub full_digits : ℕ → List ℕ → Result (List ℕ) Fault
full_digits count bytes =
    unless_found NotADigit (position (λ byte. not (is_ascii_digit byte)) bytes) (with_check_digit count bytes)
