-- Reading of EAN and UPC symbols (ISO/IEC 15420, symbol characters, guard patterns and symbol formats).
-- Why: `read_ean13`, `read_ean8`, `read_upca`: 15420; reading and drawing use the same patterns, guards and check
-- digit.
use Rattle.std.specs.Prelude.{ℕ, ◌+◌, ◌*◌, if◌then◌else◌, Bool, ◌&&◌, Option, None, List, ◌∷◌, ◌++◌}
use Rattle.std.specs.Prelude.{map, take, drop, find, position, option_map, option_and_then, codes}
use Rattle.std.specs.Bool.{then_some}
use Rattle.std.specs.Option.{option_zip, option_or}
use Rattle.std.specs.Result.{result_ok}
use Rattle.std.specs.Str.{bytes_eq}
use Rattle.linear.specs.declared.ean.NumberSet.{NumberSet}
use Rattle.linear.specs.declared.ean.NumberSet.TheVariants.{A, B, C}
use Rattle.linear.specs.Digits.{digit_value, with_check_digit}
use Rattle.linear.specs.Modules.{same_modules, each_group}
use Rattle.linear.specs.Tables.{left_half_sets}
use Rattle.linear.specs.Ean.{pattern, normal_guard, centre_guard}

-- the digit whose pattern in this number set is the group
abbrev pub digit_in : NumberSet → List Bool → Option ℕ
digit_in set group = find (λ byte. same_modules (pattern set (digit_value byte)) group) (codes "0123456789")

-- whether a row of two halves of this many digits has its guards, with nothing after the last
abbrev pub has_guards : ℕ → List Bool → Bool
has_guards half row =
    same_modules (take 3 row) normal_guard
    && same_modules (take 5 (drop (3 + 7 * half) row)) centre_guard
    && same_modules (drop (8 + 14 * half) row) normal_guard

-- what is found for the left groups, and the digits of the right groups in set C, if the row has its guards and all
-- are found
abbrev pub read_halves : {Y : Type 0} → ℕ → (List Bool → Option Y) → List Bool → Option (List Y × List ℕ)
read_halves half found row =
    if has_guards half row
    then option_zip (each_group found 7 half (drop 3 row)) (each_group (digit_in C) 7 half (drop (8 + 7 * half) row))
    else None

-- EAN-8: the left groups are found in set A, and the last digit is the check digit
abbrev pub read_ean8 : List Bool → Option (List ℕ)
read_ean8 row =
    option_and_then (λ halves. result_ok (with_check_digit 7 (halves.0 ++ halves.1))) (read_halves 4 (digit_in A) row)

-- the letter of the number set, 65 for `A` or 66 for `B`, in which a left group is found, and its digit there
abbrev pub digit_in_a_or_b : List Bool → Option (ℕ × ℕ)
digit_in_a_or_b group =
    option_or (option_map (λ byte. (65, byte)) (digit_in A group)) (option_map (λ byte. (66, byte)) (digit_in B group))

-- the digits of two halves after the first digit, at which the table has the letters of the left half
abbrev pub with_first_digit : List (ℕ × ℕ) × List ℕ → Option (List ℕ)
with_first_digit halves =
    option_map (λ digit. (48 + digit) ∷ (map (λ found. found.1) halves.0 ++ halves.1))
    (position (bytes_eq (map (λ found. found.0) halves.0)) left_half_sets)

-- EAN-13: the letters under which the left groups are found give the first digit
abbrev pub read_ean13 : List Bool → Option (List ℕ)
read_ean13 row =
    option_and_then (λ digits. result_ok (with_check_digit 12 digits))
    (option_and_then with_first_digit (read_halves 6 digit_in_a_or_b row))

-- UPC-A: the twelve digits of an EAN-13 symbol after its first digit, which is 0
abbrev pub read_upca : List Bool → Option (List ℕ)
read_upca row = option_and_then (λ full. then_some (bytes_eq (take 1 full) (codes "0")) (drop 1 full)) (read_ean13 row)
