-- Data and its digits, as contracts inside this crate see them.
use Rattle.std.specs.Prelude.{◌≡◌, ◌≤◌, ◌<◌, ℕ, ◌+◌, List, All, length, take, slice_index}
use Rattle.std.specs.Char.{IsAsciiDigit}
use Rattle.linear.specs.Digits.{digit_value, check_digit}
use Rattle.linear.specs.declared.limits.TheConstants.{MAX_BYTES}

-- `count` digits
pub record AreDigits (count : ℕ) (bytes : List ℕ) : Type 0 where
  pub long : length bytes ≡ count
  pub digits : All IsAsciiDigit bytes

-- `count` digits and their check digit
pub record IsFull (count : ℕ) (full : List ℕ) : Type 0 where
  pub digits : AreDigits (count + 1) full
  pub right : digit_value (slice_index full count) ≡ check_digit (take count full)

-- the digits of a half, at most six
pub record IsHalf (bytes : List ℕ) : Type 0 where
  pub few : length bytes ≤ 6
  pub digits : All IsAsciiDigit bytes

-- the data of a Code 128 symbol: at most 80 bytes, each of them ASCII
pub record IsCode128Data (bytes : List ℕ) : Type 0 where
  pub few : length bytes ≤ MAX_BYTES
  pub ascii : All (λ byte. byte < 128) bytes
