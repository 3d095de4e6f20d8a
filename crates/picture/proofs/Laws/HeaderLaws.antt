-- Numbers in a header, read back.
use Rattle.std.proofs.Common.{◌≡◌, ℕ, ◌^◌, ◌<◌, true, false, ◌==◌, List, [], ◌∷◌, ◌++◌, length, refl, ◌∙◌, arith}
use Rattle.std.proofs.Common.{decimal, Some}
use Rattle.std.specs.List.{prefix_len}
use Rattle.labelcore.specs.Steps.{◌>>=◌}
use Rattle.std.specs.Str.Parse.{digits_value, AllDigits}
use Rattle.std.specs.Char.{is_digit, digit_value}
use Rattle.std.proofs.lemmas.Fmt.{decimal_is_IsNumeral}
use Rattle.std.proofs.lemmas.Str.Parse.{digit_from_value}
use Rattle.std.proofs.lemmas.Bool.Decides.{nat_tests}
use Rattle.std.proofs.lemmas.Bool.{lt-ltb, ne_eqb}
use Rattle.std.proofs.lemmas.List.{take_at, drop_at}
use Rattle.picture.specs.Reading.{is_white, after_white, leading_number}

-- digits up to a byte that is none
pub prefix_len-digits : (ds : List ℕ) (c : ℕ) (rest : List ℕ) → AllDigits 10 ds → is_digit c 10 ≡ false
    → prefix_len (λ b. is_digit b 10) (ds ++ c ∷ rest) ≡ length ds
prefix_len-digits [] c rest all other = rw other refl
prefix_len-digits (d ∷ ds) c rest all other = rw (
  lt-ltb (digit_value d)
      10 all.0,
  prefix_len-digits ds c rest all.1 other,
) (omega arith)

-- a digit is no white space
pub is_white-digit : (d : ℕ) → digit_value d < 10 → is_white d ≡ false
is_white-digit d small = let range = digit_from_value d small in grind (arith, nat_tests)

-- digits are read, with the white byte before them, up to a byte that is none
read_digits : (ds : List ℕ) (b c : ℕ) (rest : List ℕ) → 0 < length ds → AllDigits 10 ds → is_white b ≡ true
    → is_digit c 10 ≡ false
    → (after_white (b ∷ ds ++ c ∷ rest) >>= leading_number) ≡ Some (digits_value 10 ds, c ∷ rest)
read_digits [] b c rest some all white other = absurd (omega arith)
read_digits (d ∷ ds) b c rest some all white other =
    let none : (length (d ∷ ds) == 0) ≡ false = ne_eqb _ _ (λ e. omega arith) in
    rw (
      white,
      is_white-digit d all.0,
      prefix_len-digits (d ∷ ds) c rest all other,
      none,
      take_at ds (c ∷ rest) (length ds) refl,
      drop_at ds (c ∷ rest) (length ds) refl,
    ) refl

-- a number is written in digits
pub digits-decimal : (n : ℕ) → n < 2 ^ 64 → AllDigits 10 (decimal n)
digits-decimal n fits = (decimal_is_IsNumeral n fits).0.1

pub number_after_white : (n b : ℕ) → n < 2 ^ 64 → is_white b ≡ true → (c : ℕ) (rest : List ℕ) → is_digit c 10 ≡ false
    → (after_white (b ∷ decimal n ++ c ∷ rest) >>= leading_number) ≡ Some (n, c ∷ rest)
number_after_white n b fits white c rest other =
    let ((some, digits), value) = decimal_is_IsNumeral n fits in
    read_digits (decimal n) b c rest some digits white other ∙ rw value refl
