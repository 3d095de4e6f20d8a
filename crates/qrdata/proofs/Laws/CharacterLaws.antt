-- Each byte as an alphanumeric character.
use Rattle.std.proofs.Common.{◌≡◌, ℕ, ◌+◌, ◌-◌, ◌<◌, ◌≤◌, refl, Bool, true, false, get_or, map, length, ap, ◌∙◌}
use Rattle.std.proofs.Common.{arith, inl, inr, not}
use Rattle.std.specs.Char.{is_ascii_digit}
use Rattle.std.specs.List.{range_with_len}
use Rattle.std.specs.Prelude.{◌==◌, nat_le, nat_lt}
use Rattle.std.proofs.lemmas.Bool.{agree_below, agree_below_at, and_parts, cases_Bool, leb-true, ltb-true}
use Rattle.std.proofs.lemmas.List.FromFn.{get_or-map-range_with_len}
use Rattle.std.proofs.lemmas.List.Sums.{prefix_len-le-length}
use Rattle.qrdata.specs.Segments.{alphanumeric_characters, alphanumeric_value}
use Rattle.qrdata.specs.declared.mode.TheConstants.{VALUES}

pub length-alphanumeric_characters : length alphanumeric_characters ≡ 45
unfolding alphanumeric_characters
length-alphanumeric_characters = refl

values : VALUES ≡ map alphanumeric_value (range_with_len 0 256)
unfolding alphanumeric_value alphanumeric_characters
values = refl

-- what the table has for a byte
pub value_is : (c : ℕ) → c < 256 → (get_or VALUES c 0 ≡ alphanumeric_value c) × (alphanumeric_value c ≤ 45)
unfolding alphanumeric_value
value_is c h =
    let most = prefix_len-le-length (λ x. not (x == c)) alphanumeric_characters in (
      ap (λ xs. get_or xs c 0) values ∙ get_or-map-range_with_len alphanumeric_value 0 256 c c 0 h (omega arith),
      omega (arith, most, length-alphanumeric_characters),
    )

abbrev digit_is_character : ℕ → Bool
digit_is_character d = nat_lt (alphanumeric_value (48 + d)) 45

digits : agree_below digit_is_character (λ d. true) 10 ≡ true
unfolding alphanumeric_value alphanumeric_characters
digits = refl

-- each digit is an alphanumeric character
pub no_digit : (c : ℕ) → 45 ≤ alphanumeric_value c → is_ascii_digit c ≡ false
no_digit c none = elim (cases_Bool (is_ascii_digit c)) [
  | inl digit ↦
      let parts = and_parts (nat_le 48 c) (nat_le c 57) digit in
      let first = leb-true 48 c parts.0 in
      let last = leb-true c 57 parts.1 in
      let place : 48 + (c - 48) ≡ c = omega arith in
      let test = agree_below_at digit_is_character (λ d. true) 10 (c - 48) digits (omega arith) in
      absurd (omega (arith, none, ltb-true _ 45 (rw place at test)))
  | inr other ↦ other
]
