-- A payload is read back.
use Rattle.std.proofs.Common.{◌≡◌, ℕ, ◌+◌, ◌-◌, ◌*◌, ◌/◌, ◌%◌, ◌<◌, ◌≤◌, List, [], ◌∷◌, ◌++◌, length, refl}
use Rattle.std.proofs.Common.{append_assoc, arith, Bool, true}
use Rattle.std.specs.Prelude.{◌==◌, nat_le, Some}
use Rattle.std.specs.Char.{is_ascii_digit}
use Rattle.std.specs.List.{list_all}
use Rattle.std.proofs.lemmas.Bool.{and_parts, eqb-true, ltb-true, leb-true}
use Rattle.std.proofs.lemmas.List.Sums.{passes_at_first}
use Rattle.labelcore.proofs.Laws.KeptLaws.{AreBytes}
use Rattle.qrdata.specs.declared.mode.Mode.{Mode}
use Rattle.qrdata.specs.declared.mode.Mode.TheVariants.{Numeric, Alphanumeric, Byte}
use Rattle.qrdata.specs.Segments.{alphanumeric_bits, alphanumeric_characters, alphanumeric_value}
use Rattle.qrdata.specs.Segments.{byte_bits, has_character, numeric_bits, payload_bits}
use Rattle.qrdata.specs.Reading.{alphanumeric_character, bytes_at, characters_at, digits_at, payload_at}
use Rattle.qrdata.proofs.Laws.BitStringLaws.{number_at-bits_of}
use Rattle.qrdata.proofs.Laws.CharacterLaws.{length-alphanumeric_characters}

digit_from : (c : ℕ) → is_ascii_digit c ≡ true → (48 ≤ c) × (c ≤ 57)
digit_from c h = let parts = and_parts (nat_le 48 c) (nat_le c 57) h in (leb-true _ _ parts.0, leb-true _ _ parts.1)

pub digits_at-numeric_bits : (digits : List ℕ) (rest : List Bool) → list_all is_ascii_digit digits ≡ true
    → digits_at (length digits) (numeric_bits digits ++ rest) ≡ Some (digits, rest)
unfolding digits_at numeric_bits
digits_at-numeric_bits [] rest h = refl
digits_at-numeric_bits (a ∷ []) rest h =
    let a_range = digit_from a (and_parts _ _ h).0 in
    let back : 48 + (a - 48) ≡ a = omega arith in
    rw (number_at-bits_of 10 4 (a - 48) rest (omega arith) (omega arith), back) refl
digits_at-numeric_bits (a ∷ b ∷ []) rest h =
    let parts = and_parts (is_ascii_digit a) (list_all is_ascii_digit (b ∷ [])) h in
    let a_range = digit_from a parts.0 in
    let b_range = digit_from b (and_parts _ _ parts.1).0 in
    let n = 10 * (a - 48) + (b - 48) in
    let first : 48 + n / 10 ≡ a = omega arith in
    let second : 48 + n % 10 ≡ b = omega arith in
    rw (number_at-bits_of 100 7 n rest (omega arith) (omega arith), first, second) refl
digits_at-numeric_bits (a ∷ b ∷ c ∷ digits) rest h =
    let parts = and_parts (is_ascii_digit a) (list_all is_ascii_digit (b ∷ c ∷ digits)) h in
    let later = and_parts (is_ascii_digit b) (list_all is_ascii_digit (c ∷ digits)) parts.1 in
    let last = and_parts (is_ascii_digit c) (list_all is_ascii_digit digits) later.1 in
    let a_range = digit_from a parts.0 in
    let b_range = digit_from b later.0 in
    let c_range = digit_from c last.0 in
    let n = 100 * (a - 48) + 10 * (b - 48) + (c - 48) in
    let first : 48 + n / 100 ≡ a = omega arith in
    let second : 48 + n / 10 % 10 ≡ b = omega arith in
    let third : 48 + n % 10 ≡ c = omega arith in
    rw (
      append_assoc,
      number_at-bits_of 1000 10 n (numeric_bits digits ++ rest) (omega arith) (omega arith),
      digits_at-numeric_bits digits rest last.1,
      first,
      second,
      third,
    ) refl

-- the value of a character is that character's place
pub character-value : (c : ℕ) → has_character Alphanumeric c ≡ true → alphanumeric_character (alphanumeric_value c) ≡ c
unfolding alphanumeric_value
character-value c h =
    let below : alphanumeric_value c < length alphanumeric_characters =
    omega (arith, ltb-true _ _ h, length-alphanumeric_characters) in
    eqb-true _ _ (passes_at_first (λ x. x == c) alphanumeric_characters 0 below)

pub characters_at-alphanumeric_bits : (cs : List ℕ) (rest : List Bool) → list_all (has_character Alphanumeric) cs ≡ true
    → characters_at (length cs) (alphanumeric_bits cs ++ rest) ≡ Some (cs, rest)
unfolding characters_at alphanumeric_bits
characters_at-alphanumeric_bits [] rest h = refl
characters_at-alphanumeric_bits (a ∷ []) rest h =
    let passes = (and_parts _ _ h).0 in
    let below : alphanumeric_value a < 45 = ltb-true _ _ passes in
    rw (number_at-bits_of 45 6 (alphanumeric_value a) rest (omega arith) (omega arith), character-value a passes) refl
characters_at-alphanumeric_bits (a ∷ b ∷ cs) rest h =
    let parts = and_parts (has_character Alphanumeric a) (list_all (has_character Alphanumeric) (b ∷ cs)) h in
    let later = and_parts (has_character Alphanumeric b) (list_all (has_character Alphanumeric) cs) parts.1 in
    let a_below : alphanumeric_value a < 45 = ltb-true _ _ parts.0 in
    let b_below : alphanumeric_value b < 45 = ltb-true _ _ later.0 in
    let n = 45 * alphanumeric_value a + alphanumeric_value b in
    let first : n / 45 ≡ alphanumeric_value a = omega arith in
    let second : n % 45 ≡ alphanumeric_value b = omega arith in
    rw (
      append_assoc,
      number_at-bits_of 2025 11 n (alphanumeric_bits cs ++ rest) (omega arith) (omega arith),
      characters_at-alphanumeric_bits cs rest later.1,
      first,
      second,
      character-value a parts.0,
      character-value b later.0,
    ) refl

pub bytes_at-byte_bits : (bytes : List ℕ) (rest : List Bool) → AreBytes bytes
    → bytes_at (length bytes) (byte_bits bytes ++ rest) ≡ Some (bytes, rest)
unfolding bytes_at byte_bits
bytes_at-byte_bits [] rest h = refl
bytes_at-byte_bits (b ∷ bytes) rest h = rw (
  append_assoc,
  number_at-bits_of 256 8 b (byte_bits bytes ++ rest) h.0 (omega arith),
  bytes_at-byte_bits bytes rest h.1,
) refl

-- a payload in a mode that has its bytes is read back
pub payload_at-payload_bits : (mode : Mode) (bytes : List ℕ) (rest : List Bool) → AreBytes bytes
    → list_all (has_character mode) bytes ≡ true
    → payload_at mode (length bytes) (payload_bits mode bytes ++ rest) ≡ Some (bytes, rest)
payload_at-payload_bits Numeric bytes rest w h = digits_at-numeric_bits bytes rest h
payload_at-payload_bits Alphanumeric bytes rest w h = characters_at-alphanumeric_bits bytes rest h
payload_at-payload_bits Byte bytes rest w h = bytes_at-byte_bits bytes rest w
