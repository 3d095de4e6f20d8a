-- The best choices of a first segment of each rest of the data, found from its end (the choice of ISO/IEC 18004,
-- annex J, made in this crate's own way). The limits of the character counts are left out.
use Rattle.std.specs.Prelude.{◌≡◌, ℕ, suc, ◌+◌, ◌^◌, ◌<◌, ◌≤◌, List, [], ◌∷◌, nat_lt, Bool, drop, length}
use Rattle.std.specs.Prelude.{if◌then◌else◌, ◌==◌, ◌&&◌, ◌||◌}
use Rattle.std.specs.Char.{is_ascii_digit}
use Rattle.qrdata.specs.Private.ChoiceView.{ChoiceView, rank_of}
use Rattle.qrdata.specs.Private.Firsts.{first_at}
use Rattle.qrdata.specs.declared.firsts.Firsts.{Firsts}
use Rattle.qrdata.specs.declared.segmentation.Digits.{Digits}
use Rattle.qrdata.specs.declared.segmentation.Characters.{Characters}
use Rattle.qrdata.specs.declared.segmentation.Choices.{Choices}
use Rattle.qrdata.specs.declared.segmentation.TheConstants.{ABSENT}
use Rattle.qrdata.specs.declared.mode.Mode.{Mode}
use Rattle.qrdata.specs.declared.mode.Mode.TheVariants.{Numeric, Alphanumeric, Byte}
use Rattle.qrdata.specs.Segments.{has_character, segment_length, segment_of}

-- the absent choice of a mode
abbrev pub absent_choice : Mode → ChoiceView
absent_choice mode = record { segment = segment_of mode 0; bits = ABSENT }

-- the choice of one byte, after which come the best segments of this many bits
abbrev pub short_choice : (version : ℕ) → Mode → (after : ℕ) → ChoiceView
short_choice version mode after =
    record { segment = segment_of mode 1; bits = segment_length version (segment_of mode 1) + after }

-- a choice with one byte more, which adds `added` bits
abbrev pub longer_choice : ChoiceView → (added : ℕ) → ChoiceView
longer_choice c added =
    record { segment = segment_of c.segment.mode (suc c.segment.len); bits = c.bits + added }

-- whether the second of two choices is the better one: it has fewer bits, or as many and a longer segment, or one as long
-- and a mode of lower rank
abbrev pub is_better : ChoiceView → ChoiceView → Bool
is_better c d = nat_lt d.bits c.bits || (d.bits == c.bits && (nat_lt c.segment.len d.segment.len
    || (c.segment.len == d.segment.len && nat_lt (rank_of d.segment.mode) (rank_of c.segment.mode))))

-- the better one of two choices
unfoldable pub better_choice : ChoiceView → ChoiceView → ChoiceView
better_choice c d = if is_better c d then d else c

-- no choices in numeric mode
abbrev pub absent_digits : Digits
absent_digits = record {
  none_over = absent_choice Numeric;
  one_over = absent_choice Numeric;
  two_over = absent_choice Numeric;
}

-- no choices in alphanumeric mode
abbrev pub absent_characters : Characters
absent_characters = record { none_over = absent_choice Alphanumeric; one_over = absent_choice Alphanumeric }

-- the choices in numeric mode of a byte and a rest, whose best segments have this many bits
unfoldable pub next_digits : (version byte after : ℕ) → Digits → Digits
next_digits version byte after rest =
    if is_ascii_digit byte then record {
      none_over = longer_choice rest.two_over 3;
      one_over = better_choice (longer_choice rest.none_over 4) (short_choice version Numeric after);
      two_over = longer_choice rest.one_over 3;
    } else absent_digits

-- the choices in alphanumeric mode of a byte and a rest
unfoldable pub next_characters : (version byte after : ℕ) → Characters → Characters
next_characters version byte after rest =
    if has_character Alphanumeric byte then record {
      none_over = longer_choice rest.one_over 5;
      one_over = better_choice (longer_choice rest.none_over 6) (short_choice version Alphanumeric after);
    } else absent_characters

-- the best of the choices in all modes
unfoldable pub best_choice : Digits → Characters → ChoiceView → ChoiceView
best_choice digits characters byte =
    better_choice (better_choice
    (better_choice (better_choice digits.none_over digits.one_over) digits.two_over)
    (better_choice characters.none_over characters.one_over)) byte

-- choices with the best of them
abbrev pub choices_with_best : Digits → Characters → ChoiceView → Choices
choices_with_best digits characters byte = record {
  digits = digits;
  characters = characters;
  bytes = byte;
  best = best_choice digits characters byte;
}

-- the choices of a byte that only byte mode has
abbrev pub byte_choices : ChoiceView → Choices
byte_choices byte = record {
  digits = absent_digits;
  characters = absent_characters;
  bytes = byte;
  best = byte;
}

-- the choices of a byte and a rest
unfoldable pub next_choices : (version byte : ℕ) → Choices → Choices
next_choices version byte rest =
    choices_with_best (next_digits version byte rest.best.bits rest.digits)
    (next_characters version byte rest.best.bits rest.characters)
    (better_choice (longer_choice rest.bytes 8) (short_choice version Byte rest.best.bits))

-- the choices of no bytes
abbrev pub no_choices : Choices
no_choices = record {
  digits = absent_digits;
  characters = absent_characters;
  bytes = absent_choice Byte;
  best = record { segment = segment_of Byte 0; bits = 0 };
}

-- the choices of the bytes
unfoldable pub choices_of : (version : ℕ) → List ℕ → Choices
choices_of version [] = no_choices
choices_of version (b ∷ bytes) = next_choices version b (choices_of version bytes)

-- the bits of the best list of the bytes
abbrev pub fewest_bits : (version : ℕ) → List ℕ → ℕ
fewest_bits version bytes = (choices_of version bytes).best.bits

-- the table names the first of the best segments of each rest of the bytes that begins at a place or behind it
abbrev pub NamesFirsts : (version : ℕ) → List ℕ → (place : ℕ) → Firsts → Type 0
NamesFirsts version bytes place firsts = (k : ℕ) → place ≤ k → k < length bytes
    → first_at firsts k ≡ (choices_of version (drop k bytes)).best.segment

-- what is true of each choice, by its mode and by how many of its bytes are over threes or twos
abbrev pub EachDigits : (Mode → ℕ → ChoiceView → Type 0) → Digits → Type 0
EachDigits P digits = P Numeric 0 digits.none_over × P Numeric 1 digits.one_over × P Numeric 2 digits.two_over

abbrev pub EachCharacters : (Mode → ℕ → ChoiceView → Type 0) → Characters → Type 0
EachCharacters P characters = P Alphanumeric 0 characters.none_over × P Alphanumeric 1 characters.one_over

abbrev pub Each : (Mode → ℕ → ChoiceView → Type 0) → Choices → Type 0
Each P choices = EachDigits P choices.digits × EachCharacters P choices.characters × P Byte 0 choices.bytes

-- there is room for a byte more
abbrev pub IsSmall : ChoiceView → Type 0
IsSmall c = (c.segment.len ≤ 657) × (c.bits < 2 ^ 20)

abbrev pub AreSmallDigits : Digits → Type 0
AreSmallDigits digits = EachDigits (λ mode class. IsSmall) digits

abbrev pub AreSmallCharacters : Characters → Type 0
AreSmallCharacters characters = EachCharacters (λ mode class. IsSmall) characters

-- one byte more has at most 28 bits
abbrev pub AreSmall : Choices → Type 0
AreSmall choices =
    AreSmallDigits choices.digits × AreSmallCharacters choices.characters
    × IsSmall choices.bytes × (choices.best.bits + 28 < ABSENT)
