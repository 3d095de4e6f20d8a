-- What the tables of patterns and characters, the switching rule and the check digit promise (ISO/IEC 15420 and 15417,
-- symbol characters, code sets and check digit).
-- Why: `WrongDigitsAreSeen`, `ExchangesAreSeen`: 15420, check digit; the theorem `coding_laws`.
-- Why: `WrongValuesAreSeen`, `NeighboursAreSeen`: 15417, check character; the theorem `coding_laws`.
use Rattle.std.specs.Prelude.{◌≡◌, ℕ, suc, ◌%◌, ◌<◌, ◌≤◌, List, ◌∷◌, ◌++◌, length, count_by}
use Rattle.std.specs.Char.{IsAsciiDigit}
use Rattle.linear.specs.declared.ean.NumberSet.{NumberSet}
use Rattle.linear.specs.Digits.{check_digit, digit_value}
use Rattle.linear.specs.Ean.{pattern}
use Rattle.linear.specs.Code128.{character_modules, check_value}
use Rattle.linear.specs.Switching.{ValuesAreWrittenBySteps}

-- the thirty patterns of a digit in a number set differ
abbrev pub PatternsDiffer : Type 0
PatternsDiffer =
    (set other_set : NumberSet) (digit other : ℕ) → digit < 10 → other < 10
    → pattern set digit ≡ pattern other_set other → (set ≡ other_set) × (digit ≡ other)

-- the characters of the values 0 to 106 differ
abbrev pub CharactersDiffer : Type 0
CharactersDiffer =
    (value other : ℕ) → value ≤ 106 → other ≤ 106 → character_modules value ≡ character_modules other → value ≡ other

-- a character has eleven modules
abbrev pub CharactersHaveElevenModules : Type 0
CharactersHaveElevenModules = (value : ℕ) → value < 106 → length (character_modules value) ≡ 11

-- a character has an even number of dark modules
abbrev pub WidthsAreEven : Type 0
WidthsAreEven = (value : ℕ) → value < 106 → count_by (λ dark. dark) (character_modules value) % 2 ≡ 0

-- one wrong digit, whichever it is, changes the check digit
abbrev pub WrongDigitsAreSeen : Type 0
WrongDigitsAreSeen =
    (before after : List ℕ) (digit wrong : ℕ) → IsAsciiDigit digit → IsAsciiDigit wrong
    → check_digit (before ++ digit ∷ after) ≡ check_digit (before ++ wrong ∷ after) → digit ≡ wrong

-- an exchange of two neighbours changes the check digit, unless they are equal or differ by 5
abbrev pub ExchangesAreSeen : Type 0
ExchangesAreSeen =
    (before after : List ℕ) (first second : ℕ) → IsAsciiDigit first → IsAsciiDigit second
    → check_digit (before ++ first ∷ second ∷ after) ≡ check_digit (before ++ second ∷ first ∷ after)
    → digit_value first % 5 ≡ digit_value second % 5

-- one wrong value changes the check value, unless its place is a multiple of 103
abbrev pub WrongValuesAreSeen : Type 0
WrongValuesAreSeen =
    (start : ℕ) (before after : List ℕ) (value wrong : ℕ) → 0 < suc (length before) % 103 → value < 103 → wrong < 103
    → check_value start (before ++ value ∷ after) ≡ check_value start (before ++ wrong ∷ after) → value ≡ wrong

-- an exchange of two neighbours changes the check value, wherever they are
abbrev pub NeighboursAreSeen : Type 0
NeighboursAreSeen =
    (start : ℕ) (before after : List ℕ) (first second : ℕ) → first < 103 → second < 103
    → check_value start (before ++ first ∷ second ∷ after) ≡ check_value start (before ++ second ∷ first ∷ after)
    → first ≡ second

-- all of these, the length of the stop character, and the values that the switching rule writes
pub record CodingLaws : Type 0 where
  pub patterns_differ : PatternsDiffer
  pub characters_differ : CharactersDiffer
  pub characters_have_eleven_modules : CharactersHaveElevenModules
  pub bars_are_even : WidthsAreEven
  pub stop_has_thirteen_modules : length (character_modules 106) ≡ 13
  pub values_are_written_by_steps : ValuesAreWrittenBySteps
  pub wrong_digits_are_seen : WrongDigitsAreSeen
  pub exchanges_are_seen : ExchangesAreSeen
  pub wrong_values_are_seen : WrongValuesAreSeen
  pub neighbours_are_seen : NeighboursAreSeen
