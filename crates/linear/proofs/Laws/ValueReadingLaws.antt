-- The values of data are read as the data (ISO/IEC 15417, code sets and symbol characters).
use Rattle.std.proofs.Common.{ℕ, ◌≡◌, ◌+◌, ◌-◌, ◌/◌, ◌%◌, ◌<◌, ◌≤◌, Bool, true, false, Some, None, Option, List, []}
use Rattle.std.proofs.Common.{◌∷◌}
use Rattle.std.proofs.Common.{◌++◌, refl, ap, ◌∙◌, arith, lt-ltb, le-ltb, inl, inr, if◌then◌else◌}
use Rattle.std.specs.Prelude.{option_map}
use Rattle.std.specs.Char.{IsAsciiDigit}
use Rattle.std.specs.Option.{option_map_or}
use Rattle.std.proofs.lemmas.Bool.{cases_lt}
use Rattle.std.proofs.lemmas.Bool.Decides.{nat_tests}
use Rattle.linear.specs.declared.switching.CodeSet.{CodeSet}
use Rattle.linear.specs.declared.switching.CodeSet.TheVariants.{A, B, C}
use Rattle.linear.specs.CodeSets.{set_has, character_value, pair_value, change_value, shift_value, pair_values}
use Rattle.linear.specs.Code128Reading.{Meaning, text, change, shift, none, meaning, other_set, read_values}
use Rattle.linear.proofs.Laws.CodeSetLaws.{Written, nothing, plain, shifted, changed, pair}

-- a character of a set means its byte
meaning-character : (set : CodeSet) (byte : ℕ) → byte < 128 → set_has set byte ≡ true
    → meaning set (character_value byte) ≡ text (byte ∷ [])
meaning-character A byte below has =
    let high : byte < 96 = grind (arith, nat_tests) in
    elim (cases_lt byte 32) [
      | inl low ↦ rw (lt-ltb byte 32 low, lt-ltb (byte + 64) 96 (omega arith)) (ap (λ b. text (b ∷ [])) (omega arith))
      | inr middle ↦ rw (le-ltb byte 32 middle, lt-ltb (byte - 32) 96 (omega arith))
          (ap (λ b. text (b ∷ [])) (omega arith))
    ]
meaning-character B byte below has =
    let low : 32 ≤ byte = grind (arith, nat_tests) in
    rw (le-ltb byte 32 low, lt-ltb (byte - 32) 96 (omega arith)) (ap (λ b. text (b ∷ [])) (omega arith))
meaning-character C byte below has = cc

meaning-pair : (first second : ℕ) → IsAsciiDigit first → IsAsciiDigit second
    → meaning C (pair_value first second) ≡ text (first ∷ second ∷ [])
meaning-pair first second d e =
    let tens : 48 + pair_value first second / 10 ≡ first = omega arith in
    let ones : 48 + pair_value first second % 10 ≡ second = omega arith in
    rw (lt-ltb (pair_value first second) 100 (omega arith), tens, ones) refl

-- what a shift goes to has the byte
shifts : (set : CodeSet) (byte : ℕ) (found : Option ℕ) → set_has set byte ≡ false
    → option_map_or (set_has set) found false ≡ true
    → (meaning set shift_value ≡ shift) × (set_has (other_set set) byte ≡ true)
shifts A byte found lacks is = (refl, grind (arith, nat_tests))
shifts B byte found lacks is = (refl, grind (arith, nat_tests))
shifts C byte None lacks is = cc
shifts C byte (Some b) lacks is = cc

-- a change goes to another set
meaning-change : (set next : CodeSet) (byte : ℕ) → set_has set byte ≡ false → set_has next byte ≡ true
    → meaning set (change_value next) ≡ change next
meaning-change A A byte lacks has = cc
meaning-change A B byte lacks has = refl
meaning-change B A byte lacks has = refl
meaning-change B B byte lacks has = cc
meaning-change C A byte lacks has = refl
meaning-change C B byte lacks has = refl
meaning-change set C byte lacks has = cc

-- what is read of a value with this meaning, and of the values after it
unfoldable pub read_next : CodeSet → Bool → List ℕ → Meaning → Option (List ℕ)
read_next set is_shifted values m =
    elim m [
      | text bytes ↦ option_map (λ rest. bytes ++ rest) (read_values set false values)
      | change next ↦ if is_shifted then None else read_values next false values
      | shift ↦ if is_shifted then None else read_values set true values
      | none ↦ None
    ]

read_values-pair_values : (set : CodeSet) (first second : ℕ) (values : List ℕ)
    → read_values set false (pair_values set first second ++ values)
    ≡ read_values C false (pair_value first second ∷ values)
read_values-pair_values A first second values = refl
read_values-pair_values B first second values = refl
read_values-pair_values C first second values = refl

-- what is written from a set on is read from it on
pub read_values-written : {set : CodeSet} {bytes values : List ℕ} → Written set bytes values
    → read_values set false values ≡ Some bytes
unfolding read_next
read_values-written nothing = refl
read_values-written (plain {set = set} {byte = byte} {values = values} below odd has w) =
    ap (read_next set false values) (meaning-character set byte below has)
    ∙ ap (option_map (λ after. byte ∷ after)) (read_values-written w)
read_values-written (shifted {set = set} {byte = byte} {rest = rest} {values = values} below odd lacks is w) =
    let other = shifts set byte _ lacks is in
    ap (read_next set false (character_value byte ∷ values)) other.0
    ∙ ap (read_next set true values) (meaning-character (other_set set) byte below other.1)
    ∙ ap (option_map (λ after. byte ∷ after)) (read_values-written w)
read_values-written (changed {set = set} {byte = byte} {values = values} below odd lacks is next picked has w) =
    ap (read_next set false (character_value byte ∷ values)) (meaning-change set next byte lacks has)
    ∙ ap (read_next next false values) (meaning-character next byte below has)
    ∙ ap (option_map (λ after. byte ∷ after)) (read_values-written w)
read_values-written (pair {set = set} {first = first} {second = second} {values = values} even d e w) =
    read_values-pair_values set first second values
    ∙ ap (read_next C false values) (meaning-pair first second d e)
    ∙ ap (option_map (λ after. first ∷ second ∷ after)) (read_values-written w)
