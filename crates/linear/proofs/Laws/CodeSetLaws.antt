-- How data is written in code sets, case by case (ISO/IEC 15417, code sets).
use Rattle.std.proofs.Common.{ℕ, ◌≡◌, ◌+◌, ◌<◌, ◌≤◌, Bool, true, false, cond, List, [], ◌∷◌, ◌++◌, length, drop, get_or}
use Rattle.std.proofs.Common.{append-nil, subst, sym, ap, refl, arith, lt-ltb, le-ltb, le-leb, inl, inr}
use Rattle.std.specs.Char.{IsAsciiDigit, is_ascii_digit}
use Rattle.std.specs.List.{AllByRecursion, prefix_len}
use Rattle.std.proofs.lemmas.Bool.{cases_lt}
use Rattle.std.proofs.lemmas.Bool.Decides.{nat_tests}
use Rattle.linear.specs.declared.switching.CodeSet.{CodeSet}
use Rattle.linear.specs.declared.switching.CodeSet.TheVariants.{A, B, C}
use Rattle.linear.specs.CodeSets.{set_has, character_value, change_value, shift_value, leading_digits, is_next}
use Rattle.linear.specs.CodeSets.{picked_set, is_pair_next, pair_values, byte_values, data_values}

-- the set that is picked has the first byte
a_or_b : (byte : ℕ) → 32 ≤ byte → byte < 96 → (b : Bool) → set_has (cond b A B) byte ≡ true
a_or_b byte low high true = lt-ltb byte 96 high
a_or_b byte low high false = le-leb 32 byte low

picked_set-has : (byte : ℕ) (rest : List ℕ) → set_has (picked_set (byte ∷ rest)) byte ≡ true
picked_set-has byte rest =
    elim (cases_lt byte 32) [
      | inl low ↦ rw (lt-ltb byte 32 low) (rw (lt-ltb byte 96 (omega arith)) (lt-ltb byte 96 (omega arith)))
      | inr high ↦ elim (cases_lt byte 96) [
        | inl middle ↦ a_or_b byte high middle (is_next A (byte ∷ rest))
        | inr lower ↦ rw (le-ltb byte 32 high, le-leb 96 byte lower) (rw (le-ltb byte 96 lower) (le-leb 32 byte high))
      ]
    ]

-- a pair is two digits or more
pub two_digits_next : (set : CodeSet) (bytes : List ℕ) → is_pair_next set bytes ≡ true → 2 ≤ leading_digits bytes
two_digits_next A bytes h = grind (arith, nat_tests)
two_digits_next B bytes h = grind (arith, nat_tests)
two_digits_next C bytes h = grind (arith, nat_tests)

digit_from_true : (byte : ℕ) → is_ascii_digit byte ≡ true → IsAsciiDigit byte
digit_from_true byte h = grind (arith, nat_tests)

two_digits : (first second : ℕ) (rest : List ℕ) → 2 ≤ leading_digits (first ∷ second ∷ rest)
    → IsAsciiDigit first × IsAsciiDigit second
two_digits first second rest = by_tests (is_ascii_digit first) (is_ascii_digit second) refl refl where
  by_tests : (b d : Bool) → is_ascii_digit first ≡ b → is_ascii_digit second ≡ d
      → 2 ≤ cond b (1 + cond d (1 + prefix_len is_ascii_digit rest) 0) 0 → IsAsciiDigit first × IsAsciiDigit second
  by_tests true true e f h = (digit_from_true first e, digit_from_true second f)
  by_tests true false e f h = absurd (omega arith)
  by_tests false d e f h = absurd (omega arith)

no_single : (set : CodeSet) (byte : ℕ) → is_pair_next set (byte ∷ []) ≡ false
no_single A byte = grind (arith, nat_tests)
no_single B byte = grind (arith, nat_tests)
no_single C byte = grind (arith, nat_tests)

-- what is written of two bytes or more, by whether a pair is next
by_case : CodeSet → ℕ → ℕ → List ℕ → Bool → List ℕ
by_case set first second rest b =
    let step = byte_values set first (second ∷ rest) in
    elim b [
      | true ↦ pair_values set first second ++ data_values C rest
      | false ↦ step.0 ++ data_values step.1 (second ∷ rest)
    ]

-- two digits come first, and their values
pub record PairFirst (set : CodeSet) (byte : ℕ) (after : List ℕ) : Type 0 where
  pub within : 1 ≤ length after
  pub first : IsAsciiDigit byte
  pub second : IsAsciiDigit (get_or after 0 0)
  pub values : data_values set (byte ∷ after) ≡ pair_values set byte (get_or after 0 0)
      ++ data_values C (drop 1 after)

pub pair_first : (set : CodeSet) (first : ℕ) (after : List ℕ) → is_pair_next set (first ∷ after) ≡ true
    → PairFirst set first after
unfolding by_case
pair_first set first [] h = absurd (let e = no_single set first in cc)
pair_first set first (second ∷ rest) h =
    let digits = two_digits first second rest (two_digits_next set (first ∷ second ∷ rest) h) in
    record { within = omega arith; first = digits.0; second = digits.1; values = ap (by_case set first second rest) h }

-- a byte comes first, and its values
pub byte_first : (set : CodeSet) (byte : ℕ) (rest : List ℕ) → is_pair_next set (byte ∷ rest) ≡ false
    → data_values set (byte ∷ rest) ≡ (byte_values set byte rest).0 ++ data_values (byte_values set byte rest).1 rest
unfolding by_case
byte_first set byte [] h = sym (append-nil (byte_values set byte []).0)
byte_first set first (second ∷ rest) h = ap (by_case set first second rest) h

-- how values are written from a set on: a character of the set, a shift, a change of set, or two digits
pub data Written : CodeSet → List ℕ → List ℕ → Type 0 where
  nothing : {set : CodeSet} → Written set [] []
  plain : {set : CodeSet} {byte : ℕ} {rest values : List ℕ} → byte < 128 → is_pair_next set (byte ∷ rest) ≡ false
      → set_has set byte ≡ true → Written set rest values → Written set (byte ∷ rest) (character_value byte ∷ values)
  shifted : {set : CodeSet} {byte : ℕ} {rest values : List ℕ} → byte < 128 → is_pair_next set (byte ∷ rest) ≡ false
      → set_has set byte ≡ false → is_next set rest ≡ true → Written set rest values
      → Written set (byte ∷ rest) (shift_value ∷ character_value byte ∷ values)
  changed : {set : CodeSet} {byte : ℕ} {rest values : List ℕ} → byte < 128 → is_pair_next set (byte ∷ rest) ≡ false
      → set_has set byte ≡ false → is_next set rest ≡ false → (next : CodeSet) → picked_set (byte ∷ rest) ≡ next
      → set_has next byte ≡ true → Written next rest values
      → Written set (byte ∷ rest) (change_value next ∷ character_value byte ∷ values)
  pair : {set : CodeSet} {first second : ℕ} {rest values : List ℕ} → is_pair_next set (first ∷ second ∷ rest) ≡ true
      → IsAsciiDigit first → IsAsciiDigit second → Written C rest values
      → Written set (first ∷ second ∷ rest) (pair_values set first second ++ values)

byte_written : (set : CodeSet) (byte : ℕ) (rest values : List ℕ) → byte < 128
    → is_pair_next set (byte ∷ rest) ≡ false → Written (byte_values set byte rest).1 rest values
    → Written set (byte ∷ rest) ((byte_values set byte rest).0 ++ values)
byte_written set byte rest values below odd = by_tests (set_has set byte) (is_next set rest) refl refl where
  picked : CodeSet
  picked = picked_set (byte ∷ rest)

  step : Bool → Bool → List ℕ × CodeSet
  step has next =
      cond has (character_value byte ∷ [], set) (cond next (shift_value ∷ character_value byte ∷ [], set)
      (change_value picked ∷ character_value byte ∷ [], picked))

  by_tests : (has next : Bool) → set_has set byte ≡ has → is_next set rest ≡ next
      → Written (step has next).1 rest values → Written set (byte ∷ rest) ((step has next).0 ++ values)
  by_tests true next e f w = plain below odd e w
  by_tests false true e f w = shifted below odd e f w
  by_tests false false e f w = changed below odd e f picked refl (picked_set-has byte rest) w

-- the values of ASCII bytes are written so
pub data_values-written : (set : CodeSet) (bytes : List ℕ) → AllByRecursion (λ byte. byte < 128) bytes
    → Written set bytes (data_values set bytes)
data_values-written set [] d = nothing
data_values-written set (byte ∷ []) d =
    subst (Written set (byte ∷ [])) (append-nil (byte_values set byte []).0)
    (byte_written set byte [] [] d.0 (no_single set byte) nothing)
data_values-written set (first ∷ second ∷ rest) d =
    let bytes : List ℕ = first ∷ second ∷ rest in
    let by_test : (b : Bool) → is_pair_next set bytes ≡ b → Written set bytes (data_values set bytes) =
    elim [
      | true ↦ λ e.
          let p = pair_first set first (second ∷ rest) e in
          subst (Written set bytes) (sym p.values) (pair e p.first p.second (data_values-written C rest d.1.1))
      | false ↦ λ e.
          subst (Written set bytes) (sym (byte_first set first (second ∷ rest) e))
          (byte_written set first (second ∷ rest) _ d.0 e (data_values-written _ (second ∷ rest) d.1))
    ] in
    by_test (is_pair_next set bytes) refl
