-- A row has no second reading: the lengths separate the symbologies, and backwards the first left group of EAN is in
-- set B, and Code 128 begins with no character (ISO/IEC 15420 and 15417, symbol characters and symbol structure).
use Rattle.std.proofs.Common.{◌==◌, if◌then◌else◌, eq-eqb, ◌≡◌, ℕ, suc, ◌+◌, ◌*◌, ◌%◌, ◌<◌, ◌≤◌, Bool, true, false}
use Rattle.std.proofs.Common.{Option, Some, None, List, [], ◌∷◌, ◌++◌, length, take, drop, get_or, refl, sym, ap, subst}
use Rattle.std.proofs.Common.{◌⊎◌, inl, inr, ◌-◌, ◌∙◌, arith, append_assoc, append-nil, length-append}
use Rattle.std.specs.Prelude.{flat_map, is_some, position, replicate, reverse, slice_index}
use Rattle.std.specs.Char.{IsAsciiDigit}
use Rattle.std.specs.List.{AllByRecursion, list_all, range_with_len}
use Rattle.std.specs.Option.{option_to_list}
use Rattle.std.proofs.lemmas.Bool.{false≢true}
use Rattle.std.proofs.lemmas.Bool.Decides.{nat_tests}
use Rattle.std.proofs.lemmas.Grind.{flat_map-append}
use Rattle.std.proofs.lemmas.List.{get_or-reverse, length-reverse, reverse-append, take_all, take_more, take_at}
use Rattle.std.proofs.lemmas.Option.{option_and_then_some}
use Rattle.linear.specs.declared.ean.NumberSet.{NumberSet}
use Rattle.linear.specs.declared.ean.NumberSet.TheVariants.{A, B, C}
use Rattle.linear.specs.declared.tables.TheConstants.{STOP}
use Rattle.linear.specs.Digits.{digit_value}
use Rattle.linear.specs.Ean.{pattern, patterns, normal_guard, centre_guard, symbol, left_sets, ean13_row}
use Rattle.linear.specs.EanReading.{digit_in, digit_in_a_or_b, read_ean8, read_ean13, read_upca}
use Rattle.linear.specs.Modules.{same_modules}
use Rattle.linear.specs.Tables.{left_half_sets, number_set_a}
use Rattle.linear.specs.Code128.{character_modules}
use Rattle.linear.specs.Code128Reading.{read_code128}
use Rattle.linear.specs.Private.Data.{AreDigits, IsFull}
use Rattle.linear.specs.Scanning.{HasOneReading, readings}
use Rattle.linear.proofs.Laws.CharacterLaws.{group_value, group_value-character_modules, length-character_modules}
use Rattle.linear.proofs.Laws.CharacterRowLaws.{length-row}
use Rattle.linear.proofs.Laws.EanLaws.{back_digits, by_recursion, front_digits, left_groups_of, length-symbol}
use Rattle.linear.proofs.Laws.EanLaws.{right_groups_of}
use Rattle.linear.proofs.Laws.PatternLaws.{digit_in-pattern, digit_in_a-pattern_b, length-left_sets, length-pattern}
use Rattle.labelcore.proofs.Laws.ComputedLaws.{passes}
use Rattle.linear.proofs.Laws.PatternLaws.{IsAOrB, four_a, left_sets_a_or_b, right_half}
use Rattle.linear.proofs.Laws.ReadRowLaws.{code128_drawn, ean13_drawn, ean8_drawn}
use Rattle.linear.proofs.Laws.ValueRangeLaws.{AreCharacters}
use Rattle.linear.proofs.Laws.TableLaws.{all_characters, characters-all_characters, stop_character}

-- a row in which a beginning is found, and none where it is read backwards; the lengths tell the rules apart by their
-- remainders
record IsOneWay (kind : ℕ) (begins : List Bool → Bool) (row : List Bool) : Type 0 where
  long : length row % 11 ≡ kind
  forwards : begins row ≡ true
  backwards : begins (reverse row) ≡ false
  some : 0 < length row
  starts : get_or row 0 false ≡ true
  ends : get_or (reverse row) 0 false ≡ true

-- a row begins as its first part does, and ends as its last one
starts_dark : (first middle last : List Bool) → get_or first 0 false ≡ true
    → get_or ((first ++ middle) ++ last) 0 false ≡ true
starts_dark [] middle last e = absurd (false≢true e)
starts_dark (x ∷ first) middle last e = e

ends_dark : (first middle last : List Bool) → get_or (reverse last) 0 false ≡ true
    → get_or (reverse (first ++ (middle ++ last))) 0 false ≡ true
ends_dark first middle last e =
    rw (reverse-append first (middle ++ last), reverse-append middle last)
    (starts_dark (reverse last) (reverse middle) (reverse first) e)

-- ---- EAN

-- whether the first left group is found in set A
abbrev begins_in_a : List Bool → Bool
begins_in_a row = is_some (digit_in A (take 7 (drop 3 row)))

first_in_a : (sets : List NumberSet) (bytes : List ℕ) (after : List Bool) → 0 < length sets → 0 < length bytes
    → ((digit : ℕ) → digit < 10 → is_some (digit_in A (pattern (get_or sets 0 B) digit)) ≡ true)
    → AllByRecursion IsAsciiDigit bytes → begins_in_a (normal_guard ++ (patterns sets bytes ++ after)) ≡ true
first_in_a [] bytes after long some a d = absurd (omega arith)
first_in_a (set ∷ sets) [] after long some a d = absurd (omega arith)
first_in_a (set ∷ sets) (byte ∷ bytes) after long some a d =
    let value = digit_value byte in
    let below : value < 10 = omega (arith, d.0) in
    rw (
      append_assoc (pattern set value) (patterns sets bytes) after,
      take_at (pattern set value) (patterns sets bytes ++ after) 7 (length-pattern set value below),
    ) (a value below)

-- backwards, the last right group is the first, and in set B
last_in_b : (front : List Bool) (byte : ℕ) → IsAsciiDigit byte
    → begins_in_a (reverse (front ++ (pattern C (digit_value byte) ++ normal_guard))) ≡ false
last_in_b front byte d =
    let value = digit_value byte in
    rw (
      reverse-append front (pattern C value ++ normal_guard),
      reverse-append (pattern C value) normal_guard,
      take_at (pattern B value) (reverse front) 7 (length-pattern B value (omega (arith, d))),
      digit_in_a-pattern_b value (omega (arith, d)),
    ) refl

symbol_is : (n : ℕ) (sets : List NumberSet) (bytes : List ℕ) → length sets ≡ suc n → AllByRecursion IsAOrB sets
    → ((digit : ℕ) → digit < 10 → is_some (digit_in A (pattern (get_or sets 0 B) digit)) ≡ true)
    → AreDigits (suc n + suc n) bytes
    → IsOneWay ((11 + 14 * suc n) % 11) begins_in_a (symbol sets (take (suc n) bytes) (drop (suc n) bytes))
symbol_is n sets bytes count s a d =
    let xs = take (suc n) bytes in
    let rs = drop (suc n) bytes in
    let front = front_digits (suc n) (suc n) bytes d in
    let back = back_digits (suc n) (suc n) bytes d in
    let left = by_recursion (suc n) xs front in
    let value = digit_value (slice_index rs n) in
    let cut : right_half rs ≡ right_half (take n rs) ++ (pattern C value ++ []) =
    ap right_half (sym (take_all (n + 1) rs (omega (arith, back.long)))
    ∙ take_more rs n 0 (omega (arith, back.long))) ∙ flat_map-append _ (take n rs) (slice_index rs n ∷ []) in
    let before = normal_guard ++ (patterns sets xs ++ (centre_guard ++ right_half (take n rs))) in
    let whole : symbol sets xs rs ≡ before ++ (pattern C value ++ normal_guard) =
    rw (cut, append-nil (pattern C value)) (simp append_assoc refl) in
    record {
      long = ap (λ n. n % 11) (length-symbol digit_in_a_or_b (suc n) sets xs rs _
          (left_groups_of (suc n) sets xs count s front) (right_groups_of (suc n) rs back));
      forwards = first_in_a sets xs (centre_guard ++ (right_half rs ++ normal_guard)) (omega (arith, count))
          (omega (arith, front.long)) a left;
      backwards = ap (λ row. begins_in_a (reverse row)) whole
          ∙ last_in_b before (slice_index rs n) (back.digits n 0 (omega (arith, back.long)));
      some = omega arith;
      starts = refl;
      ends = ap (λ row. get_or (reverse row) 0 false) whole
          ∙ ends_dark before (pattern C value) normal_guard refl;
    }

ean8_is : (row : List Bool) (full : List ℕ) → read_ean8 row ≡ Some full → IsOneWay 1 begins_in_a row
ean8_is row full read =
    let are = ean8_drawn row full read in
    subst (IsOneWay 1 begins_in_a) (sym are.0) (symbol_is 3 (replicate 4 A) full refl four_a
    (λ digit below. ap is_some (digit_in-pattern A digit below)) are.1.digits)

-- the first group of each left half is found in set A
abbrev in_a : ℕ → ℕ → Bool
in_a first digit = is_some (digit_in A (pattern (get_or (left_sets first) 0 B) digit))

all_in_a : list_all (λ first. list_all (in_a first) (range_with_len 0 10)) (range_with_len 0 10) ≡ true
unfolding number_set_a left_half_sets
all_in_a = refl

ean13_is : (row : List Bool) (full : List ℕ) → read_ean13 row ≡ Some full → IsOneWay 7 begins_in_a row
ean13_is row full read =
    let are = ean13_drawn row full read in subst (IsOneWay 7 begins_in_a) (sym are.0) (ean13_row_is full are.1)
  where
    ean13_row_is : (full : List ℕ) → IsFull 12 full → IsOneWay 7 begins_in_a (ean13_row full)
    ean13_row_is [] f = absurd (let long = f.digits.long in omega arith)
    ean13_row_is (first ∷ rest) f =
        let d : IsAsciiDigit first = f.digits.digits 0 0 (let long = f.digits.long in omega arith) in
        let value = digit_value first in
        let all = passes (λ first. list_all (in_a first) (range_with_len 0 10)) 10 value all_in_a (omega arith) in
        symbol_is 5 (left_sets value) rest (length-left_sets value (omega arith)) (left_sets_a_or_b value)
        (λ digit below. passes (in_a value) 10 digit all below) (back_digits 1 12 (first ∷ rest) f.digits)

-- ---- Code 128

-- whether the first group is a character
abbrev begins_in_character : List Bool → Bool
begins_in_character row = is_some (group_value (take 11 row))

no_character : (row : List Bool)
    → is_some (position (same_modules (take 11 (reverse STOP ++ row))) all_characters) ≡ false
unfolding all_characters
no_character row = refl

character_dark : (value : ℕ) → value < 107 → get_or (character_modules value) 0 false ≡ true
unfolding all_characters
character_dark value h =
    subst (λ row. get_or row 0 false ≡ true) (ap (λ table. get_or table value []) (sym characters-all_characters))
    (passes (λ value. get_or (get_or all_characters value []) 0 false) 107 value refl h)

code128_is : (row : List Bool) (full : List ℕ) → read_code128 row ≡ Some full
    → IsOneWay 2 begins_in_character row
code128_is row full read =
    let are = code128_drawn row full read in
    subst (IsOneWay 2 begins_in_character) (sym are.row_is) (characters_are are.values are.known are.some)
  where
    characters_are : (values : List ℕ) → AreCharacters values → 0 < length values
        → IsOneWay 2 begins_in_character
        (flat_map character_modules values ++ character_modules 106)
    characters_are [] known some = absurd (omega arith)
    characters_are (value ∷ values) known some =
        let rest = flat_map character_modules values in
        record {
          long = omega (arith, length-row (value ∷ values) known);
          forwards = rw (
            append_assoc (character_modules value) rest (character_modules 106),
            take_at (character_modules value) (rest ++ character_modules 106) 11
                (length-character_modules value known.0),
            group_value-character_modules value (omega (arith, known.0)),
          ) refl;
          backwards = ap begins_in_character (reverse-append (character_modules value ++ rest) (character_modules 106))
              ∙ ap (λ stop. begins_in_character (reverse stop ++ reverse (character_modules value ++ rest)))
              (sym stop_character)
              ∙ ap (λ table. is_some (position (same_modules (take 11 (reverse STOP
              ++ reverse (character_modules value ++ rest)))) table)) characters-all_characters
              ∙ no_character (reverse (character_modules value ++ rest));
          some = omega (arith, length-row (value ∷ values) known);
          starts = starts_dark (character_modules value) rest (character_modules 106)
              (character_dark value (omega (arith, known.0)));
          ends = ends_dark (character_modules value ++ rest) [] (character_modules 106)
              (subst (λ stop. get_or (reverse stop) 0 false ≡ true) stop_character refl);
        }

-- ---- one reading

-- a rule reads a row at most once, in one direction, and only where the row has its length
readings_by : (List Bool → Option (List ℕ)) → List Bool → List (List ℕ)
readings_by reading row = option_to_list (reading row) ++ option_to_list (reading (reverse row))

at_most_one : (kind : ℕ) (begins : List Bool → Bool) (reading : List Bool → Option (List ℕ))
    → ((row : List Bool) (full : List ℕ) → reading row ≡ Some full → IsOneWay kind begins row) → (row : List Bool)
    → length (readings_by reading row) ≤ (if length row % 11 == kind then 1 else 0)
unfolding readings_by
at_most_one kind begins reading is row = at (reading row) (reading (reverse row)) refl refl
  where
    at : (o p : Option (List ℕ)) → reading row ≡ o → reading (reverse row) ≡ p
        → length (option_to_list o ++ option_to_list p) ≤ (if length row % 11 == kind then 1 else 0)
    at None None e f = omega arith
    at (Some x) None e f = rw (eq-eqb _ kind (is row x e).long) (omega arith)
    at None (Some y) e f =
        rw (eq-eqb _ kind (ap (λ n. n % 11) (sym (length-reverse row)) ∙ (is (reverse row) y f).long)) (omega arith)
    at (Some x) (Some y) e f = absurd (false≢true (sym (is row x e).backwards ∙ (is (reverse row) y f).forwards))

one_kind : (n : ℕ) → (if n == 7 then 1 else 0) + ((if n == 1 then 1 else 0) + (if n == 2 then 1 else 0)) ≤ 1
one_kind n = grind (arith, nat_tests)

pub has_one_reading : (row : List Bool) → HasOneReading row
unfolding readings_by
has_one_reading row =
    let a = readings_by read_ean13 row in
    let b = readings_by read_ean8 row in
    let c = readings_by read_code128 row in
    omega (
      arith,
      at_most_one 7 begins_in_a read_ean13 ean13_is row,
      at_most_one 1 begins_in_a read_ean8 ean8_is row,
      at_most_one 2 begins_in_character read_code128 code128_is row,
      one_kind (length row % 11),
      length-append a (b ++ (c ++ [])),
      length-append b (c ++ []),
      length-append c [],
    )

-- ---- the ends of what is read

-- a row that begins and ends dark
pub record IsBounded (row : List Bool) : Type 0 where
  pub some : 0 < length row
  pub first : get_or row 0 false ≡ true
  pub last : get_or row (length row - 1) false ≡ true

last_module : (row : List Bool) → 0 < length row → get_or row (length row - 1) false ≡ get_or (reverse row) 0 false
last_module row some =
    let same : length row - 1 ≡ length row - 1 - 0 = omega arith in
    ap (λ i. get_or row i false) same ∙ sym (get_or-reverse row 0 false some)

IsBounded-one_way : (kind : ℕ) (begins : List Bool → Bool) (row : List Bool) → IsOneWay kind begins row → IsBounded row
IsBounded-one_way kind begins row is = record {
  some = is.some;
  first = is.starts;
  last = last_module row is.some ∙ is.ends;
}

IsBounded-reverse : (row : List Bool) → IsBounded (reverse row) → IsBounded row
IsBounded-reverse row is =
    let same = length-reverse row in
    let some : 0 < length row = omega (arith, is.some, same) in
    let back : length row - 1 - (length (reverse row) - 1) ≡ 0 = omega (arith, same) in
    record {
      some = some;
      first = ap (λ i. get_or row i false) (sym back)
          ∙ sym (get_or-reverse row (length (reverse row) - 1) false (omega (arith, some, same))) ∙ is.last;
      last = last_module row some ∙ is.first;
    }

read_bounded : (kind : ℕ) (begins : List Bool → Bool) (reading : List Bool → Option (List ℕ))
    → ((row : List Bool) (full : List ℕ) → reading row ≡ Some full → IsOneWay kind begins row) → (row : List Bool)
    → (readings_by reading row ≡ []) ⊎ IsBounded row
unfolding readings_by
read_bounded kind begins reading is row = at (reading row) (reading (reverse row)) refl refl
  where
    at : (o p : Option (List ℕ)) → reading row ≡ o → reading (reverse row) ≡ p
        → (option_to_list o ++ option_to_list p ≡ []) ⊎ IsBounded row
    at None None e f = inl refl
    at (Some x) p e f = inr (IsBounded-one_way kind begins row (is row x e))
    at None (Some y) e f =
        inr (IsBounded-reverse row (IsBounded-one_way kind begins (reverse row) (is (reverse row) y f)))

-- what is read, forwards or backwards, begins and ends dark
pub bounded : (row : List Bool) → (readings row ≡ []) ⊎ IsBounded row
unfolding readings_by
bounded row =
    elim (read_bounded 7 begins_in_a read_ean13 ean13_is row) [
      | inr is ↦ inr is
      | inl none_13 ↦ elim (read_bounded 1 begins_in_a read_ean8 ean8_is row) [
        | inr is ↦ inr is
        | inl none_8 ↦ elim (read_bounded 2 begins_in_character read_code128 code128_is row) [
          | inr is ↦ inr is
          | inl none_128 ↦ inl (rw (none_13, none_8, none_128) refl)
        ]
      ]
    ]

pub ean13_bounded : (row : List Bool) (full : List ℕ) → read_ean13 row ≡ Some full → IsBounded row
ean13_bounded row full read = IsBounded-one_way 7 begins_in_a row (ean13_is row full read)

pub upca_bounded : (row : List Bool) (full : List ℕ) → read_upca row ≡ Some full → IsBounded row
upca_bounded row full read =
    option_and_then_some _ (read_ean13 row) full read (λ found is after. ean13_bounded row found is)

pub ean8_bounded : (row : List Bool) (full : List ℕ) → read_ean8 row ≡ Some full → IsBounded row
ean8_bounded row full read = IsBounded-one_way 1 begins_in_a row (ean8_is row full read)

pub code128_bounded : (row : List Bool) (full : List ℕ) → read_code128 row ≡ Some full → IsBounded row
code128_bounded row full read = IsBounded-one_way 2 begins_in_character row (code128_is row full read)
