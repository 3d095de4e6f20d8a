-- Nowhere in a row that is read do five light modules follow one another: groups of the left half end dark, the others
-- begin dark, and none has five (ISO/IEC 15420 and 15417, symbol characters).
use Rattle.std.proofs.Common.{◌≡◌, ℕ, zero, suc, ◌+◌, ◌≤◌, ◌<◌, Bool, true, false, Option, Some, None, List, [], ◌∷◌}
use Rattle.std.proofs.Common.{◌++◌, take, drop, get_or, refl, sym, ap, subst, ◌∙◌, arith, inl, inr}
use Rattle.std.specs.Prelude.{flat_map, nat_le, option_and_then, replicate}
use Rattle.std.specs.Char.{IsAsciiDigit}
use Rattle.std.specs.List.{AllByRecursion, list_all, range_with_len}
use Rattle.std.specs.Option.{option_map_or}
use Rattle.std.proofs.lemmas.Bool.{false≢true, leb-true}
use Rattle.std.proofs.lemmas.Option.{none-some}
use Rattle.linear.specs.declared.ean.NumberSet.{NumberSet}
use Rattle.linear.specs.declared.ean.NumberSet.TheVariants.{A, B, C}
use Rattle.linear.specs.Digits.{digit_value}
use Rattle.linear.specs.Ean.{pattern, patterns, normal_guard, centre_guard, symbol, left_sets, ean13_row}
use Rattle.linear.specs.EanReading.{read_ean8, read_ean13, read_upca}
use Rattle.linear.specs.Tables.{number_set_a}
use Rattle.linear.specs.Code128.{character_modules}
use Rattle.linear.specs.Code128Reading.{read_code128}
use Rattle.linear.specs.Private.Data.{AreDigits, IsFull}
use Rattle.linear.specs.Scanning.{HasNoGap}
use Rattle.linear.proofs.Laws.EanLaws.{back_digits, by_recursion, front_digits}
use Rattle.labelcore.proofs.Laws.ComputedLaws.{passes}
use Rattle.linear.proofs.Laws.PatternLaws.{IsAOrB, four_a, is_value, left_sets_a_or_b, right_half}
use Rattle.linear.proofs.Laws.PatternLaws.{value_from_test}
use Rattle.linear.proofs.Laws.ReadRowLaws.{code128_drawn, ean13_drawn, ean8_drawn, upca_drawn}
use Rattle.linear.proofs.Laws.TableLaws.{all_characters, characters-all_characters}

-- how many light modules may follow a row, where `room` may follow what is before it, and four a dark module
unfoldable pub clear : ℕ → List Bool → Option ℕ
clear room [] = Some room
clear room (true ∷ row) = clear 4 row
clear zero (false ∷ row) = None
clear (suc room) (false ∷ row) = clear room row

clear-append : (room : ℕ) (front row : List Bool)
    → clear room (front ++ row) ≡ option_and_then (λ left. clear left row) (clear room front)
unfolding clear
clear-append room [] row = refl
clear-append room (true ∷ front) row = clear-append 4 front row
clear-append zero (false ∷ front) row = refl
clear-append (suc room) (false ∷ front) row = clear-append room front row

too_long : (room count : ℕ) (after : List Bool) → room < count → clear room (replicate count false ++ after) ≡ None
unfolding clear
too_long room zero after short = absurd (omega arith)
too_long zero (suc count) after short = refl
too_long (suc room) (suc count) after short = too_long room count after (omega arith)

gap_seen : (room : ℕ) (before after : List Bool) → room ≤ 4
    → clear room (before ++ (replicate 5 false ++ after)) ≡ None
unfolding clear
gap_seen room [] after few = too_long room 5 after (omega arith)
gap_seen room (true ∷ before) after few = gap_seen 4 before after (omega arith)
gap_seen zero (false ∷ before) after few = refl
gap_seen (suc room) (false ∷ before) after few = gap_seen room before after (omega arith)

pub HasNoGap-clear : (row : List Bool) (left : ℕ) → clear 4 row ≡ Some left → HasNoGap row
HasNoGap-clear row left e before after same =
    none-some left (sym (gap_seen 4 before after (omega arith)) ∙ ap (clear 4) (sym same) ∙ e)

-- clear after any light modules
abbrev IsClear : List Bool → Type 0
IsClear row = (room : ℕ) → room ≤ 4 → (left : ℕ) × (left ≤ 4) × (clear room row ≡ Some left)

abbrev is_clear : List Bool → Bool
is_clear row = list_all (λ room. option_map_or (λ left. nat_le left 4) (clear room row) false) (range_with_len 0 5)

IsClear-is_clear : (row : List Bool) → is_clear row ≡ true → IsClear row
IsClear-is_clear row e room few =
    at (clear room row)
    (passes (λ room. option_map_or (λ left. nat_le left 4) (clear room row) false) 5 room e (omega arith))
  where
    at : (o : Option ℕ) → option_map_or (λ left. nat_le left 4) o false ≡ true
        → (left : ℕ) × (left ≤ 4) × (o ≡ Some left)
    at None f = absurd (false≢true f)
    at (Some left) f = (left, leb-true left 4 f, refl)

IsClear-append : (front row : List Bool) → IsClear front → IsClear row → IsClear (front ++ row)
IsClear-append front row first second room few =
    let one = first room few in
    let two = second one.0 one.1 in
    (two.0, two.1, clear-append room front row ∙ ap (option_and_then (λ left. clear left row)) one.2 ∙ two.2)

IsClear-flat_map : {X : Type 0} (drawn : X → List Bool) (IsKnown : X → Type 0)
    → ((x : X) → IsKnown x → IsClear (drawn x)) → (xs : List X) → AllByRecursion IsKnown xs
    → IsClear (flat_map drawn xs)
unfolding clear
IsClear-flat_map drawn IsKnown each [] known = λ room few. (room, few, refl)
IsClear-flat_map drawn IsKnown each (x ∷ xs) known =
    IsClear-append (drawn x) (flat_map drawn xs) (each x known.0) (IsClear-flat_map drawn IsKnown each xs known.1)

-- ---- EAN and UPC

left_clear : (set : NumberSet) (digit : ℕ) → IsAOrB set → digit < 10 → clear 4 (pattern set digit) ≡ Some 4
unfolding clear number_set_a
left_clear set digit (inl e) h =
    rw e (value_from_test _ _ (passes (λ d. is_value (clear 4 (pattern A d)) 4) 10 digit refl h))
left_clear set digit (inr e) h =
    rw e (value_from_test _ _ (passes (λ d. is_value (clear 4 (pattern B d)) 4) 10 digit refl h))

patterns_clear : (sets : List NumberSet) (bytes : List ℕ) → AllByRecursion IsAOrB sets
    → AllByRecursion IsAsciiDigit bytes → clear 4 (patterns sets bytes) ≡ Some 4
unfolding clear
patterns_clear [] bytes s d = refl
patterns_clear (set ∷ sets) [] s d = refl
patterns_clear (set ∷ sets) (byte ∷ bytes) s d =
    clear-append 4 (pattern set (digit_value byte)) (patterns sets bytes)
    ∙ ap (option_and_then (λ left. clear left (patterns sets bytes)))
    (left_clear set (digit_value byte) s.0 (omega (arith, d.0)))
    ∙ patterns_clear sets bytes s.1 d.1

right_clear : (byte : ℕ) → IsAsciiDigit byte → IsClear (pattern C (digit_value byte))
unfolding clear number_set_a
right_clear byte d = IsClear-is_clear (pattern C (digit_value byte))
    (passes (λ digit. is_clear (pattern C digit)) 10 (digit_value byte) refl (omega (arith, d)))

symbol_clear : (n : ℕ) (sets : List NumberSet) (bytes : List ℕ) → AllByRecursion IsAOrB sets → AreDigits (n + n) bytes
    → HasNoGap (symbol sets (take n bytes) (drop n bytes))
unfolding clear
symbol_clear n sets bytes s d =
    let left = by_recursion n (take n bytes) (front_digits n n bytes d) in
    let right = by_recursion n (drop n bytes) (back_digits n n bytes d) in
    let last = IsClear-append (right_half (drop n bytes)) normal_guard
    (IsClear-flat_map _ IsAsciiDigit right_clear (drop n bytes) right) (IsClear-is_clear normal_guard refl)
    3 (omega arith) in
    HasNoGap-clear _ last.0 (clear-append 4 (patterns sets (take n bytes)) _
    ∙ ap (option_and_then (λ left. clear left (centre_guard ++ (right_half (drop n bytes) ++ normal_guard))))
    (patterns_clear sets (take n bytes) s left) ∙ last.2)

ean13_clear : (full : List ℕ) → IsFull 12 full → HasNoGap (ean13_row full)
ean13_clear [] f = absurd (let long = f.digits.long in omega arith)
ean13_clear (first ∷ rest) f = symbol_clear 6 (left_sets (digit_value first)) rest
    (left_sets_a_or_b (digit_value first)) (back_digits 1 12 (first ∷ rest) f.digits)

pub ean8_gap : (row : List Bool) (full : List ℕ) → read_ean8 row ≡ Some full → HasNoGap row
ean8_gap row full read =
    let are = ean8_drawn row full read in
    subst HasNoGap (sym are.0) (symbol_clear 4 (replicate 4 A) full four_a are.1.digits)

pub ean13_gap : (row : List Bool) (full : List ℕ) → read_ean13 row ≡ Some full → HasNoGap row
ean13_gap row full read =
    let are = ean13_drawn row full read in subst HasNoGap (sym are.0) (ean13_clear full are.1)

pub upca_gap : (row : List Bool) (full : List ℕ) → read_upca row ≡ Some full → HasNoGap row
upca_gap row full read =
    let are = upca_drawn row full read in subst HasNoGap (sym are.0) (ean13_clear (48 ∷ full) are.1)

-- ---- Code 128

character_clear : (value : ℕ) → value < 107 → IsClear (character_modules value)
unfolding clear all_characters
character_clear value h = subst IsClear (ap (λ table. get_or table value []) (sym characters-all_characters))
    (IsClear-is_clear (get_or all_characters value [])
    (passes (λ value. is_clear (get_or all_characters value [])) 107 value refl h))

pub code128_gap : (row : List Bool) (full : List ℕ) → read_code128 row ≡ Some full → HasNoGap row
code128_gap row full read =
    let are = code128_drawn row full read in
    let all = IsClear-append (flat_map character_modules are.values) (character_modules 106)
    (IsClear-flat_map character_modules (λ value. value < 106) (λ value h. character_clear value (omega (arith, h)))
    are.values are.known) (character_clear 106 (omega arith)) 4 (omega arith) in
    subst HasNoGap (sym are.row_is) (HasNoGap-clear _ all.0 all.2)
