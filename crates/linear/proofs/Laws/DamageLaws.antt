-- Two rows that are both read differ in more modules than may be turned (ISO/IEC 15420 and 15417, symbol characters and
-- check digit): wrong digits and characters, and other number sets, turn modules.
use Rattle.std.proofs.Common.{append_assoc, ◌≡◌, ℕ, ◌+◌, ◌*◌, ◌<◌, ◌≤◌, ◌==◌, Bool, true, false, Option, Some, None}
use Rattle.std.proofs.Common.{List, [], ◌∷◌, ◌++◌, length, map, take, drop, get_or, refl, sym, ap, ◌∙◌, arith}
use Rattle.std.proofs.Common.{if◌then◌else◌, inl, inr, nat_le, take-append-drop}
use Rattle.std.specs.Prelude.{◌&&◌, ◌||◌, flat_map, replicate}
use Rattle.std.specs.Bool.{beq}
use Rattle.std.specs.Char.{IsAsciiDigit}
use Rattle.std.specs.List.{AllByRecursion, list_all, range_with_len}
use Rattle.std.proofs.lemmas.Bool.{and_parts, eqb-true, leb-true, or_cases}
use Rattle.std.proofs.lemmas.List.{length-replicate}
use Rattle.std.proofs.lemmas.List.Sums.{AllPass-from_list_all}
use Rattle.std.proofs.lemmas.Bool.Decides.{nat_tests}
use Rattle.linear.specs.declared.ean.NumberSet.{NumberSet}
use Rattle.linear.specs.declared.ean.NumberSet.TheVariants.{A, B, C}
use Rattle.linear.specs.Digits.{digit_value}
use Rattle.linear.specs.Modules.{same_modules, turned_modules, IsGuarded}
use Rattle.linear.specs.Tables.{number_set_a, left_half_sets}
use Rattle.linear.specs.Ean.{pattern, patterns, normal_guard, centre_guard, symbol, left_sets, ean8_row, ean13_row}
use Rattle.linear.specs.Ean.{upca_row}
use Rattle.linear.specs.EanReading.{read_ean8, read_ean13, read_upca}
use Rattle.linear.specs.Code128.{character_modules}
use Rattle.linear.specs.Code128Reading.{read_code128}
use Rattle.linear.specs.Private.Data.{AreDigits, IsFull}
use Rattle.linear.proofs.Laws.CharacterLaws.{length-character_modules}
use Rattle.linear.proofs.Laws.CharacterRowLaws.{length-row}
use Rattle.linear.proofs.Laws.ValueRangeLaws.{AreCharacters}
use Rattle.linear.proofs.Laws.CheckDigitLaws.{full_digits_tell, same_digits, wrong_digits, wrong_digits-append}
use Rattle.linear.proofs.Laws.EanLaws.{back_digits, by_recursion, front_digits}
use Rattle.labelcore.proofs.Laws.ComputedLaws.{passes}
use Rattle.linear.proofs.Laws.PatternLaws.{length-left_sets, length-pattern, right_half}
use Rattle.linear.proofs.Laws.ReadRowLaws.{code128_drawn, ean13_drawn, ean8_drawn, patterns_in, same_modules-same}
use Rattle.linear.proofs.Laws.ReadRowLaws.{upca_drawn}
use Rattle.linear.proofs.Laws.TableLaws.{all_characters, characters-all_characters, count_characters}

-- ---- turned modules

turned-self : (row : List Bool) → turned_modules row row ≡ 0
unfolding turned_modules
turned-self [] = refl
turned-self (true ∷ row) = omega (arith, turned-self row)
turned-self (false ∷ row) = omega (arith, turned-self row)

turned-append : (p e q f : List Bool) → length q ≡ length p
    → turned_modules (p ++ e) (q ++ f) ≡ turned_modules p q + turned_modules e f
unfolding turned_modules
turned-append [] e [] f long = omega arith
turned-append [] e (b ∷ q) f long = absurd (omega arith)
turned-append (a ∷ p) e [] f long = absurd (omega arith)
turned-append (a ∷ p) e (b ∷ q) f long = omega (arith, turned-append p e q f (omega arith))

turned-after : (front row other : List Bool) → turned_modules (front ++ row) (front ++ other) ≡ turned_modules row other
turned-after front row other = omega (arith, turned-append front row front other refl, turned-self front)

-- ---- EAN and UPC

abbrev is_a : NumberSet → Bool
is_a A = true
is_a B = false
is_a C = false

-- where one of two sets alone is A
abbrev unlike : NumberSet → NumberSet → ℕ
unlike set other = if beq (is_a set) (is_a other) then 0 else 1

-- two patterns differ in a module where one set alone is A, and of other digits in two where none is or both are
abbrev are_far : NumberSet → NumberSet → ℕ → ℕ → Bool
are_far set other digit wrong =
    let turned = turned_modules (pattern set digit) (pattern other wrong) in
    nat_le (unlike set other) turned && nat_le (2 * (if digit == wrong then 0 else 1)) (turned + unlike set other)

all_far : (set other : NumberSet)
    → list_all (λ digit. list_all (are_far set other digit) (range_with_len 0 10)) (range_with_len 0 10) ≡ true
unfolding turned_modules number_set_a
all_far A A = refl
all_far A B = refl
all_far A C = refl
all_far B A = refl
all_far B B = refl
all_far B C = refl
all_far C A = refl
all_far C B = refl
all_far C C = refl

-- before modules of which some are turned, as many more are turned at least as letters differ, and in the same sets
-- two for each wrong digit
abbrev AreFar : (letters wrong after turned : ℕ) → Type 0
AreFar letters wrong after turned = (letters + after ≤ turned) × (2 * wrong + after ≤ turned + letters)

digit_far : (set other : NumberSet) (x y : ℕ) → IsAsciiDigit x → IsAsciiDigit y
    → AreFar (unlike set other) (if x == y then 0 else 1) 0
    (turned_modules (pattern set (digit_value x)) (pattern other (digit_value y)))
digit_far set other x y h k =
    let a = digit_value x in
    let b = digit_value y in
    let same : ◌≡◌ {A = ℕ} (if x == y then 0 else 1) (if a == b then 0 else 1) = grind (arith, nat_tests, h, k) in
    let far = and_parts _ _ (passes (are_far set other a) 10 b
    (passes (λ digit. list_all (are_far set other digit) (range_with_len 0 10)) 10 a (all_far set other)
    (omega (arith, h))) (omega (arith, k))) in
    let letter : unlike set other ≤ turned_modules (pattern set a) (pattern other b) = leb-true _ _ far.0 in
    (omega (arith, letter), omega (arith, leb-true _ _ far.1, same))

patterns_far : (sets others : List NumberSet) (xs ys : List ℕ) (e f : List Bool) → length others ≡ length sets
    → length xs ≡ length sets → length ys ≡ length sets → AllByRecursion IsAsciiDigit xs
    → AllByRecursion IsAsciiDigit ys
    → AreFar (turned_modules (map is_a sets) (map is_a others)) (wrong_digits xs ys) (turned_modules e f)
    (turned_modules (patterns sets xs ++ e) (patterns others ys ++ f))
unfolding turned_modules wrong_digits
patterns_far [] [] [] [] e f l m n hx hy = (omega arith, omega arith)
patterns_far [] [] [] (y ∷ ys) e f l m n hx hy = absurd (omega arith)
patterns_far [] [] (x ∷ xs) ys e f l m n hx hy = absurd (omega arith)
patterns_far [] (t ∷ others) xs ys e f l m n hx hy = absurd (omega arith)
patterns_far (s ∷ sets) [] xs ys e f l m n hx hy = absurd (omega arith)
patterns_far (s ∷ sets) (t ∷ others) [] ys e f l m n hx hy = absurd (omega arith)
patterns_far (s ∷ sets) (t ∷ others) (x ∷ xs) [] e f l m n hx hy = absurd (omega arith)
patterns_far (s ∷ sets) (t ∷ others) (x ∷ xs) (y ∷ ys) e f l m n hx hy =
    let rest = patterns_far sets others xs ys e f (omega arith) (omega arith) (omega arith) hx.1 hy.1 in
    let here = digit_far s t x y hx.0 hy.0 in
    let p = pattern s (digit_value x) in
    let q = pattern t (digit_value y) in
    let long : length q ≡ length p = length-pattern t (digit_value y) (omega (arith, hy.0))
    ∙ sym (length-pattern s (digit_value x) (omega (arith, hx.0))) in
    let parts = rw (sym (append_assoc p (patterns sets xs) e), sym (append_assoc q (patterns others ys) f)) at
    (turned-append p (patterns sets xs ++ e) q (patterns others ys ++ f) long) in
    (omega (arith, rest.0, here.0, parts), omega (arith, rest.1, here.1, parts))

-- two symbols whose halves have n digits
symbols_far : (n : ℕ) (sets others : List NumberSet) (xs ys : List ℕ) → length sets ≡ n → length others ≡ n
    → AreDigits (n + n) xs → AreDigits (n + n) ys
    → AreFar (turned_modules (map is_a sets) (map is_a others)) (wrong_digits xs ys) 0
    (turned_modules (symbol sets (take n xs) (drop n xs)) (symbol others (take n ys) (drop n ys)))
symbols_far n sets others xs ys count other_count d e =
    let front = front_digits n n xs d in
    let other_front = front_digits n n ys e in
    let back = back_digits n n xs d in
    let other_back = back_digits n n ys e in
    let one = right_half (drop n xs) ++ normal_guard in
    let two = right_half (drop n ys) ++ normal_guard in
    let in_c = λ (bytes : List ℕ) (b : AreDigits n bytes). patterns_in C bytes
    ∙ ap (λ k. patterns (replicate k C) bytes) b.long in
    let long : length (replicate n C) ≡ n = length-replicate n C in
    let lefts = patterns_far sets others (take n xs) (take n ys) (centre_guard ++ one) (centre_guard ++ two)
    (other_count ∙ sym count) (front.long ∙ sym count) (other_front.long ∙ sym count)
    (by_recursion n (take n xs) front) (by_recursion n (take n ys) other_front) in
    let rights = rw (sym (in_c (drop n xs) back), sym (in_c (drop n ys) other_back)) at
    (patterns_far (replicate n C) (replicate n C) (drop n xs) (drop n ys) normal_guard normal_guard refl
    (back.long ∙ sym long) (other_back.long ∙ sym long) (by_recursion n (drop n xs) back)
    (by_recursion n (drop n ys) other_back)).1 in
    let wrong = rw (take-append-drop n xs, take-append-drop n ys) at
    (wrong_digits-append (take n xs) (drop n xs) (take n ys) (drop n ys) (other_front.long ∙ sym front.long)) in
    let whole = turned-after normal_guard (patterns sets (take n xs) ++ (centre_guard ++ one))
    (patterns others (take n ys) ++ (centre_guard ++ two)) in
    let centre = turned-after centre_guard one two in (
      omega (arith, whole, lefts.0),
      omega (arith, whole, centre, lefts.1, rights, wrong, turned-self (map is_a (replicate n C))),
    )

ean8_far : (xs ys : List ℕ) → IsFull 7 xs → IsFull 7 ys → turned_modules (ean8_row xs) (ean8_row ys) ≤ 3 → xs ≡ ys
unfolding turned_modules
ean8_far xs ys f g few = full_digits_tell 7 xs ys f g
    (omega (arith, few, (symbols_far 4 (replicate 4 A) (replicate 4 A) xs ys refl refl f.digits g.digits).1))

first_of : (first : ℕ) (rest : List ℕ) → IsFull 12 (first ∷ rest) → IsAsciiDigit first
first_of first rest f = f.digits.digits 0 0 (let long = f.digits.long in omega arith)

-- the letters of two numbers
abbrev letters_turned : ℕ → ℕ → ℕ
letters_turned first other =
    turned_modules (map is_a (left_sets (digit_value first))) (map is_a (left_sets (digit_value other)))

numbers_far : (a b : ℕ) (xs ys : List ℕ) → IsFull 12 (a ∷ xs) → IsFull 12 (b ∷ ys)
    → AreFar (letters_turned a b) (wrong_digits xs ys) 0 (turned_modules (ean13_row (a ∷ xs)) (ean13_row (b ∷ ys)))
numbers_far a b xs ys f g =
    symbols_far 6 (left_sets (digit_value a)) (left_sets (digit_value b)) xs ys
    (length-left_sets (digit_value a) (omega (arith, first_of a xs f)))
    (length-left_sets (digit_value b) (omega (arith, first_of b ys g)))
    (back_digits 1 12 (a ∷ xs) f.digits) (back_digits 1 12 (b ∷ ys) g.digits)

upca_far : (xs ys : List ℕ) → IsFull 12 (48 ∷ xs) → IsFull 12 (48 ∷ ys)
    → turned_modules (upca_row xs) (upca_row ys) ≤ 3 → xs ≡ ys
unfolding wrong_digits
upca_far xs ys f g few = ap (drop 1) (full_digits_tell 12 (48 ∷ xs) (48 ∷ ys) f g
    (omega (arith, few, (numbers_far 48 48 xs ys f g).1, turned-self (map is_a (left_sets 0)))))

-- the letters of two first digits differ in two places at least
letters_apart : ℕ → ℕ → Bool
letters_apart i j = i == j || nat_le 2 (turned_modules (map is_a (left_sets i)) (map is_a (left_sets j)))

all_apart : list_all (λ i. list_all (letters_apart i) (range_with_len 0 10)) (range_with_len 0 10) ≡ true
unfolding turned_modules left_half_sets letters_apart
all_apart = refl

first_digit : (i j : ℕ) → i < 10 → j < 10 → turned_modules (map is_a (left_sets i)) (map is_a (left_sets j)) ≤ 1 → i ≡ j
unfolding letters_apart
first_digit i j h k few =
    elim (or_cases (i == j) _ (passes (letters_apart i) 10 j
    (passes (λ i. list_all (letters_apart i) (range_with_len 0 10)) 10 i all_apart h) k)) [
      | inl same ↦ eqb-true i j same
      | inr far ↦ absurd (omega (arith, few, leb-true _ _ far))
    ]

ean13_far : (xs ys : List ℕ) → IsFull 12 xs → IsFull 12 ys → turned_modules (ean13_row xs) (ean13_row ys) ≤ 1 → xs ≡ ys
ean13_far [] ys f g few = absurd (let long = f.digits.long in omega arith)
ean13_far (a ∷ xs) [] f g few = absurd (let long = g.digits.long in omega arith)
ean13_far (a ∷ xs) (b ∷ ys) f g few =
    let d = first_of a xs f in
    let e = first_of b ys g in
    let far = numbers_far a b xs ys f g in
    let values = first_digit (digit_value a) (digit_value b) (omega arith) (omega arith) (omega (arith, few, far.0)) in
    let first : a ≡ b = omega (arith, values) in
    let none = ap (letters_turned a) (sym first) ∙ turned-self (map is_a (left_sets (digit_value a))) in
    let same : length ys ≡ length xs = (let one = f.digits.long in let two = g.digits.long in omega arith) in
    λ i. first i ∷ same_digits xs ys same (omega (arith, few, far.1, none)) i

-- ---- Code 128

-- two characters differ in no module, or in two at least
abbrev are_two_apart : List Bool → List Bool → Bool
are_two_apart row other = same_modules row other || nat_le 2 (turned_modules row other)

characters_apart : list_all (λ row. list_all (are_two_apart row) all_characters) all_characters ≡ true
unfolding turned_modules all_characters
characters_apart = refl

character_far : (value other : ℕ) → value < 106 → other < 106
    → turned_modules (character_modules value) (character_modules other) ≤ 1
    → character_modules value ≡ character_modules other
character_far value other h k few =
    let in_table = λ (v : ℕ). ap (λ table. get_or table v []) characters-all_characters in
    let one = AllPass-from_list_all _ all_characters characters_apart value [] (omega (arith, h, count_characters)) in
    let two = AllPass-from_list_all _ all_characters one other [] (omega (arith, k, count_characters)) in
    let both = rw (sym (in_table value), sym (in_table other)) at two in
    elim (or_cases _ _ both) [
      | inl same ↦ same_modules-same _ _ same
      | inr far ↦ absurd (omega (arith, few, leb-true _ _ far))
    ]

values_far : (xs ys : List ℕ) (after : List Bool) → length ys ≡ length xs → AreCharacters xs → AreCharacters ys
    → turned_modules (flat_map character_modules xs ++ after) (flat_map character_modules ys ++ after) ≤ 1
    → flat_map character_modules xs ≡ flat_map character_modules ys
values_far [] [] after long hx hy few = refl
values_far [] (y ∷ ys) after long hx hy few = absurd (omega arith)
values_far (x ∷ xs) [] after long hx hy few = absurd (omega arith)
values_far (x ∷ xs) (y ∷ ys) after long hx hy few =
    let p = character_modules x in
    let q = character_modules y in
    let rest = flat_map character_modules xs in
    let others = flat_map character_modules ys in
    let parts = rw (sym (append_assoc p rest after), sym (append_assoc q others after)) at (turned-append p
    (rest ++ after) q (others ++ after) (length-character_modules y hy.0 ∙ sym (length-character_modules x hx.0))) in
    λ i. character_far x y hx.0 hy.0 (omega (arith, parts, few)) i
    ++ values_far xs ys after (omega arith) hx.1 hy.1 (omega (arith, parts, few)) i

-- ---- readings

-- two rows of one length that are both read, and differ in no more modules, are one
abbrev pub AreFarApart : ℕ → (List Bool → Option (List ℕ)) → Type 0
AreFarApart limit reading =
    (row other : List Bool) (full other_full : List ℕ) → length other ≡ length row → reading row ≡ Some full
    → reading other ≡ Some other_full → turned_modules row other ≤ limit → row ≡ other

by_full_data : (limit : ℕ) (reading : List Bool → Option (List ℕ)) (row_of : List ℕ → List Bool)
    (IsGood : List ℕ → Type 0)
    → ((row : List Bool) (full : List ℕ) → reading row ≡ Some full → (row ≡ row_of full) × IsGood full)
    → ((xs ys : List ℕ) → IsGood xs → IsGood ys → turned_modules (row_of xs) (row_of ys) ≤ limit → xs ≡ ys)
    → AreFarApart limit reading
by_full_data limit reading row_of IsGood drawn far row other full other_full long read other_read few =
    let one = drawn row full read in
    let two = drawn other other_full other_read in
    one.0 ∙ ap row_of (far full other_full one.1 two.1 (rw (sym one.0, sym two.0) few)) ∙ sym two.0

pub ean13_rows_far_apart : AreFarApart 1 read_ean13
ean13_rows_far_apart = by_full_data 1 read_ean13 ean13_row (IsFull 12) ean13_drawn ean13_far

pub ean8_rows_far_apart : AreFarApart 3 read_ean8
ean8_rows_far_apart = by_full_data 3 read_ean8 ean8_row (IsFull 7) ean8_drawn ean8_far

pub upca_rows_far_apart : AreFarApart 3 read_upca
upca_rows_far_apart = by_full_data 3 read_upca upca_row (λ full. IsFull 12 (48 ∷ full)) upca_drawn upca_far

pub code128_rows_far_apart : AreFarApart 1 read_code128
code128_rows_far_apart row other full other_full long read other_read few =
    let one = code128_drawn row full read in
    let two = code128_drawn other other_full other_read in
    let lengths = sym (length-row two.values two.known) ∙ ap length (sym two.row_is) ∙ long ∙ ap length one.row_is
    ∙ length-row one.values one.known in
    one.row_is ∙ ap (λ l. l ++ character_modules 106) (values_far one.values two.values (character_modules 106)
    (omega (arith, lengths)) one.known two.known (rw (sym one.row_is, sym two.row_is) few)) ∙ sym two.row_is

pub IsGuarded-apart : (limit : ℕ) (reading : List Bool → Option (List ℕ)) → AreFarApart limit reading
    → (row : List Bool) (full : List ℕ) → reading row ≡ Some full → IsGuarded limit reading row
IsGuarded-apart limit reading apart row full read other long some few = at (reading other) refl
  where
    at : (o : Option (List ℕ)) → reading other ≡ o → reading other ≡ None
    at None is = is
    at (Some found) is =
        let same = apart row other full found long read is few in
        absurd (omega (arith, some, turned-self row, ap (turned_modules row) (sym same)))
