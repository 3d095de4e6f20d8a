-- What is drawn as EAN or UPC is read back (ISO/IEC 15420, symbol formats).
use Rattle.std.proofs.Common.{◌≡◌, ℕ, suc, ◌+◌, ◌-◌, ◌*◌, ◌<◌, Bool, true, false, Some, Option, List, [], ◌∷◌, ◌++◌}
use Rattle.std.proofs.Common.{length, take, drop, refl, sym, ap, subst, ◌∙◌, arith, eqb, eq-eqb, map, ◌%◌, ◌≤◌, lit≤}
use Rattle.std.proofs.Common.{length-append}
use Rattle.std.specs.Prelude.{option_and_then, replicate, slice_index, IfOk, codes, zip}
use Rattle.std.specs.Bool.{then_some}
use Rattle.std.specs.Result.{result_ok}
use Rattle.std.specs.Str.{bytes_eq}
use Rattle.std.specs.Char.{IsAsciiDigit}
use Rattle.std.specs.List.{AllByRecursion}
use Rattle.std.proofs.lemmas.Bool.Decides.{nat_tests}
use Rattle.std.proofs.lemmas.List.{take_more, take_all, length-take-le, length-drop, take-append-drop, length-map, drop_at}
use Rattle.std.proofs.lemmas.Slice.Zip.{firsts-zip, seconds-zip}
use Rattle.std.proofs.lemmas.List.Elements.{All-cons, All-take, All-drop, recursion_from_All}
use Rattle.linear.specs.declared.ean.NumberSet.{NumberSet}
use Rattle.linear.specs.declared.ean.NumberSet.TheVariants.{A, C}
use Rattle.linear.specs.Digits.{digit_value, weighted_sum, with_check_digit, full_digits, check_digit}
use Rattle.linear.specs.Ean.{pattern, patterns, normal_guard, centre_guard, symbol, left_sets, ean8_row, ean13_row}
use Rattle.linear.specs.Ean.{upca_row}
use Rattle.linear.specs.EanReading.{digit_in, has_guards, read_halves, digit_in_a_or_b, with_first_digit, read_ean8}
use Rattle.linear.specs.EanReading.{read_ean13, read_upca}
use Rattle.linear.proofs.Laws.PatternLaws.{right_half, length-pattern, digit_in-pattern, digit_in_a_or_b-pattern}
use Rattle.linear.proofs.Laws.PatternLaws.{length-left_sets, letter_of, position-left_sets, IsAOrB, left_sets_a_or_b}
use Rattle.linear.specs.Private.Data.{AreDigits, IsFull}
use Rattle.linear.proofs.Laws.DigitLaws.{of_full_digits}
use Rattle.linear.proofs.Laws.GroupLaws.{drop-append_more, AreGroups, no_groups, group_more}

digit_again : (byte : ℕ) → IsAsciiDigit byte → 48 + digit_value byte ≡ byte
digit_again byte h = omega arith

-- a digit more in a set
one_more : {Y : Type 0} (found : List Bool → Option Y) (set : NumberSet) (byte : ℕ) (y : Y) {count : ℕ}
    {row : List Bool} {ys : List Y} → IsAsciiDigit byte
    → found (pattern set (digit_value byte)) ≡ Some y → AreGroups found 7 count row ys
    → AreGroups found 7 (suc count) (pattern set (digit_value byte) ++ row) (y ∷ ys)
one_more found set byte y d = group_more found 7 _ _ _ _ (length-pattern set (digit_value byte) (omega arith))

digit_in-digit : (set : NumberSet) (byte : ℕ) → IsAsciiDigit byte
    → digit_in set (pattern set (digit_value byte)) ≡ Some byte
digit_in-digit set byte d =
    digit_in-pattern set (digit_value byte) (omega arith) ∙ ap Some (digit_again byte d)

pub right_groups : (bytes : List ℕ) → AllByRecursion IsAsciiDigit bytes
    → AreGroups (digit_in C) 7 (length bytes) (right_half bytes) bytes
right_groups [] d = no_groups (digit_in C) 7
right_groups (byte ∷ bytes) d =
    one_more (digit_in C) C byte byte d.0 (digit_in-digit C byte d.0) (right_groups bytes d.1)

-- a left half in set A
groups_in_a : (bytes : List ℕ) → AllByRecursion IsAsciiDigit bytes
    → AreGroups (digit_in A) 7 (length bytes) (patterns (replicate (length bytes) A) bytes) bytes
groups_in_a [] d = no_groups (digit_in A) 7
groups_in_a (byte ∷ bytes) d =
    one_more (digit_in A) A byte byte d.0 (digit_in-digit A byte d.0) (groups_in_a bytes d.1)

-- a left half in sets A and B
groups_in_a_or_b : (sets : List NumberSet) (bytes : List ℕ) → length sets ≡ length bytes → AllByRecursion IsAOrB sets
    → AllByRecursion IsAsciiDigit bytes
    → AreGroups digit_in_a_or_b 7 (length bytes) (patterns sets bytes) (zip (map letter_of sets) bytes)
groups_in_a_or_b [] [] e s d = no_groups digit_in_a_or_b 7
groups_in_a_or_b [] (byte ∷ bytes) e s d = absurd (omega arith)
groups_in_a_or_b (set ∷ sets) [] e s d = absurd (omega arith)
groups_in_a_or_b (set ∷ sets) (byte ∷ bytes) e s d =
    one_more digit_in_a_or_b set byte (letter_of set, byte) d.0
    (digit_in_a_or_b-pattern set (digit_value byte) s.0 (omega (arith, d.0))
    ∙ ap (λ (b : ℕ). Some (letter_of set, b)) (digit_again byte d.0))
    (groups_in_a_or_b sets bytes (omega arith) s.1 d.1)

-- a symbol with halves of n digits
module _ {Y : Type 0} (found : List Bool → Option Y) (n : ℕ) (sets : List NumberSet) (left right : List ℕ) (ys : List Y)
    (on_left : AreGroups found 7 n (patterns sets left) ys)
    (on_right : AreGroups (digit_in C) 7 n (right_half right) right)
  where
    -- what follows the left half, the centre guard and the right half
    from_centre : drop (3 + 7 * n) (symbol sets left right) ≡ centre_guard ++ (right_half right ++ normal_guard)
    from_centre = drop-append_more 3 (7 * n) normal_guard _ refl
        ∙ drop_at (patterns sets left) _ (7 * n) on_left.long

    from_right : drop (8 + 7 * n) (symbol sets left right) ≡ right_half right ++ normal_guard
    from_right =
        ap (λ k. drop k (symbol sets left right)) (let e : 8 + 7 * n ≡ 3 + (7 * n + 5) = omega arith in e)
        ∙ drop-append_more 3 (7 * n + 5) normal_guard _ refl
        ∙ drop-append_more (7 * n) 5 (patterns sets left) _ on_left.long

    from_end : drop (8 + 14 * n) (symbol sets left right) ≡ normal_guard
    from_end =
        ap (λ k. drop k (symbol sets left right)) (let e : 8 + 14 * n ≡ 3 + (7 * n + (5 + 7 * n)) = omega arith in e)
        ∙ drop-append_more 3 (7 * n + (5 + 7 * n)) normal_guard _ refl
        ∙ drop-append_more (7 * n) (5 + 7 * n) (patterns sets left) _ on_left.long
        ∙ drop-append_more 5 (7 * n) centre_guard _ refl
        ∙ drop_at (right_half right) normal_guard (7 * n) on_right.long

    read_halves-symbol : read_halves n found (symbol sets left right) ≡ Some (ys, right)
    read_halves-symbol =
        let has_guards : has_guards n (symbol sets left right) ≡ true = rw (from_centre, from_end) refl in
        rw (
          has_guards,
          on_left.read (centre_guard ++ (right_half right ++ normal_guard)),
          from_right,
          on_right.read normal_guard,
        ) refl

    pub length-symbol : length (symbol sets left right) ≡ 11 + 14 * n
    length-symbol =
        let after = centre_guard ++ (right_half right ++ normal_guard) in
        omega (
          arith,
          length-append (patterns sets left) after,
          length-append (right_half right) normal_guard,
          on_left.long,
          on_right.long,
        )

-- digits that are cut in two
pub front_digits : (n k : ℕ) (bytes : List ℕ) → AreDigits (n + k) bytes → AreDigits n (take n bytes)
front_digits n k bytes d = record {
  long = (let e = d.long in length-take-le n bytes (omega arith));
  digits = All-take IsAsciiDigit n bytes d.digits;
}

pub back_digits : (n k : ℕ) (bytes : List ℕ) → AreDigits (n + k) bytes → AreDigits k (drop n bytes)
back_digits n k bytes d = record {
  long = (let e = d.long in length-drop n bytes ∙ omega arith);
  digits = All-drop IsAsciiDigit n bytes d.digits;
}

pub by_recursion : (n : ℕ) (bytes : List ℕ) → AreDigits n bytes → AllByRecursion IsAsciiDigit bytes
by_recursion n bytes d = recursion_from_All IsAsciiDigit bytes d.digits

pub right_groups_of : (n : ℕ) (bytes : List ℕ) → AreDigits n bytes → AreGroups (digit_in C) 7 n (right_half bytes) bytes
right_groups_of n bytes d =
    subst (λ k. AreGroups (digit_in C) 7 k (right_half bytes) bytes) d.long
    (right_groups bytes (by_recursion n bytes d))

pub left_groups_of : (n : ℕ) (sets : List NumberSet) (bytes : List ℕ) → length sets ≡ n → AllByRecursion IsAOrB sets
    → AreDigits n bytes
    → AreGroups digit_in_a_or_b 7 n (patterns sets bytes) (zip (map letter_of sets) bytes)
left_groups_of n sets bytes count s d =
    subst (λ k. AreGroups digit_in_a_or_b 7 k (patterns sets bytes) (zip (map letter_of sets) bytes)) d.long
    (groups_in_a_or_b sets bytes (count ∙ sym d.long) s (by_recursion n bytes d))

-- full data has the right check digit
with_check_digit-full : (count : ℕ) (full : List ℕ) → IsFull count full
    → result_ok (with_check_digit count full) ≡ Some full
with_check_digit-full count full f =
    let long = f.digits.long in
    let more : eqb (length full) count ≡ false = grind (arith, nat_tests) in
    rw (
      more,
      eq-eqb (length full) (count + 1) long,
      eq-eqb (digit_value (slice_index full count)) (check_digit (take count full)) f.right,
    )
    (ap Some (sym (take_more full count 0 (omega arith)) ∙ take_all (count + 1) full (omega arith)))

-- a row is read as its full data, and is no longer than the longest row
pub record ReadsBack (reading : List Bool → Option (List ℕ)) (row : List Bool) (full : List ℕ) : Type 0 where
  pub read : reading row ≡ Some full
  pub short : length row ≤ 1795

-- EAN-8
pub ean8_reads : (full : List ℕ) → IsFull 7 full → ReadsBack read_ean8 (ean8_row full) full
ean8_reads full f =
    let left = take 4 full in
    let right = drop 4 full in
    let front = front_digits 4 4 full f.digits in
    let on_left = subst (λ k. AreGroups (digit_in A) 7 k (patterns (replicate k A) left) left) front.long
    (groups_in_a left (by_recursion 4 left front)) in
    let on_right = right_groups_of 4 right (back_digits 4 4 full f.digits) in
    record {
      read = rw (
        read_halves-symbol (digit_in A) 4 (replicate 4 A) left right left on_left on_right,
        take-append-drop 4 full,
      ) (with_check_digit-full 7 full f);
      short = omega (arith, length-symbol (digit_in A) 4 (replicate 4 A) left right left on_left on_right);
    }

-- the first digit and those of the halves
with_first_digit-zipped : (digit : ℕ) (rest : List ℕ) → digit < 10 → length (take 6 rest) ≡ 6
    → with_first_digit (zip (map letter_of (left_sets digit)) (take 6 rest), drop 6 rest) ≡ Some ((48 + digit) ∷ rest)
with_first_digit-zipped digit rest below long =
    let letters = map letter_of (left_sets digit) in
    let same : length (take 6 rest) ≡ length letters = long ∙ sym (length-map (left_sets digit) letter_of
    ∙ length-left_sets digit below) in
    rw (
      firsts-zip letters (take 6 rest) same,
      seconds-zip letters (take 6 rest) same,
      position-left_sets digit below,
      take-append-drop 6 rest,
    ) refl

-- thirteen digits with their check digit
pub ean13_reads : (full : List ℕ) → IsFull 12 full → ReadsBack read_ean13 (ean13_row full) full
ean13_reads [] f = absurd (let e = f.digits.long in omega arith)
ean13_reads (first ∷ rest) f =
    let sets = left_sets (digit_value first) in
    let left = take 6 rest in
    let right = drop 6 rest in
    let after : AreDigits 12 rest = back_digits 1 12 (first ∷ rest) f.digits in
    let front = front_digits 6 6 rest after in
    let d : IsAsciiDigit first = f.digits.digits 0 0 (omega arith) in
    let below : digit_value first < 10 = omega arith in
    let found = zip (map letter_of sets) left in
    let on_left = left_groups_of 6 sets left (length-left_sets (digit_value first) below)
    (left_sets_a_or_b (digit_value first)) front in
    let on_right = right_groups_of 6 right (back_digits 6 6 rest after) in
    record {
      read = rw (
        read_halves-symbol digit_in_a_or_b 6 sets left right found on_left on_right,
        with_first_digit-zipped (digit_value first) rest below front.long,
        digit_again first d,
      ) (with_check_digit-full 12 (first ∷ rest) f);
      short = omega (arith, length-symbol digit_in_a_or_b 6 sets left right found on_left on_right);
    }

-- UPC-A: a 0 before the digits leaves their check digit
with_zero : (full : List ℕ) → IsFull 11 full → IsFull 12 (48 ∷ full)
with_zero full f = record {
  digits = record {
    long = (let e = f.digits.long in omega arith);
    digits = All-cons IsAsciiDigit 48 full (lit≤ tt, lit≤ tt) f.digits.digits;
  };
  right = f.right ∙ (let e : weighted_sum (48 ∷ take 11 full) ≡ weighted_sum (take 11 full) = omega arith in
      ap (λ s. (10 - s % 10) % 10) (sym e));
}

pub upca_reads : (full : List ℕ) → IsFull 11 full → ReadsBack read_upca (upca_row full) full
upca_reads full f =
    let whole = ean13_reads (48 ∷ full) (with_zero full f) in
    record {
      read = ap (option_and_then (λ xs. then_some (bytes_eq (take 1 xs) (codes "0")) (drop 1 xs))) whole.read;
      short = whole.short;
    }

-- what is drawn of data that is full is read back
pub ean8_read_back : (bytes : List ℕ) → IfOk (full_digits 7 bytes) (λ full. read_ean8 (ean8_row full) ≡ Some full)
ean8_read_back bytes = of_full_digits 7 bytes _ (λ full f. (ean8_reads full f).read)

pub ean13_read_back : (bytes : List ℕ) → IfOk (full_digits 12 bytes) (λ full. read_ean13 (ean13_row full) ≡ Some full)
ean13_read_back bytes = of_full_digits 12 bytes _ (λ full f. (ean13_reads full f).read)

pub upca_read_back : (bytes : List ℕ) → IfOk (full_digits 11 bytes) (λ full. read_upca (upca_row full) ≡ Some full)
upca_read_back bytes = of_full_digits 11 bytes _ (λ full f. (upca_reads full f).read)
