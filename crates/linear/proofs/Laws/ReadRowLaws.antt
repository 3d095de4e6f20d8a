-- A row that is read is the row that is drawn of what was read (ISO/IEC 15420 and 15417, symbol formats and structure).
use Rattle.std.proofs.Common.{◌≡◌, ℕ, zero, suc, ◌+◌, ◌-◌, ◌*◌, ◌/◌, ◌<◌, ◌==◌, Bool, true, false, Option, Some, None}
use Rattle.std.proofs.Common.{List, [], ◌∷◌, ◌++◌, length, map, take, drop, get_or, refl, sym, ap, subst, ◌∙◌, arith}
use Rattle.std.proofs.Common.{eqb, append_assoc, eq-eqb, eqb-true, inl, inr, if◌then◌else◌, length-append, length-take}
use Rattle.std.specs.Prelude.{◌&&◌, codes, flat_map, option_and_then, option_map, position, replicate, slice_index}
use Rattle.std.specs.Bool.{then_some}
use Rattle.std.specs.Char.{IsAsciiDigit}
use Rattle.std.specs.Cmp.{booleans_Decides}
use Rattle.std.specs.List.{AllByRecursion, position_or_len, range_with_len, slice_get}
use Rattle.std.specs.Option.{option_or, option_zip}
use Rattle.std.specs.Result.{result_ok}
use Rattle.std.specs.Str.{bytes_eq}
use Rattle.std.proofs.lemmas.Bool.{and_parts, cases_lt}
use Rattle.std.proofs.lemmas.Bool.Decides.{nat_tests}
use Rattle.std.proofs.lemmas.List.{drop-drop, length-map, take-append-drop, take_all, take_more, take_at, drop_at}
use Rattle.std.proofs.lemmas.List.Elements.{All-append, All-from_recursion, All-cons}
use Rattle.std.proofs.lemmas.List.Folds.{find_at}
use Rattle.std.proofs.lemmas.List.FromFn.{get_or-range_with_len}
use Rattle.std.proofs.lemmas.List.Quantifiers.{position-Some}
use Rattle.std.proofs.lemmas.List.Sums.{passes_at_first}
use Rattle.std.proofs.lemmas.Option.{get_or_from_slice_get, slice_get_within, none-some, option_and_then_some}
use Rattle.std.proofs.lemmas.Option.{same_Some, some_pair_parts}
use Rattle.std.proofs.lemmas.Slice.Eq.{bytes_eq-Decides, slice_eq-Decides}
use Rattle.linear.specs.declared.ean.NumberSet.{NumberSet}
use Rattle.linear.specs.declared.ean.NumberSet.TheVariants.{A, B, C}
use Rattle.linear.specs.Digits.{digit_value, checked_digits, check_digit, with_check_digit}
use Rattle.linear.specs.Modules.{each_group, same_modules}
use Rattle.linear.specs.Ean.{pattern, patterns, normal_guard, centre_guard, symbol, left_sets, ean8_row, ean13_row}
use Rattle.linear.specs.Ean.{upca_row}
use Rattle.linear.specs.Tables.{left_half_sets}
use Rattle.linear.specs.Code128.{characters, character_modules}
use Rattle.linear.specs.Code128Reading.{read_code128, symbol_data}
use Rattle.linear.specs.EanReading.{digit_in, digit_in_a_or_b, has_guards, read_halves, read_ean8, read_ean13}
use Rattle.linear.specs.EanReading.{read_upca, with_first_digit}
use Rattle.linear.specs.Private.Data.{AreDigits, IsFull}
use Rattle.linear.proofs.Laws.CharacterLaws.{group_value, length-stop}
use Rattle.linear.proofs.Laws.PatternLaws.{right_half}
use Rattle.linear.proofs.Laws.TableLaws.{characters-all_characters, count_characters}
use Rattle.linear.proofs.Laws.ValueRangeLaws.{AreCharacters}

pub same_modules-same : (row other : List Bool) → same_modules row other ≡ true → row ≡ other
same_modules-same row other = (slice_eq-Decides booleans_Decides row other (same_modules row other) refl).0

option_map_some : {X Y P : Type 0} (f : X → Y) (o : Option X) (y : Y) → option_map f o ≡ Some y
    → ((x : X) → o ≡ Some x → f x ≡ y → P) → P
option_map_some f None y e k = absurd (none-some y e)
option_map_some f (Some x) y e k = k x refl (same_Some (f x) y e)

-- ---- groups

-- a row that begins with groups, each of which is drawn for what is found in it
record AreDrawn {Y : Type 0} (drawn : Y → List Bool) (IsKnown : Y → Type 0) (count : ℕ) (row rest : List Bool)
    (ys : List Y) : Type 0 where
  pub row_is : row ≡ flat_map drawn ys ++ rest
  pub known : AllByRecursion IsKnown ys
  pub count_is : length ys ≡ count

module _ {Y : Type 0} (found : List Bool → Option Y) (drawn : Y → List Bool) (IsKnown : Y → Type 0) (width : ℕ)
    (is_drawn : (row : List Bool) (y : Y) → found (take width row) ≡ Some y → (take width row ≡ drawn y) × IsKnown y)
  where
    groups_drawn : (count : ℕ) (row : List Bool) (ys : List Y) → each_group found width count row ≡ Some ys
        → AreDrawn drawn IsKnown count row (drop (width * count) row) ys
    groups_drawn zero row ys e = subst (AreDrawn drawn IsKnown 0 row (drop (width * 0) row)) (same_Some [] ys e)
        (let none : 0 ≡ width * 0 = omega arith in
        record { row_is = ap (λ n. drop n row) none; known = tt; count_is = refl })
    groups_drawn (suc count) row ys e =
        option_and_then_some _ (found (take width row)) ys e (λ y here after.
        option_map_some _ (each_group found width count (drop width row)) ys after (λ rest there all.
        let group = is_drawn row y here in
        let more = groups_drawn count (drop width row) rest there in
        let past : width + width * count ≡ width * suc count = omega arith in
        subst (AreDrawn drawn IsKnown (suc count) row (drop (width * suc count) row)) all (record {
          row_is = sym (take-append-drop width row) ∙ (λ i. group.0 i ++ more.row_is i)
              ∙ sym (append_assoc (drawn y) (flat_map drawn rest) _)
              ∙ ap (λ l. (drawn y ++ flat_map drawn rest) ++ l) (drop-drop (width * count) width row)
              ∙ ap (λ n. flat_map drawn (y ∷ rest) ++ drop n row) past;
          known = (group.1, more.known);
          count_is = ap suc more.count_is;
        })))

pub if_some : {X : Type 0} (b : Bool) (o : Option X) (x : X) → (if b then o else None) ≡ Some x → (b ≡ true) × (o ≡ Some x)
if_some true o x e = (refl, e)
if_some false o x e = absurd (none-some x e)

zip_some : {X Y : Type 0} (o : Option X) (p : Option Y) (pair : X × Y) → option_zip o p ≡ Some pair
    → (o ≡ Some pair.0) × (p ≡ Some pair.1)
zip_some None p pair e = absurd (none-some pair e)
zip_some (Some x) None pair e = absurd (none-some pair e)
zip_some (Some x) (Some y) pair e = let same = some_pair_parts x pair.0 y pair.1 e in (ap Some same.0, ap Some same.1)

-- ---- EAN and UPC

-- the group in which a digit is found is its pattern
pub digit_drawn : (set : NumberSet) (group : List Bool) (byte : ℕ) → digit_in set group ≡ Some byte
    → (group ≡ pattern set (digit_value byte)) × IsAsciiDigit byte
digit_drawn set group byte e =
    let test = λ (byte : ℕ). same_modules (pattern set (digit_value byte)) group in
    let i = position_or_len test (range_with_len 48 10) in
    let at : slice_get (range_with_len 48 10) i ≡ Some byte = sym (find_at test (range_with_len 48 10)) ∙ e in
    let inside : i < 10 = slice_get_within (range_with_len 48 10) i byte at in
    let is = get_or_from_slice_get (range_with_len 48 10) i byte byte at in
    let passes : test byte ≡ true =
    subst (λ b. test b ≡ true) is (passes_at_first test (range_with_len 48 10) byte inside) in
    let digit = get_or-range_with_len 48 10 i byte inside in
    (sym (same_modules-same _ group passes), (omega (arith, is, digit), omega (arith, is, digit, inside)))

-- what reading the halves of a row found, and that the row is drawn of it
record AreHalves {Y : Type 0} (drawn : Y → List Bool) (IsKnown : Y → Type 0) (half : ℕ) (row : List Bool)
    (halves : List Y × List ℕ) : Type 0 where
  pub row_is :
      row ≡ normal_guard ++ (flat_map drawn halves.0 ++ (centre_guard ++ (right_half halves.1 ++ normal_guard)))
  pub left : AreDrawn drawn IsKnown half (drop 3 row) (drop (7 * half) (drop 3 row)) halves.0
  pub right : AreDrawn (λ byte. pattern C (digit_value byte)) IsAsciiDigit half (drop (8 + 7 * half) row)
      (drop (7 * half) (drop (8 + 7 * half) row)) halves.1

halves_drawn : {Y : Type 0} (found : List Bool → Option Y) (drawn : Y → List Bool) (IsKnown : Y → Type 0)
    → ((group : List Bool) (y : Y) → found group ≡ Some y → (group ≡ drawn y) × IsKnown y)
    → (half : ℕ) (row : List Bool) (halves : List Y × List ℕ) → read_halves half found row ≡ Some halves
    → AreHalves drawn IsKnown half row halves
halves_drawn found drawn IsKnown is_drawn half row halves e =
    let guarded = if_some (has_guards half row) _ halves e in
    let start = same_modules (take 3 row) normal_guard in
    let centre = same_modules (take 5 (drop (3 + 7 * half) row)) centre_guard in
    let outer = and_parts (start && centre) (same_modules (drop (8 + 14 * half) row) normal_guard) guarded.0 in
    let inner = and_parts start centre outer.0 in
    let both = zip_some _ _ halves guarded.1 in
    let lefts = groups_drawn found drawn IsKnown 7 (λ row. is_drawn (take 7 row)) half (drop 3 row) halves.0 both.0 in
    let rights = groups_drawn (digit_in C) (λ byte. pattern C (digit_value byte)) IsAsciiDigit 7
    (λ row. digit_drawn C (take 7 row)) half (drop (8 + 7 * half) row) halves.1 both.1 in
    let five : 3 + 7 * half + 5 ≡ 8 + 7 * half = omega arith in
    let last : 8 + 7 * half + 7 * half ≡ 8 + 14 * half = omega arith in
    let from_end : drop (7 * half) (drop (8 + 7 * half) row) ≡ normal_guard =
    drop-drop (7 * half) (8 + 7 * half) row ∙ ap (λ n. drop n row) last ∙ same_modules-same _ normal_guard outer.1 in
    let from_right : drop 5 (drop (3 + 7 * half) row) ≡ right_half halves.1 ++ normal_guard =
    drop-drop 5 (3 + 7 * half) row ∙ ap (λ n. drop n row) five ∙ rights.row_is
    ∙ ap (λ l. right_half halves.1 ++ l) from_end in
    let from_centre : drop (7 * half) (drop 3 row) ≡ centre_guard ++ (right_half halves.1 ++ normal_guard) =
    drop-drop (7 * half) 3 row ∙ sym (take-append-drop 5 (drop (3 + 7 * half) row))
    ∙ (λ i. same_modules-same _ centre_guard inner.1 i ++ from_right i) in
    record {
      row_is = sym (take-append-drop 3 row)
          ∙ (λ i. same_modules-same (take 3 row) normal_guard inner.0 i ++ lefts.row_is i)
          ∙ ap (λ l. normal_guard ++ (flat_map drawn halves.0 ++ l)) from_centre;
      left = lefts;
      right = rights;
    }

-- digits whose check digit is right
IsFull-checked : (count : ℕ) (digits full : List ℕ) → AreDigits (count + 1) digits
    → result_ok (with_check_digit count digits) ≡ Some full → (digits ≡ full) × IsFull count full
IsFull-checked count digits full d e =
    let long = d.long in
    let more : eqb (length digits) count ≡ false = grind (arith, nat_tests) in
    at (eqb (digit_value (slice_index digits count)) (check_digit (take count digits))) refl
    (rw (more, eq-eqb (length digits) (count + 1) long) at e)
  where
    at : (b : Bool) → eqb (digit_value (slice_index digits count)) (check_digit (take count digits)) ≡ b
        → result_ok (checked_digits (take count digits) (slice_index digits count)) ≡ Some full
        → (digits ≡ full) × IsFull count full
    at true is f =
        let long = d.long in
        let same : digits ≡ full = sym (take_all (count + 1) digits (omega arith))
        ∙ take_more digits count 0 (omega arith) ∙ same_Some _ full (rw is at f) in
        (same, subst (IsFull count) same (record { digits = d; right = eqb-true _ _ is }))
    at false is f = absurd (none-some full (rw is at f))

pub patterns_in : (set : NumberSet) (bytes : List ℕ)
    → flat_map (λ byte. pattern set (digit_value byte)) bytes ≡ patterns (replicate (length bytes) set) bytes
patterns_in set [] = refl
patterns_in set (byte ∷ bytes) = ap (λ l. pattern set (digit_value byte) ++ l) (patterns_in set bytes)

-- the digits of an EAN-8 symbol
pub ean8_digits : (row : List Bool) (h : List ℕ × List ℕ) → read_halves 4 (digit_in A) row ≡ Some h
    → AreDigits 8 (h.0 ++ h.1)
ean8_digits row h halves =
    let are = halves_drawn (digit_in A) (λ byte. pattern A (digit_value byte)) IsAsciiDigit (digit_drawn A) 4 row h
    halves in
    record {
      long = omega (arith, length-append h.0 h.1, are.left.count_is, are.right.count_is);
      digits = All-append IsAsciiDigit h.0 h.1 (All-from_recursion IsAsciiDigit h.0 are.left.known)
          (All-from_recursion IsAsciiDigit h.1 are.right.known);
    }

pub ean8_drawn : (row : List Bool) (full : List ℕ) → read_ean8 row ≡ Some full → (row ≡ ean8_row full) × IsFull 7 full
ean8_drawn row full e = option_and_then_some _ (read_halves 4 (digit_in A) row) full e (λ h halves right.
    let are = halves_drawn (digit_in A) (λ byte. pattern A (digit_value byte)) IsAsciiDigit (digit_drawn A) 4 row h
    halves in
    let checked = IsFull-checked 7 (h.0 ++ h.1) full (ean8_digits row h halves) right in
    let left = patterns_in A h.0 ∙ ap (λ n. patterns (replicate n A) h.0) are.left.count_is in
    let cut : ean8_row (h.0 ++ h.1) ≡ symbol (replicate 4 A) h.0 h.1 =
    rw (take_at h.0 h.1 4 are.left.count_is, drop_at h.0 h.1 4 are.left.count_is) refl in (
      are.row_is ∙ ap (λ l. normal_guard ++ (l ++ (centre_guard ++ (right_half h.1 ++ normal_guard)))) left
          ∙ sym cut ∙ ap ean8_row checked.0,
      checked.1,
    ))

-- the set of a letter of the table
abbrev set_of : ℕ → NumberSet
set_of letter = if letter == 65 then A else B

abbrev left_pattern : ℕ × ℕ → List Bool
left_pattern found = pattern (set_of found.0) (digit_value found.1)

left_drawn : (group : List Bool) (found : ℕ × ℕ) → digit_in_a_or_b group ≡ Some found
    → (group ≡ left_pattern found) × IsAsciiDigit found.1
left_drawn group found e = at (digit_in A group) (digit_in B group) refl refl e
  where
    IsDrawnFor : ℕ × ℕ → Type 0
    IsDrawnFor found = (group ≡ left_pattern found) × IsAsciiDigit found.1

    at : (o p : Option ℕ) → digit_in A group ≡ o → digit_in B group ≡ p
        → option_or (option_map (λ (byte : ℕ). (65, byte)) o) (option_map (λ (byte : ℕ). (66, byte)) p) ≡ Some found
        → IsDrawnFor found
    at None None a b f = absurd (none-some found f)
    at None (Some byte) a b f = subst IsDrawnFor (same_Some (66, byte) found f) (digit_drawn B group byte b)
    at (Some byte) p a b f = subst IsDrawnFor (same_Some (65, byte) found f) (digit_drawn A group byte a)

patterns_of_letters : (found : List (ℕ × ℕ)) → flat_map left_pattern found
    ≡ patterns (map set_of (map (λ (y : ℕ × ℕ). y.0) found)) (map (λ (y : ℕ × ℕ). y.1) found)
patterns_of_letters [] = refl
patterns_of_letters (y ∷ found) = ap (λ l. left_pattern y ++ l) (patterns_of_letters found)

digits_of_left : (found : List (ℕ × ℕ)) → AllByRecursion (λ y. IsAsciiDigit y.1) found
    → AllByRecursion IsAsciiDigit (map (λ (y : ℕ × ℕ). y.1) found)
digits_of_left [] d = tt
digits_of_left (y ∷ found) d = (d.0, digits_of_left found d.1)

ten_rows : length left_half_sets ≡ 10
unfolding left_half_sets
ten_rows = refl

-- the digits of an EAN-13 symbol
pub ean13_digits : (row : List Bool) (h : List (ℕ × ℕ) × List ℕ) (digits : List ℕ)
    → read_halves 6 digit_in_a_or_b row ≡ Some h → with_first_digit h ≡ Some digits → AreDigits 13 digits
ean13_digits row h digits halves with_first =
    let letters = map (λ (y : ℕ × ℕ). y.0) h.0 in
    let left = map (λ (y : ℕ × ℕ). y.1) h.0 in
    option_map_some _ (position (bytes_eq letters) left_half_sets) digits with_first (λ first at same.
    let are = halves_drawn digit_in_a_or_b left_pattern (λ y. IsAsciiDigit y.1) left_drawn 6 row h halves in
    let table = position-Some (bytes_eq letters) left_half_sets first [] at in
    let long : length left ≡ 6 = length-map h.0 (λ (y : ℕ × ℕ). y.1) ∙ are.left.count_is in
    subst (AreDigits 13) same (record {
      long = omega (arith, length-append left h.1, long, are.right.count_is);
      digits = All-cons IsAsciiDigit (48 + first) (left ++ h.1) (omega arith, omega (arith, table.0, ten_rows))
          (All-append IsAsciiDigit left h.1 (All-from_recursion IsAsciiDigit left (digits_of_left h.0 are.left.known))
          (All-from_recursion IsAsciiDigit h.1 are.right.known));
    }))

pub ean13_drawn : (row : List Bool) (full : List ℕ) → read_ean13 row ≡ Some full
    → (row ≡ ean13_row full) × IsFull 12 full
ean13_drawn row full e =
    option_and_then_some _ (option_and_then with_first_digit (read_halves 6 digit_in_a_or_b row)) full e
    (λ digits first_found right.
    option_and_then_some with_first_digit (read_halves 6 digit_in_a_or_b row) digits first_found (λ h halves with_first.
    let letters = map (λ (y : ℕ × ℕ). y.0) h.0 in
    let left = map (λ (y : ℕ × ℕ). y.1) h.0 in
    option_map_some _ (position (bytes_eq letters) left_half_sets) digits with_first (λ first at same.
    let are = halves_drawn digit_in_a_or_b left_pattern (λ y. IsAsciiDigit y.1) left_drawn 6 row h halves in
    let table = position-Some (bytes_eq letters) left_half_sets first [] at in
    let long : length left ≡ 6 = length-map h.0 (λ (y : ℕ × ℕ). y.1) ∙ are.left.count_is in
    let value : digit_value (48 + first) ≡ first = omega arith in
    let checked = IsFull-checked 12 digits full (ean13_digits row h digits halves with_first) right in
    let sets : map set_of letters ≡ left_sets (digit_value (48 + first)) =
    ap (map set_of) ((bytes_eq-Decides letters (get_or left_half_sets first [])).0 table.1)
    ∙ ap left_sets (sym value) in
    let cut : ean13_row ((48 + first) ∷ (left ++ h.1)) ≡ symbol (left_sets (digit_value (48 + first))) left h.1 =
    rw (take_at left h.1 6 long, drop_at left h.1 6 long) refl in (
      are.row_is ∙ ap (λ l. normal_guard ++ (l ++ (centre_guard ++ (right_half h.1 ++ normal_guard))))
          (patterns_of_letters h.0) ∙ ap (λ s. symbol s left h.1) sets ∙ sym cut ∙ ap ean13_row (same ∙ checked.0),
      checked.1,
    ))))

pub upca_drawn : (row : List Bool) (full : List ℕ) → read_upca row ≡ Some full
    → (row ≡ upca_row full) × IsFull 12 (48 ∷ full)
upca_drawn row full e = option_and_then_some _ (read_ean13 row) full e (λ number is begins.
    let ean = ean13_drawn row number is in
    let zero = passed (bytes_eq (take 1 number) (codes "0")) (drop 1 number) begins in
    let same : number ≡ 48 ∷ full = sym (take-append-drop 1 number)
    ∙ (λ i. (bytes_eq-Decides (take 1 number) (codes "0")).0 zero.0 i ++ zero.1 i) in
    (ean.0 ∙ ap ean13_row same, subst (IsFull 12) same ean.1))
  where
    passed : (b : Bool) (rest : List ℕ) → then_some b rest ≡ Some full → (b ≡ true) × (rest ≡ full)
    passed true rest f = (refl, same_Some rest full f)
    passed false rest f = absurd (none-some full f)

-- ---- Code 128

pub character_drawn : (row : List Bool) (value : ℕ) → group_value (take 11 row) ≡ Some value
    → (take 11 row ≡ character_modules value) × (value < 106)
character_drawn row value e =
    let found = position-Some (same_modules (take 11 row)) characters value [] e in
    let same = same_modules-same (take 11 row) (character_modules value) found.1 in (
      same,
      elim (cases_lt value 106) [
        | inl below ↦ below
        | inr stop ↦
            let table = ap length characters-all_characters in
            let is : value ≡ 106 = omega (arith, stop, found.0, table, count_characters) in
            absurd (omega (arith, ap length (same ∙ ap character_modules is) ∙ length-stop, length-take 11 row))
      ],
    )

-- the values of a row that is read as data
pub record AreValues (row : List Bool) (full : List ℕ) : Type 0 where
  pub values : List ℕ
  pub row_is : row ≡ flat_map character_modules values ++ character_modules 106
  pub known : AreCharacters values
  pub some : 0 < length values
  pub meant : symbol_data values ≡ Some full

some_values : (values full : List ℕ) → symbol_data values ≡ Some full → 0 < length values
some_values [] full e = absurd (none-some full e)
some_values (value ∷ values) full e = omega arith

pub code128_drawn : (row : List Bool) (full : List ℕ) → read_code128 row ≡ Some full → AreValues row full
code128_drawn row full e =
    let count = (length row - 13) / 11 in
    let stop = same_modules (drop (11 * count) row) (character_modules 106) in
    let whole = if_some (length row == 11 * count + 13 && stop) _ full e in
    option_and_then_some symbol_data (each_group group_value 11 count row) full whole.1 (λ values found meant.
    let are = groups_drawn group_value character_modules (λ value. value < 106) 11 character_drawn count row values
    found in
    record {
      values = values;
      row_is = are.row_is ∙ ap (λ l. flat_map character_modules values ++ l)
          (same_modules-same _ (character_modules 106) (and_parts (length row == 11 * count + 13) stop whole.0).1);
      known = are.known;
      some = some_values values full meant;
      meant = meant;
    })
