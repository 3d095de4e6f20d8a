-- What is drawn as Code 128 is read back (ISO/IEC 15417, symbol structure).
use Rattle.std.proofs.Common.{ℕ, ◌≡◌, ◌+◌, ◌-◌, ◌*◌, ◌<◌, ◌≤◌, Bool, true, false, cond, ltb, Option, Some, None, Ok}
use Rattle.std.proofs.Common.{Err, List, [], ◌∷◌, ◌++◌, length, take}
use Rattle.std.proofs.Common.{leb, refl, ap, ◌∙◌, arith, length-append, lit<}
use Rattle.std.specs.Prelude.{option_and_then, get_or, position, find, slice_range, All, IfOk}
use Rattle.std.specs.Str.{bytes_eq}
use Rattle.std.specs.List.{AllByRecursion, list_all, position_or_len}
use Rattle.std.proofs.lemmas.Slice.Eq.{bytes_eq-Decides}
use Rattle.std.proofs.lemmas.List.Elements.{All-from_recursion, recursion_from_All}
use Rattle.std.proofs.lemmas.Bool.Decides.{nat_tests}
use Rattle.std.proofs.lemmas.List.{take_at}
use Rattle.linear.specs.declared.switching.CodeSet.{CodeSet}
use Rattle.linear.specs.declared.switching.CodeSet.TheVariants.{A, B, C}
use Rattle.labelcore.specs.declared.fault.Fault.TheVariants.{DataTooLong, NotAscii}
use Rattle.linear.specs.Digits.{unless_found}
use Rattle.linear.specs.CodeSets.{data_values, start_set, start_value, pair_values}
use Rattle.linear.specs.Code128.{check_value, with_check, code128_row, full_code128}
use Rattle.linear.specs.Private.Data.{IsCode128Data}
use Rattle.linear.specs.Code128Reading.{read_values, symbol_data, read_code128}
use Rattle.linear.proofs.Laws.DigitLaws.{fails_from_None}
use Rattle.linear.proofs.Laws.CodeSetLaws.{Written, nothing, plain, shifted, changed, pair, data_values-written}
use Rattle.linear.proofs.Laws.EanLaws.{ReadsBack}
use Rattle.linear.proofs.Laws.CharacterRowLaws.{length-row, read_code128-characters}
use Rattle.linear.proofs.Laws.ValueRangeLaws.{AreCharacters, AreCharacters-append, AreCharacters-written}
use Rattle.linear.proofs.Laws.ValueReadingLaws.{read_values-written}

-- the values between the start and the check value
pub between_first_and_last : (start check : ℕ) (values : List ℕ)
    → slice_range (start ∷ (values ++ check ∷ [])) 1 (length (start ∷ (values ++ check ∷ [])) - 1) ≡ values
between_first_and_last start check values =
    let long : length (values ++ check ∷ []) ≡ length values + 1 = length-append values (check ∷ []) in
    let count : length (start ∷ (values ++ check ∷ [])) - 1 - 1 ≡ length values = omega arith in
    ap (λ k. take k (values ++ check ∷ [])) count ∙ take_at values (check ∷ []) (length values) refl

same_values : (values : List ℕ) → bytes_eq values values ≡ true
same_values values = (bytes_eq-Decides values values).1 refl

-- the set whose start value comes first is found
find-with_check : (set : CodeSet) (values : List ℕ)
    → find (λ one. bytes_eq (with_check one values) (with_check set values)) (A ∷ B ∷ C ∷ []) ≡ Some set
find-with_check A values = rw (same_values (with_check A values)) refl
find-with_check B values = rw (same_values (with_check B values)) refl
find-with_check C values = rw (same_values (with_check C values)) refl

-- the values of a symbol are read in the set that it starts in
symbol_data-with_check : (set : CodeSet) (values : List ℕ)
    → symbol_data (with_check set values) ≡ read_values set false values
symbol_data-with_check set values =
    ap (λ xs. option_and_then (λ one. read_values one false xs)
    (find (λ one. bytes_eq (with_check one xs) (with_check set values)) (A ∷ B ∷ C ∷ [])))
    (between_first_and_last (start_value set) (check_value (start_value set) values) values)
    ∙ ap (option_and_then (λ one. read_values one false values)) (find-with_check set values)

start_below : (set : CodeSet) → start_value set < 106
start_below A = lit< tt
start_below B = lit< tt
start_below C = lit< tt

-- the values of a symbol are those of characters
pub AreCharacters-with_check : (bytes : List ℕ) → AllByRecursion (λ byte. byte < 128) bytes
    → AreCharacters (with_check (start_set bytes) (data_values (start_set bytes) bytes))
AreCharacters-with_check bytes d =
    let set = start_set bytes in
    let values = data_values set bytes in
    let check = check_value (start_value set) values in
    let below : check < 106 = omega arith in (
      start_below set,
      AreCharacters-append values (check ∷ [])
          (AreCharacters-written (data_values-written set bytes d)) (below, tt),
    )

-- two digits are written in at most two values, as a byte is
length-pair_values : (set : CodeSet) (first second : ℕ) → length (pair_values set first second) ≤ 2
length-pair_values A first second = omega arith
length-pair_values B first second = omega arith
length-pair_values C first second = omega arith

length-written : {set : CodeSet} {bytes values : List ℕ} → Written set bytes values → length values ≤ 2 * length bytes
length-written nothing = omega arith
length-written (plain below odd has w) = omega (arith, length-written w)
length-written (shifted below odd has is w) = omega (arith, length-written w)
length-written (changed below odd has is next picked has_next w) = omega (arith, length-written w)
length-written (pair {set = set} {first = first} {second = second} {values = values} even d e w) = omega (
  arith,
  length-append (pair_values set first second) values,
  length-pair_values set first second,
  length-written w,
)

-- what is drawn of data is short
pub code128_is_short : (bytes : List ℕ) → IsCode128Data bytes → length (code128_row bytes) ≤ 1795
code128_is_short bytes valid =
    let ascii = recursion_from_All (λ byte. byte < 128) bytes valid.ascii in
    let set = start_set bytes in
    let values = data_values set bytes in omega (
      arith,
      length-row (with_check set values) (AreCharacters-with_check bytes ascii),
      length-append values (check_value (start_value set) values ∷ []),
      length-written (data_values-written set bytes ascii),
      valid.few,
    )

-- what is drawn of data is read back
pub code128_reads : (bytes : List ℕ) → IsCode128Data bytes → ReadsBack read_code128 (code128_row bytes) bytes
code128_reads bytes valid =
    let ascii = recursion_from_All (λ byte. byte < 128) bytes valid.ascii in
    let set = start_set bytes in
    let values = data_values set bytes in
    record {
      read = read_code128-characters (with_check set values) (AreCharacters-with_check bytes ascii)
          ∙ symbol_data-with_check set values ∙ read_values-written (data_values-written set bytes ascii);
      short = code128_is_short bytes valid;
    }

pub data_values-below : (set : CodeSet) (bytes : List ℕ) → IsCode128Data bytes
    → All (λ value. value < 106) (data_values set bytes)
data_values-below set bytes valid = All-from_recursion (λ value. value < 106) (data_values set bytes)
    (AreCharacters-written (data_values-written set bytes (recursion_from_All (λ byte. byte < 128) bytes valid.ascii)))

pub all_ascii_from_None : (bytes : List ℕ) → position (λ byte. leb 128 byte) bytes ≡ None
    → All (λ byte. byte < 128) bytes
all_ascii_from_None bytes h =
    (λ k d lt. let e : leb 128 (get_or bytes k d) ≡ false = fails_from_None (λ byte. leb 128 byte) bytes h k d lt in
    grind (arith, nat_tests))

-- where all bytes are ASCII, none that is not is found
past_ascii : (bytes : List ℕ) → list_all (λ byte. ltb byte 128) bytes ≡ true
    → position_or_len (λ byte. leb 128 byte) bytes ≡ length bytes
past_ascii [] h = refl
past_ascii (byte ∷ bytes) h = let more = past_ascii bytes in grind (arith, nat_tests, h, more)

pub None_from_ascii : (bytes : List ℕ) → list_all (λ byte. ltb byte 128) bytes ≡ true
    → position (λ byte. leb 128 byte) bytes ≡ None
None_from_ascii bytes h = let past = past_ascii bytes h in grind (arith, nat_tests, past)

-- full data is at most 80 ASCII bytes
pub of_full_code128 : (bytes : List ℕ) (P : List ℕ → Type 0) → (IsCode128Data bytes → P bytes)
    → IfOk (full_code128 bytes) P
of_full_code128 bytes P each = by_tests (ltb 80 (length bytes)) refl (position (λ byte. leb 128 byte) bytes) refl where
  by_tests : (long : Bool) → ltb 80 (length bytes) ≡ long → (found : Option ℕ)
      → position (λ byte. leb 128 byte) bytes ≡ found
      → IfOk (cond long (Err DataTooLong) (unless_found NotAscii found (Ok bytes))) P
  by_tests true t found e = tt
  by_tests false t (Some index) e = tt
  by_tests false t None e =
      each (record { few = grind (arith, nat_tests); ascii = all_ascii_from_None bytes e })

pub code128_read_back : (bytes : List ℕ) → IfOk (full_code128 bytes) (λ full. read_code128 (code128_row full) ≡ Some full)
code128_read_back bytes = of_full_code128 bytes _ (λ valid. (code128_reads bytes valid).read)
