-- How many modules a row has that is read (ISO/IEC 15420 and 15417, symbol formats and symbol structure).
use Rattle.std.proofs.Common.{◌≡◌, ◌≢◌, ℕ, ◌+◌, ◌*◌, ◌-◌, ◌≤◌, Bool, true, false, Option, Some, List, [], ◌∷◌, length}
use Rattle.std.proofs.Common.{drop, refl, sym, ap, ◌∙◌, arith, inl, inr}
use Rattle.std.specs.Prelude.{find, option_and_then, slice_range}
use Rattle.std.specs.Str.{bytes_eq}
use Rattle.std.proofs.lemmas.Bool.{and_parts, cases_lt}
use Rattle.std.proofs.lemmas.List.{length-drop}
use Rattle.std.proofs.lemmas.Option.{option_and_then_some, same_Some}
use Rattle.linear.specs.declared.ean.NumberSet.TheVariants as number_set
use Rattle.linear.specs.declared.switching.CodeSet.TheVariants.{A, B, C}
use Rattle.linear.specs.Code128.{with_check}
use Rattle.linear.specs.Code128Reading.{read_code128, read_values, symbol_data}
use Rattle.linear.specs.Ean.{normal_guard}
use Rattle.linear.specs.EanReading.{digit_in, digit_in_a_or_b, has_guards, read_ean8, read_ean13, read_halves, read_upca}
use Rattle.linear.specs.EanReading.{with_first_digit}
use Rattle.linear.specs.Modules.{same_modules}
use Rattle.linear.proofs.Laws.CharacterRowLaws.{length-row}
use Rattle.linear.proofs.Laws.ReadRowLaws.{code128_drawn, if_some, same_modules-same}

-- a row of two halves with its guards
guards_long : (half : ℕ) (row : List Bool) → has_guards half row ≡ true → length row ≡ 14 * half + 11
guards_long half row guarded =
    let last = and_parts _ (same_modules (drop (8 + 14 * half) row) normal_guard) guarded in
    let same : drop (8 + 14 * half) row ≡ normal_guard = same_modules-same _ normal_guard last.1 in
    omega (arith, ap length same, length-drop (8 + 14 * half) row)

halves_long : {Y : Type 0} (half : ℕ) (found : List Bool → Option Y) (row : List Bool) (halves : List Y × List ℕ)
    → read_halves half found row ≡ Some halves → length row ≡ 14 * half + 11
halves_long half found row halves e = guards_long half row (if_some (has_guards half row) _ halves e).0

pub ean8_long : (row : List Bool) (full : List ℕ) → read_ean8 row ≡ Some full → length row ≡ 67
ean8_long row full e =
    option_and_then_some _ (read_halves 4 (digit_in number_set.A) row) full e (λ halves found after.
    halves_long 4 (digit_in number_set.A) row halves found)

pub ean13_long : (row : List Bool) (full : List ℕ) → read_ean13 row ≡ Some full → length row ≡ 95
ean13_long row full e =
    option_and_then_some _ (option_and_then with_first_digit (read_halves 6 digit_in_a_or_b row)) full e
    (λ digits found after.
    option_and_then_some with_first_digit (read_halves 6 digit_in_a_or_b row) digits found (λ halves halves_found rest.
    halves_long 6 digit_in_a_or_b row halves halves_found))

pub upca_long : (row : List Bool) (full : List ℕ) → read_upca row ≡ Some full → length row ≡ 95
upca_long row full e = option_and_then_some _ (read_ean13 row) full e (λ found is after. ean13_long row found is)

-- between a start and a check value stands nothing
none_between : (values : List ℕ) → length values ≤ 2 → slice_range values 1 (length values - 1) ≡ []
none_between [] few = refl
none_between (start ∷ []) few = refl
none_between (start ∷ check ∷ []) few = refl
none_between (start ∷ value ∷ next ∷ values) few = absurd (omega (arith, few))

no_data : (values full : List ℕ) → length values ≤ 2 → symbol_data values ≡ Some full → full ≡ []
no_data values full few e =
    option_and_then_some (λ set. read_values set false (slice_range values 1 (length values - 1)))
    (find (λ set. bytes_eq (with_check set (slice_range values 1 (length values - 1))) values) (A ∷ B ∷ C ∷ [])) full e
    (λ set found after. sym (same_Some [] full (ap (read_values set false) (sym (none_between values few)) ∙ after)))

-- three characters at least, and the stop character, where there is data
pub code128_long : (row : List Bool) (full : List ℕ) → read_code128 row ≡ Some full → full ≢ [] → 46 ≤ length row
code128_long row full e some =
    let are = code128_drawn row full e in
    elim (cases_lt (length are.values) 3) [
      | inl few ↦ absurd (some (no_data are.values full (omega (arith, few)) are.meant))
      | inr three ↦ omega (arith, three, length-row are.values are.known, ap length are.row_is)
    ]
