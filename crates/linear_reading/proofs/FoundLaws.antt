-- The tables by which groups are looked up have what the rules find in them (ISO/IEC 15420 and 15417, symbol characters).
use Rattle.std.proofs.Common.{◌≡◌, ◌<◌, ◌+◌, ◌/◌, ◌%◌, ◌==◌, if◌then◌else◌, ℕ, Bool, true, false, Option, Some, None}
use Rattle.std.proofs.Common.{List, [], length, refl, sym, ap, ◌∙◌, eqb, get_or, arith}
use Rattle.std.proofs.lemmas.Bool.{false≢true}
use Rattle.std.proofs.lemmas.Bool.Decides.{Decides-eqb}
use Rattle.std.proofs.lemmas.Bool.{ltb-true}
use Rattle.std.proofs.lemmas.List.{take_all}
use Rattle.std.proofs.lemmas.Slice.Eq.{slice_eq-Decides}
use Rattle.std.specs.Bool.{then_some}
use Rattle.std.specs.Cmp.{booleans_Decides}
use Rattle.std.specs.Prelude.{nat_lt, slice_range}
use Rattle.linear.specs.declared.ean.NumberSet.{NumberSet}
use Rattle.linear.specs.declared.ean.NumberSet.TheVariants.{A, B, C}
use Rattle.linear.specs.Tables.{number_set_a}
use Rattle.linear.specs.EanReading.{digit_in}
use Rattle.linear.specs.declared.tables.TheConstants.{CHARACTERS}
use Rattle.linear.specs.Code128.{character_modules}
use Rattle.linear.specs.Modules.{same_modules}
use Rattle.linear.proofs.Laws.CharacterLaws.{group_value, group_value-character_modules}
use Rattle.labelcore.proofs.Laws.ComputedLaws.{all_rows, found_is, passes, passes_row, same_found}
use Rattle.linear.proofs.Laws.ReadRowLaws.{character_drawn, same_modules-same}
use Rattle.linear.proofs.Laws.TableLaws.{all_characters, characters-all_characters, CHARACTERS-character_modules}
use Rattle.linear_reading.specs.declared.tables.TheConstants.{DIGITS, VALUES}
use Rattle.linear_reading.specs.Private.Groups.{number_of}

-- ---- EAN and UPC

-- the number of a number set in the table of digits
abbrev kind_of : NumberSet → ℕ
kind_of A = 1
kind_of B = 2
kind_of C = 3

-- the digit that a number of the table of digits stands for in a number set
abbrev digit_listed : NumberSet → ℕ → Option ℕ
digit_listed set listed = if listed / 16 == kind_of set then Some (48 + listed % 16) else None

-- what the table has at a group
abbrev pub listed : List Bool → ℕ
listed group = get_or DIGITS (number_of group % 128) 0

pub digits_listed : (set : NumberSet) (group : List Bool) → length group ≡ 7
    → digit_listed set (listed group) ≡ digit_in set group
unfolding all_rows number_set_a
digits_listed A group long =
    found_is _ _ (passes_row 7 (λ g. same_found (digit_listed A (listed g)) (digit_in A g)) group refl long)
digits_listed B group long =
    found_is _ _ (passes_row 7 (λ g. same_found (digit_listed B (listed g)) (digit_in B g)) group refl long)
digits_listed C group long =
    found_is _ _ (passes_row 7 (λ g. same_found (digit_listed C (listed g)) (digit_in C g)) group refl long)

-- ---- Code 128

pub values_low : (i : ℕ) → i < 256 → get_or VALUES i 0 < 106
values_low i inside = ltb-true _ _ (passes (λ i. nat_lt (get_or VALUES i 0) 106) 256 i refl inside)

-- the value that the table has for a group
abbrev pub value_listed : List Bool → ℕ
value_listed group = get_or VALUES (number_of (slice_range group 2 10)) 0

character_listed : (value : ℕ) → value < 106 → value_listed (character_modules value) ≡ value
unfolding all_characters
character_listed value below =
    ap (λ table. value_listed (get_or table value [])) characters-all_characters
    ∙ (Decides-eqb _ _).0 (passes (λ v. eqb (value_listed (get_or all_characters v [])) v) 106 value refl below)

-- it alone can be the value of the group
pub value_found : (group : List Bool) (value i : ℕ) (d : List Bool) → length group ≡ 11 → value < 106
    → value ≡ value_listed group → i ≡ value
    → then_some (same_modules group (get_or CHARACTERS i d)) value ≡ group_value group
value_found group value i d long low listed of = at (same_modules group (get_or CHARACTERS i d)) (group_value group) refl refl
  where
    character : get_or CHARACTERS i d ≡ character_modules value
    character = CHARACTERS-character_modules i value d of low

    at : (b : Bool) (found : Option ℕ) → same_modules group (get_or CHARACTERS i d) ≡ b → group_value group ≡ found
        → then_some b value ≡ found
    at true found same e =
        sym (group_value-character_modules value (omega (arith, low)))
        ∙ ap group_value (sym (same_modules-same _ _ same ∙ character)) ∙ e
    at false None same e = refl
    at false (Some other) same e =
        let whole = take_all 11 group (omega (arith, long)) in
        let drawn = character_drawn group other (ap group_value whole ∙ e) in
        let is : group ≡ character_modules other = sym whole ∙ drawn.0 in
        let value_is : value ≡ other = listed ∙ ap value_listed is ∙ character_listed other drawn.1 in
        absurd (false≢true (sym same ∙ ap (same_modules group) (character ∙ ap character_modules value_is ∙ sym is)
        ∙ (slice_eq-Decides booleans_Decides group group (same_modules group group) refl).1 refl))
