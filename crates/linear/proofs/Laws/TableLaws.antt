-- The tables in the code are the tables of the standards: each is computed once from the definitions.
use Rattle.std.proofs.Common.{◌≡◌, ℕ, ◌<◌, List, [], ◌∷◌, ◌++◌, Bool, length, map, get_or, refl, ap, sym, ◌∙◌, arith}
use Rattle.std.specs.List.{range_with_len}
use Rattle.std.proofs.lemmas.List.FromFn.{get_or-map-range_with_len}
use Rattle.std.proofs.lemmas.List.{get_or_append_left, get_or_default}
use Rattle.linear.specs.declared.tables.TheConstants.{SET_A, SET_B, SET_C, LEFT_SETS, CHARACTERS, STOP}
use Rattle.linear.specs.declared.ean.NumberSet.{NumberSet}
use Rattle.linear.specs.declared.ean.NumberSet.TheVariants.{A, B, C}
use Rattle.linear.specs.Tables.{number_set_a, left_half_sets, character_widths}
use Rattle.linear.specs.Ean.{pattern, left_sets}
use Rattle.linear.specs.Code128.{characters, character_modules}

-- the code's characters of the values 0 to 105, and its stop character
unfoldable pub all_characters : List (List Bool)
all_characters = CHARACTERS ++ STOP ∷ []

pub characters-all_characters : characters ≡ all_characters
unfolding all_characters character_widths
characters-all_characters = refl

pub count_characters : length all_characters ≡ 107
unfolding all_characters
count_characters = refl

pub stop_character : STOP ≡ character_modules 106
unfolding all_characters
stop_character = sym (ap (λ table. get_or table 106 []) characters-all_characters)

pub CHARACTERS-character_modules : (i value : ℕ) (d : List Bool) → i ≡ value → value < 106
    → get_or CHARACTERS i d ≡ character_modules value
unfolding all_characters
CHARACTERS-character_modules i value d same h = ap (λ k. get_or CHARACTERS k d) same
    ∙ get_or_default CHARACTERS value d [] h
    ∙ sym (get_or_append_left CHARACTERS (STOP ∷ []) [] value h)
    ∙ sym (ap (λ table. get_or table value []) characters-all_characters)

-- the digits in a number set
unfoldable pub digits_of : NumberSet → List (List Bool)
digits_of A = SET_A
digits_of B = SET_B
digits_of C = SET_C

digits_of-map : (set : NumberSet) → digits_of set ≡ map (pattern set) (range_with_len 0 10)
unfolding digits_of number_set_a
digits_of-map A = refl
digits_of-map B = refl
digits_of-map C = refl

digits_of-pattern : (set : NumberSet) (i digit : ℕ) (d : List Bool) → i ≡ digit → digit < 10
    → get_or (digits_of set) i d ≡ pattern set digit
digits_of-pattern set i digit d same h = ap (λ table. get_or table i d) (digits_of-map set)
    ∙ get_or-map-range_with_len (pattern set) 0 10 i digit d (omega arith) (omega arith)

-- in the set of a match
pub digits_of-pattern_of : (set one : NumberSet) (i digit : ℕ) (d : List Bool) → set ≡ one → i ≡ digit → digit < 10
    → get_or (digits_of one) i d ≡ pattern set digit
digits_of-pattern_of set one i digit d e same h = digits_of-pattern one i digit d same h
    ∙ ap (λ s. pattern s digit) (sym e)

-- the number sets of left halves
unfoldable pub sets_of_left : List (List NumberSet)
sets_of_left = LEFT_SETS

sets_of_left-map : sets_of_left ≡ map left_sets (range_with_len 0 10)
unfolding sets_of_left left_half_sets
sets_of_left-map = refl

pub sets_of_left-left_sets : (i digit : ℕ) (d : List NumberSet) → i ≡ digit → digit < 10
    → get_or sets_of_left i d ≡ left_sets digit
sets_of_left-left_sets i digit d same h = ap (λ table. get_or table i d) sets_of_left-map
    ∙ get_or-map-range_with_len left_sets 0 10 i digit d (omega arith) (omega arith)
