-- Laws of the tables of patterns (ISO/IEC 15420, symbol characters): each is a test that is computed over the whole
-- table once, and then holds at each place.
use Rattle.std.proofs.Common.{◌≡◌, ℕ, ◌+◌, ◌<◌, ◌==◌, Bool, true, false, Some, None, Option, List, [], ◌∷◌, length, eqb}
use Rattle.std.proofs.Common.{refl, ap, inl, inr, if◌then◌else◌}
use Rattle.std.specs.Prelude.{flat_map, is_none, map, position, replicate, slice_index_or, ◌⊎◌}
use Rattle.std.specs.Str.{bytes_eq}
use Rattle.std.specs.List.{AllByRecursion}
use Rattle.std.proofs.lemmas.Bool.{false≢true}
use Rattle.std.proofs.lemmas.Bool.Decides.{Decides-eqb}
use Rattle.labelcore.proofs.Laws.ComputedLaws.{passes}
use Rattle.linear.specs.declared.ean.NumberSet.{NumberSet}
use Rattle.linear.specs.declared.ean.NumberSet.TheVariants.{A, B, C}
use Rattle.linear.specs.Digits.{digit_value}
use Rattle.linear.specs.Tables.{number_set_a, left_half_sets}
use Rattle.linear.specs.Ean.{pattern, left_sets}
use Rattle.linear.specs.EanReading.{digit_in, digit_in_a_or_b}

-- whether there is a value, and it is this one
abbrev pub is_value : Option ℕ → ℕ → Bool
is_value None k = false
is_value (Some n) k = eqb n k

pub value_from_test : (found : Option ℕ) (k : ℕ) → is_value found k ≡ true → found ≡ Some k
value_from_test None k h = absurd (false≢true h)
value_from_test (Some n) k h = ap Some ((Decides-eqb n k).0 h)

pub none_from_test : (found : Option ℕ) → is_none found ≡ true → found ≡ None
none_from_test None h = refl
none_from_test (Some n) h = absurd (false≢true h)

-- digits in number set C
abbrev pub right_half : List ℕ → List Bool
right_half bytes = flat_map (λ byte. pattern C (digit_value byte)) bytes

-- a digit's pattern has seven modules
pub length-pattern : (set : NumberSet) (digit : ℕ) → digit < 10 → length (pattern set digit) ≡ 7
unfolding number_set_a
length-pattern A digit h = (Decides-eqb _ 7).0 (passes (λ d. eqb (length (pattern A d)) 7) 10 digit refl h)
length-pattern B digit h = (Decides-eqb _ 7).0 (passes (λ d. eqb (length (pattern B d)) 7) 10 digit refl h)
length-pattern C digit h = (Decides-eqb _ 7).0 (passes (λ d. eqb (length (pattern C d)) 7) 10 digit refl h)

-- a digit is found in its set
pub digit_in-pattern : (set : NumberSet) (digit : ℕ) → digit < 10 → digit_in set (pattern set digit) ≡ Some (48 + digit)
unfolding number_set_a
digit_in-pattern A digit h =
    value_from_test _ _ (passes (λ d. is_value (digit_in A (pattern A d)) (48 + d)) 10 digit refl h)
digit_in-pattern B digit h =
    value_from_test _ _ (passes (λ d. is_value (digit_in B (pattern B d)) (48 + d)) 10 digit refl h)
digit_in-pattern C digit h =
    value_from_test _ _ (passes (λ d. is_value (digit_in C (pattern C d)) (48 + d)) 10 digit refl h)

-- no pattern of set B is one of set A
pub digit_in_a-pattern_b : (digit : ℕ) → digit < 10 → digit_in A (pattern B digit) ≡ None
unfolding number_set_a
digit_in_a-pattern_b digit h = none_from_test _ (passes (λ d. is_none (digit_in A (pattern B d))) 10 digit refl h)

-- the table's letter of a set
abbrev pub letter_of : NumberSet → ℕ
letter_of A = 65
letter_of _ = 66

-- a left digit is found in its set
pub digit_in_a_or_b-pattern : (set : NumberSet) (digit : ℕ) → (set ≡ A) ⊎ (set ≡ B) → digit < 10
    → digit_in_a_or_b (pattern set digit) ≡ Some (letter_of set, 48 + digit)
digit_in_a_or_b-pattern set digit (inl e) h = rw (e, digit_in-pattern A digit h) refl
digit_in_a_or_b-pattern set digit (inr e) h = rw (e, digit_in_a-pattern_b digit h, digit_in-pattern B digit h) refl

-- the sets of a left half are six, each A or B, and give the first digit
pub length-left_sets : (digit : ℕ) → digit < 10 → length (left_sets digit) ≡ 6
unfolding left_half_sets
length-left_sets digit h = (Decides-eqb _ 6).0 (passes (λ d. eqb (length (left_sets d)) 6) 10 digit refl h)

pub position-left_sets : (digit : ℕ) → digit < 10
    → position (bytes_eq (map letter_of (left_sets digit))) left_half_sets ≡ Some digit
unfolding left_half_sets
position-left_sets digit h =
    value_from_test _ _
    (passes (λ d. is_value (position (bytes_eq (map letter_of (left_sets d))) left_half_sets) d) 10 digit refl h)

abbrev pub IsAOrB : NumberSet → Type 0
IsAOrB set = (set ≡ A) ⊎ (set ≡ B)

set_of_letter : (is_a : Bool) → IsAOrB (if is_a then A else B)
set_of_letter true = inl refl
set_of_letter false = inr refl

sets_of_letters : (letters : List ℕ)
    → AllByRecursion IsAOrB (map (λ letter. if letter == 65 then A else B) letters)
sets_of_letters [] = tt
sets_of_letters (letter ∷ letters) = (set_of_letter (letter == 65), sets_of_letters letters)

pub left_sets_a_or_b : (digit : ℕ) → AllByRecursion IsAOrB (left_sets digit)
left_sets_a_or_b digit = sets_of_letters (slice_index_or left_half_sets digit [])

pub four_a : AllByRecursion IsAOrB (replicate 4 A)
four_a = (inl refl, (inl refl, (inl refl, (inl refl, tt))))
