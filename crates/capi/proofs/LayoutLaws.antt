-- In each symbol of EAN and UPC the longer bars and the printed digits are where its layout has them.
use Rattle.std.proofs.Common.{◌≡◌, ℕ, ◌+◌, Bool, false, List, [], ◌∷◌, ◌++◌, take, drop, length, refl, sym, ap, ◌∙◌, arith}
use Rattle.std.proofs.Common.{append_assoc, inl, length-append, replicate}
use Rattle.std.specs.Char.{IsAsciiDigit}
use Rattle.std.proofs.lemmas.Grind.{flat_map-append}
use Rattle.std.proofs.lemmas.List.{drop-drop, take-append-drop, take_at, drop_at}
use Rattle.labelcore.specs.declared.symbology.Symbology.{Symbology}
use Rattle.labelcore.specs.declared.symbology.Symbology.TheVariants.{Ean13, Ean8, UpcA, Code128, Qr}
use Rattle.linear.specs.Digits.{digit_value}
use Rattle.linear.specs.Ean.{pattern, patterns, normal_guard, centre_guard, left_sets, ean13_row, ean8_row, upca_row}
use Rattle.linear.specs.Tables.{left_half_sets}
use Rattle.linear.specs.declared.ean.NumberSet.TheVariants.{A}
use Rattle.linear.specs.Private.Data.{AreDigits, IsFull}
use Rattle.linear.proofs.Laws.DigitLaws.{of_full_digits}
use Rattle.linear.proofs.Laws.EanLaws.{front_digits, back_digits, left_groups_of, right_groups_of}
use Rattle.linear.proofs.Laws.GroupLaws.{drop-append_more}
use Rattle.linear.proofs.Laws.PatternLaws.{length-left_sets, length-pattern, left_sets_a_or_b, four_a}
use Rattle.capi.specs.Layout.{layout_of, right_digits, IsLaidOut, IsLayoutOf}

-- equations of elements as one of lists
two : {X : Type 0} {a b x y : X} → a ≡ x → b ≡ y → a ∷ b ∷ [] ≡ x ∷ y ∷ []
two e f = cc

three : {X : Type 0} {a b c x y z : X} → a ≡ x → b ≡ y → c ≡ z → a ∷ b ∷ c ∷ [] ≡ x ∷ y ∷ z ∷ []
three e f g = cc

four : {X : Type 0} {a b c d w x y z : X} → a ≡ w → b ≡ x → c ≡ y → d ≡ z → a ∷ b ∷ c ∷ d ∷ [] ≡ w ∷ x ∷ y ∷ z ∷ []
four e f g h = cc

-- what follows the first guard: two halves of n modules, with the other guards, before a quiet zone
module _ (n : ℕ) (left right zone : List Bool) (on_left : length left ≡ n) (on_right : length right ≡ n) where
  abbrev after_guard : List Bool
  after_guard = (left ++ (centre_guard ++ (right ++ normal_guard))) ++ zone

  pub in_parts : after_guard ≡ left ++ (centre_guard ++ (right ++ (normal_guard ++ zone)))
  in_parts = append_assoc left _ zone ∙ ap (λ xs. left ++ (centre_guard ++ xs)) (append_assoc right normal_guard zone)

  pub left_is : take n after_guard ≡ left
  left_is = ap (take n) in_parts ∙ take_at left _ n on_left

  pub after_left : (k : ℕ) → drop (n + k) after_guard ≡ drop k (centre_guard ++ (right ++ (normal_guard ++ zone)))
  after_left k = ap (drop (n + k)) in_parts ∙ drop-append_more n k left _ on_left

  pub right_is : take n (drop (n + 5) after_guard) ≡ right
  right_is = ap (take n) (after_left 5) ∙ take_at right _ n on_right

  pub after_right : (k : ℕ) → drop (n + (5 + (n + k))) after_guard ≡ drop k (normal_guard ++ zone)
  after_right k = after_left (5 + (n + k)) ∙ drop-append_more 5 (n + k) centre_guard _ refl
      ∙ drop-append_more n k right _ on_right

pub ean8_layout : (full : List ℕ) → IsFull 7 full → IsLaidOut Ean8 (layout_of Ean8) full (ean8_row full)
unfolding layout_of
ean8_layout full f =
    let left = patterns (replicate 4 A) (take 4 full) in
    let right = right_digits (drop 4 full) in
    let zone = replicate 7 false in
    let on_left = (left_groups_of 4 (replicate 4 A) (take 4 full) refl four_a (front_digits 4 4 full f.digits)).long in
    let on_right = (right_groups_of 4 (drop 4 full) (back_digits 4 4 full f.digits)).long in
    record {
      guards = three refl (ap (take 5) (after_left 28 left right zone on_left on_right 0))
          (ap (take 3) (after_right 28 left right zone on_left on_right 0));
      digits = two (ap (λ (m : List Bool). (0, 4, m)) (left_is 28 left right zone on_left on_right))
          (ap (λ (m : List Bool). (4, 8, m)) (right_is 28 left right zone on_left on_right));
    }

pub ean13_layout : (full : List ℕ) → IsFull 12 full → IsLaidOut Ean13 (layout_of Ean13) full (ean13_row full)
unfolding layout_of
ean13_layout [] f = absurd (let e = f.digits.long in omega arith)
ean13_layout (first ∷ rest) f =
    let after : AreDigits 12 rest = back_digits 1 12 (first ∷ rest) f.digits in
    let d : IsAsciiDigit first = f.digits.digits 0 0 (omega arith) in
    let sets = left_sets (digit_value first) in
    let left = patterns sets (take 6 rest) in
    let right = right_digits (drop 6 rest) in
    let zone = replicate 7 false in
    let on_left = (left_groups_of 6 sets (take 6 rest) (length-left_sets (digit_value first) (omega arith))
    (left_sets_a_or_b (digit_value first)) (front_digits 6 6 rest after)).long in
    let on_right = (right_groups_of 6 (drop 6 rest) (back_digits 6 6 rest after)).long in
    record {
      guards = three refl (ap (take 5) (after_left 42 left right zone on_left on_right 0))
          (ap (take 3) (after_right 42 left right zone on_left on_right 0));
      digits = three refl (ap (λ (m : List Bool). (1, 7, m)) (left_is 42 left right zone on_left on_right))
          (ap (λ (m : List Bool). (7, 13, m)) (right_is 42 left right zone on_left on_right));
    }

-- the same where the halves are a digit and five, and five and a digit
module _ (first left right last zone : List Bool) (on_first : length first ≡ 7) (on_left : length left ≡ 35)
    (on_right : length right ≡ 35) (on_last : length last ≡ 7) where
  abbrev inner : List Bool
  inner = ((first ++ left) ++ (centre_guard ++ ((right ++ last) ++ normal_guard))) ++ zone

  long_left : length (first ++ left) ≡ 42
  long_left = let e = length-append first left in omega arith

  long_right : length (right ++ last) ≡ 42
  long_right = let e = length-append right last in omega arith

  from_first : inner ≡ first ++ (left ++ (centre_guard ++ ((right ++ last) ++ (normal_guard ++ zone))))
  from_first = in_parts 42 (first ++ left) (right ++ last) zone long_left long_right ∙ append_assoc first left _

  pub first_is : take 7 inner ≡ first
  first_is = ap (take 7) from_first ∙ take_at first _ 7 on_first

  pub left_five : take 35 (drop 7 inner) ≡ left
  left_five = ap (λ xs. take 35 (drop 7 xs)) from_first ∙ ap (take 35) (drop_at first _ 7 on_first)
      ∙ take_at left _ 35 on_left

  pub centre_is : take 5 (drop 42 inner) ≡ centre_guard
  centre_is = ap (take 5) (after_left 42 (first ++ left) (right ++ last) zone long_left long_right 0)

  from_right : drop 47 inner ≡ right ++ (last ++ (normal_guard ++ zone))
  from_right = after_left 42 (first ++ left) (right ++ last) zone long_left long_right 5 ∙ append_assoc right last _

  pub right_five : take 35 (drop 47 inner) ≡ right
  right_five = ap (take 35) from_right ∙ take_at right _ 35 on_right

  pub last_is : take 10 (drop 82 inner) ≡ last ++ normal_guard
  last_is = ap (take 10) (sym (drop-drop 35 47 inner) ∙ ap (drop 35) from_right ∙ drop_at right _ 35 on_right
      ∙ sym (append_assoc last normal_guard zone))
      ∙ take_at (last ++ normal_guard) zone 10 (length-append last normal_guard ∙ ap (λ n. n + 3) on_last)

  pub past_guard : drop 95 inner ≡ drop 6 (normal_guard ++ zone)
  past_guard = after_right 42 (first ++ left) (right ++ last) zone long_left long_right 6

-- digits in two parts
right_digits-cut : (n : ℕ) (bytes : List ℕ) → right_digits bytes ≡ right_digits (take n bytes) ++ right_digits (drop n bytes)
right_digits-cut n bytes = ap right_digits (sym (take-append-drop n bytes)) ∙ flat_map-append _ (take n bytes) (drop n bytes)

pub upca_layout : (full : List ℕ) → IsFull 11 full → IsLaidOut UpcA (layout_of UpcA) full (upca_row full)
unfolding layout_of left_half_sets
upca_layout [] f = absurd (let e = f.digits.long in omega arith)
upca_layout (byte ∷ rest) f =
    let d : IsAsciiDigit byte = f.digits.digits 0 0 (omega arith) in
    let after : AreDigits 11 rest = back_digits 1 11 (byte ∷ rest) f.digits in
    let six : AreDigits 6 (drop 5 rest) = back_digits 5 6 rest after in
    let first = pattern A (digit_value byte) in
    let left = patterns (replicate 5 A) (take 5 rest) in
    let right = right_digits (take 5 (drop 5 rest)) in
    let last = right_digits (drop 5 (drop 5 rest)) in
    let zone = replicate 9 false in
    let on_first = length-pattern A (digit_value byte) (omega arith) in
    let on_left = (left_groups_of 5 (replicate 5 A) (take 5 rest) refl (inl refl, four_a)
    (front_digits 5 6 rest after)).long in
    let on_right = (right_groups_of 5 (take 5 (drop 5 rest)) (front_digits 5 1 (drop 5 rest) six)).long in
    let on_last = (right_groups_of 1 (drop 5 (drop 5 rest)) (back_digits 5 1 (drop 5 rest) six)).long in
    let row : List Bool → List Bool = λ r. ((first ++ left) ++ (centre_guard ++ (r ++ normal_guard))) ++ zone in
    let cut = right_digits-cut 5 (drop 5 rest) in
    record {
      guards = three
          (ap (λ r. normal_guard ++ take 7 (row r)) cut
          ∙ ap (λ m. normal_guard ++ m) (first_is first left right last zone on_first on_left on_right on_last))
          (ap (λ r. take 5 (drop 42 (row r))) cut ∙ centre_is first left right last zone on_first on_left on_right on_last)
          (ap (λ r. take 10 (drop 82 (row r))) cut ∙ last_is first left right last zone on_first on_left on_right on_last
          ∙ ap (λ bytes. right_digits bytes ++ normal_guard) (drop-drop 5 5 rest));
      digits = four refl
          (ap (λ (m : List Bool). (1, 6, m)) (ap (λ r. take 35 (drop 7 (row r))) cut
          ∙ left_five first left right last zone on_first on_left on_right on_last))
          (ap (λ (m : List Bool). (6, 11, m)) (ap (λ r. take 35 (drop 47 (row r))) cut
          ∙ right_five first left right last zone on_first on_left on_right on_last))
          (ap (λ (m : List Bool). (11, 12, m)) (ap (λ r. take 5 (drop 95 (row r))) cut
          ∙ ap (take 5) (past_guard first left right last zone on_first on_left on_right on_last)));
    }

-- the layout of a symbology is that of each of its symbols
pub laid_out : (symbology : Symbology) → IsLayoutOf symbology (layout_of symbology)
unfolding layout_of
laid_out Ean13 = λ bytes. of_full_digits 12 bytes _ ean13_layout
laid_out Ean8 = λ bytes. of_full_digits 7 bytes _ ean8_layout
laid_out UpcA = λ bytes. of_full_digits 11 bytes _ upca_layout
laid_out Code128 = (refl, refl)
laid_out Qr = (refl, refl)
