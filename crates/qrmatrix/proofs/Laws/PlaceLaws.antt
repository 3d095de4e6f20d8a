-- Of places that differ from one another, no more have another module than are turned.
use Rattle.std.proofs.Common.{◌≡◌, ℕ, ◌<◌, ◌≤◌, refl, sym, ap, subst, ◌∙◌, arith, zero-add, get_or}
use Rattle.std.proofs.Common.{Bool, true, false, not, ◌&&◌, ◌||◌, ◌==◌, List, [], ◌∷◌, length, map, AllPairs}
use Rattle.std.proofs.Common.{◌+◌, zero, suc, inl, inr}
use Rattle.std.specs.Bool.{beq}
use Rattle.std.specs.Cmp.{IsEquivalence, booleans_Decides}
use Rattle.std.specs.List.{count_by, filter, range_with_len}
use Rattle.std.specs.Set.{is_member}
use Rattle.std.proofs.lemmas.Bool.{and_parts, eqb-true, false≢true, or_cases}
use Rattle.std.proofs.lemmas.Cmp.{and_equiv, nat_eq_equiv, on_equiv}
use Rattle.std.proofs.lemmas.List.{get_or-map, length-map}
use Rattle.std.proofs.lemmas.List.FromFn.{get_or-range_with_len, length-range_with_len}
use Rattle.std.proofs.lemmas.List.Kept.{AllPairs-filter}
use Rattle.std.proofs.lemmas.List.Sums.{length-filter}
use Rattle.std.proofs.lemmas.Map.Keys.{IsDistinct-from_apart}
use Rattle.std.proofs.lemmas.Map.Made.{is_member-filter, length-le_from_is_member}
use Rattle.qrmatrix.specs.Reading.{AgreeBut, is_among}
use Rattle.qrmatrix.specs.Square.{value_at}

abbrev pub same_place : ℕ × ℕ → ℕ × ℕ → Bool
same_place p q = p.0 == q.0 && p.1 == q.1

pub place_laws : IsEquivalence same_place
place_laws = and_equiv (on_equiv (λ (p : ℕ × ℕ). p.0) nat_eq_equiv) (on_equiv (λ (p : ℕ × ℕ). p.1) nat_eq_equiv)

-- what is said of coordinates is the same of equal places
pub at_same_place : {A : Type 0} (f : ℕ → ℕ → A) (p q : ℕ × ℕ) → same_place p q ≡ true → f p.0 p.1 ≡ f q.0 q.1
at_same_place f p q is =
    let both = and_parts (p.0 == q.0) (p.1 == q.1) is in
    λ i. f (eqb-true p.0 q.0 both.0 i) (eqb-true p.1 q.1 both.1 i)

-- no two places of a list are the same
abbrev pub AreApart : List (ℕ × ℕ) → Type 0
AreApart = AllPairs (λ p q. same_place p q ≡ false)

-- places are apart where keys of them count up
pub apart_by_key : (key : ℕ → ℕ → ℕ) (places : List (ℕ × ℕ)) (n : ℕ)
    → map (λ (p : ℕ × ℕ). key p.0 p.1) places ≡ range_with_len 0 n → AreApart places
apart_by_key key places n keys i j d before inside = at (same_place (get_or places i d) (get_or places j d)) refl
  where
    key_at : (k : ℕ) → k < length places → key (get_or places k d).0 (get_or places k d).1 ≡ k
    key_at k within =
        let of_place = λ (p : ℕ × ℕ). key p.0 p.1 in
        let size : length places ≡ n = sym (length-map places of_place) ∙ ap length keys ∙ length-range_with_len 0 n in
        sym (get_or-map of_place places k d 0 within) ∙ ap (λ ks. get_or ks k 0) keys
        ∙ get_or-range_with_len 0 n k 0 (omega (arith, size, within)) ∙ zero-add k

    at : (b : Bool) → same_place (get_or places i d) (get_or places j d) ≡ b
        → same_place (get_or places i d) (get_or places j d) ≡ false
    at false is = is
    at true is = absurd (omega (
      arith,
      before,
      key_at i (omega (arith, before, inside)),
      key_at j inside,
      at_same_place key (get_or places i d) (get_or places j d) is,
    ))

-- whether two symbols differ at a place
abbrev pub differs : (ℕ → ℕ → Bool) → (ℕ → ℕ → Bool) → ℕ × ℕ → Bool
differs m other p = not (beq (m p.0 p.1) (other p.0 p.1))

same_not_differs : (a b : Bool) → b ≡ a → not (beq a b) ≡ false
same_not_differs a b e = grind arith

pub few_differ : (turned : List (ℕ × ℕ)) (m other : ℕ → ℕ → Bool) → AgreeBut turned m other → (places : List (ℕ × ℕ))
    → AreApart places → count_by (differs m other) places ≤ length turned
few_differ turned m other agree places apart =
    let wrong = filter (differs m other) places in
    subst (λ n. n ≤ length turned) (length-filter (differs m other) places)
    (length-le_from_is_member place_laws wrong turned
    (IsDistinct-from_apart same_place wrong
    (AllPairs-filter (λ p q. same_place p q ≡ false) (differs m other) places apart))
    (λ p is. at p (is_among turned p.0 p.1) refl (and_parts (is_member same_place places p) (differs m other p)
    (sym (is_member-filter place_laws (differs m other) p
    (λ q same. at_same_place (λ x y. differs m other (x, y)) p q same) places) ∙ is)).1))
  where
    at : (p : ℕ × ℕ) (b : Bool) → is_among turned p.0 p.1 ≡ b → differs m other p ≡ true
        → is_among turned p.0 p.1 ≡ true
    at p true is d = is
    at p false is d =
        absurd (false≢true (sym (same_not_differs (m p.0 p.1) (other p.0 p.1) (agree p.0 p.1 is)) ∙ d))

-- ---- rows that are the same but at some places

-- whether a row is another one from a place on, but at some places
unfoldable pub row_same : List (ℕ × ℕ) → ℕ → ℕ → List Bool → List Bool → Bool
row_same places x y [] [] = true
row_same places x y [] (b ∷ other) = false
row_same places x y (a ∷ row) [] = false
row_same places x y (a ∷ row) (b ∷ other) = (is_among places x y || beq b a) && row_same places (x + 1) y row other

-- whether rows are others from one on, but at some places
unfoldable pub rows_same : List (ℕ × ℕ) → ℕ → List (List Bool) → List (List Bool) → Bool
rows_same places y [] [] = true
rows_same places y [] (other_row ∷ other) = false
rows_same places y (row ∷ rows) [] = false
rows_same places y (row ∷ rows) (other_row ∷ other) =
    row_same places 0 y row other_row && rows_same places (y + 1) rows other

row_agrees : (places : List (ℕ × ℕ)) (from y : ℕ) (row other : List Bool) → row_same places from y row other ≡ true
    → (x : ℕ) → is_among places (from + x) y ≡ false → get_or other x false ≡ get_or row x false
unfolding row_same
row_agrees places from y [] [] e x none = refl
row_agrees places from y [] (b ∷ other) e x none = absurd (false≢true e)
row_agrees places from y (a ∷ row) [] e x none = absurd (false≢true e)
row_agrees places from y (a ∷ row) (b ∷ other) e zero none =
    let here : from + 0 ≡ from = omega arith in
    let parts = and_parts (is_among places from y || beq b a) (row_same places (from + 1) y row other) e in
    elim (or_cases (is_among places from y) (beq b a) parts.0) [
      | inl listed ↦ absurd (false≢true (sym none ∙ ap (λ k. is_among places k y) here ∙ listed))
      | inr same ↦ (booleans_Decides b a).0 same
    ]
row_agrees places from y (a ∷ row) (b ∷ other) e (suc x) none =
    let next : from + 1 + x ≡ from + suc x = omega arith in
    row_agrees places (from + 1) y row other
    (and_parts (is_among places from y || beq b a) (row_same places (from + 1) y row other) e).1 x
    (ap (λ k. is_among places k y) next ∙ none)

rows_agree : (places : List (ℕ × ℕ)) (from : ℕ) (rows other : List (List Bool))
    → rows_same places from rows other ≡ true → (x y : ℕ) → is_among places x (from + y) ≡ false
    → value_at other x y ≡ value_at rows x y
unfolding rows_same
rows_agree places from [] [] e x y none = refl
rows_agree places from [] (b ∷ other) e x y none = absurd (false≢true e)
rows_agree places from (row ∷ rows) [] e x y none = absurd (false≢true e)
rows_agree places from (row ∷ rows) (other_row ∷ other) e x zero none =
    let here : from + 0 ≡ from = omega arith in
    let plain : 0 + x ≡ x = omega arith in
    row_agrees places 0 from row other_row
    (and_parts (row_same places 0 from row other_row) (rows_same places (from + 1) rows other) e).0 x
    ((λ i. is_among places (plain i) (sym here i)) ∙ none)
rows_agree places from (row ∷ rows) (other_row ∷ other) e x (suc y) none =
    let next : from + 1 + y ≡ from + suc y = omega arith in
    rows_agree places (from + 1) rows other
    (and_parts (row_same places 0 from row other_row) (rows_same places (from + 1) rows other) e).1 x y
    (ap (is_among places x) next ∙ none)

pub agree_but : (places : List (ℕ × ℕ)) (rows other : List (List Bool)) → rows_same places 0 rows other ≡ true
    → AgreeBut places (value_at rows) (value_at other)
agree_but places rows other e x y none =
    let plain : 0 + y ≡ y = omega arith in
    rows_agree places 0 rows other e x y (ap (is_among places x) plain ∙ none)
