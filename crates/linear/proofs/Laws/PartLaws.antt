-- Of a row between light modules no part but the row itself is read: where a part begins after the row does, or ends
-- before it, five light modules beside it are within the row.
use Rattle.std.proofs.Common.{◌≡◌, ℕ, zero, suc, ◌+◌, ◌-◌, ◌<◌, ◌≤◌, Bool, true, false, List, [], ◌∷◌, ◌++◌}
use Rattle.std.proofs.Common.{length, take, drop, get_or, refl, sym, ap, ◌∙◌, arith, inl, inr}
use Rattle.std.specs.Prelude.{replicate}
use Rattle.std.proofs.lemmas.Bool.{cases_lt, false≢true}
use Rattle.std.proofs.lemmas.List.{ext_get_or, get_or-append-add, get_or-drop, get_or-replicate, get_or_append_left}
use Rattle.std.proofs.lemmas.List.{get_or_past, length-drop, length-replicate, take-append-drop}
use Rattle.linear.specs.Scanning.{HasNoGap, HasNoPart}
use Rattle.linear.proofs.Laws.OneReadingLaws.{IsBounded, bounded}

-- light modules at the front of a list
front_light : (count : ℕ) (row : List Bool) → ((j : ℕ) → j < count → get_or row j false ≡ false) → count ≤ length row
    → row ≡ replicate count false ++ drop count row
front_light zero row light few = refl
front_light (suc count) [] light few = absurd (omega arith)
front_light (suc count) (x ∷ row) light few =
    (λ i. light 0 (omega arith) i ∷ front_light count row (λ j below. light (suc j) (omega arith)) (omega arith) i)

-- nowhere in the row are five places light
no_five : (row : List Bool) → HasNoGap row → (s : ℕ) → s + 5 ≤ length row
    → ((j : ℕ) → j < 5 → get_or row (s + j) false ≡ false) → false ≡ true
no_five row gap s inside light = absurd (gap (take s row) (drop 5 (drop s row))
    (sym (take-append-drop s row) ∙ ap (λ l. take s row ++ l)
    (front_light 5 (drop s row) (λ j below. get_or-drop s row j false ∙ light j below) (omega (arith, length-drop s row)))))

light_past : (row : List Bool) (right i : ℕ) → get_or (row ++ replicate right false) i false ≡ get_or row i false
light_past [] zero i = refl
light_past [] (suc right) zero = refl
light_past [] (suc right) (suc i) = light_past [] right i
light_past (x ∷ row) right zero = refl
light_past (x ∷ row) right (suc i) = light_past row right i

module _ (row part before after : List Bool) (left right : ℕ) (gap : HasNoGap row) (r : IsBounded row)
    (p : IsBounded part) (same : replicate left false ++ (row ++ replicate right false)
    ≡ before ++ (replicate 5 false ++ (part ++ (replicate 5 false ++ after)))) where
  abbrev n : ℕ
  n = length row

  abbrev k : ℕ
  k = length part

  abbrev b : ℕ
  b = length before

  -- the module at a place of the line
  abbrev at : ℕ → Bool
  at i = get_or (replicate left false ++ (row ++ replicate right false)) i false

  light_before : (i : ℕ) → i < left → at i ≡ false
  light_before i h =
      get_or_append_left (replicate left false) (row ++ replicate right false) false i
      (omega (arith, length-replicate left false)) ∙ get_or-replicate left i false false h

  in_row : (i : ℕ) → at (left + i) ≡ get_or row i false
  in_row i =
      ap (λ m. at (m + i)) (sym (length-replicate left false))
      ∙ get_or-append-add (replicate left false) (row ++ replicate right false) i false ∙ light_past row right i

  -- the same places, by the part
  in_rest : (i : ℕ) → at (b + i) ≡ get_or (replicate 5 false ++ (part ++ (replicate 5 false ++ after))) i false
  in_rest i =
      ap (λ l. get_or l (b + i) false) same
      ∙ get_or-append-add before (replicate 5 false ++ (part ++ (replicate 5 false ++ after))) i false

  light_first : (j : ℕ) → j < 5 → at (b + j) ≡ false
  light_first j h =
      in_rest j ∙ get_or_append_left (replicate 5 false) (part ++ (replicate 5 false ++ after)) false j h
      ∙ get_or-replicate 5 j false false h

  past_first : (i : ℕ) → at (b + (5 + i)) ≡ get_or (part ++ (replicate 5 false ++ after)) i false
  past_first i =
      in_rest (5 + i) ∙ get_or-append-add (replicate 5 false) (part ++ (replicate 5 false ++ after)) i false

  in_part : (i : ℕ) → i < k → at (b + (5 + i)) ≡ get_or part i false
  in_part i h = past_first i ∙ get_or_append_left part (replicate 5 false ++ after) false i h

  light_last : (j : ℕ) → j < 5 → at (b + (5 + (k + j))) ≡ false
  light_last j h =
      past_first (k + j) ∙ get_or-append-add part (replicate 5 false ++ after) j false
      ∙ get_or_append_left (replicate 5 false) after false j h ∙ get_or-replicate 5 j false false h

  -- a dark module is in the row
  is_within : (i : ℕ) → at i ≡ true → (left ≤ i) × (i < left + n)
  is_within i dark =
      elim (cases_lt i left) [
        | inl early ↦ absurd (false≢true (sym (light_before i early) ∙ dark))
        | inr from ↦ elim (cases_lt i (left + n)) [
          | inl inside ↦ (from, inside)
          | inr late ↦
              let back : left + (i - left) ≡ i = omega (arith, from) in
              absurd (false≢true (sym (get_or_past row (i - left) false (omega (arith, late)))
              ∙ sym (in_row (i - left)) ∙ ap at back ∙ dark))
        ]
      ]

  -- five light places within the row
  not_within : (a : ℕ) → left ≤ a → a + 5 ≤ left + n → ((j : ℕ) → j < 5 → at (a + j) ≡ false) → false ≡ true
  not_within a from inside light =
      no_five row gap (a - left) (omega (arith, from, inside)) (λ j h.
      let place : left + (a - left + j) ≡ a + j = omega (arith, from) in
      sym (in_row (a - left + j)) ∙ ap at place ∙ light j h)

  first_of_row : at left ≡ true
  first_of_row = let none : left ≡ left + 0 = omega arith in ap at none ∙ in_row 0 ∙ r.first

  first_of_part : at (b + 5) ≡ true
  first_of_part = let none : b + 5 ≡ b + (5 + 0) = omega arith in ap at none ∙ in_part 0 p.some ∙ p.first

  begins_same : left ≡ b + 5
  begins_same =
      let within = is_within (b + 5) first_of_part in
      elim (cases_lt left (b + 5)) [
        | inr not_less ↦ omega (arith, not_less, within.0)
        | inl less ↦ elim (cases_lt left b) [
          | inl before ↦ absurd (false≢true (not_within b (omega (arith, before)) (omega (arith, within.1)) light_first))
          | inr beside ↦
              let place : b + (left - b) ≡ left = omega (arith, beside) in
              absurd (false≢true (sym (light_first (left - b) (omega (arith, less, beside))) ∙ ap at place
              ∙ first_of_row))
        ]
      ]

  last_of_row : at (left + (n - 1)) ≡ true
  last_of_row = in_row (n - 1) ∙ r.last

  last_of_part : at (b + (5 + (k - 1))) ≡ true
  last_of_part = in_part (k - 1) (omega (arith, p.some)) ∙ p.last

  lengths_same : k ≡ n
  lengths_same =
      let within = is_within (b + (5 + (k - 1))) last_of_part in
      let some = p.some in
      let begin = begins_same in
      elim (cases_lt k n) [
        | inr not_less ↦ omega (arith, not_less, within.1, some, begin)
        | inl less ↦ elim (cases_lt (n - 1) (k + 5)) [
          | inl beside ↦
              let place : b + (5 + (k + (n - 1 - k))) ≡ left + (n - 1) = omega (arith, less, begin) in
              absurd (false≢true (sym (light_last (n - 1 - k) (omega (arith, beside, less))) ∙ ap at place
              ∙ last_of_row))
          | inr after ↦
              absurd (false≢true (not_within (left + k) (omega arith) (omega (arith, after, less)) (λ j h.
              let place : left + k + j ≡ b + (5 + (k + j)) = omega (arith, begin) in ap at place ∙ light_last j h)))
        ]
      ]

  part_same : part ≡ row
  part_same = ext_get_or false part row lengths_same (λ i h.
      let place : b + (5 + i) ≡ left + i = omega (arith, begins_same) in
      sym (in_part i h) ∙ ap at place ∙ in_row i)

pub HasNoPart-of : (row : List Bool) → HasNoGap row → IsBounded row → HasNoPart row
HasNoPart-of row gap r left right before part after same =
    elim (bounded part) [
      | inl none ↦ inr none
      | inr p ↦ inl (part_same row part before after left right gap r p same)
    ]
