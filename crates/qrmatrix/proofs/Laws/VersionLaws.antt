-- What is computed for each of the ten versions.
use Rattle.std.proofs.Common.{◌≡◌, ℕ, ◌+◌, ◌-◌, ◌*◌, ◌<◌, ◌≤◌, refl, sym, ap, ◌∙◌, arith, List, [], ◌∷◌}
use Rattle.std.specs.Prelude.{map, Bool, true, not, ◌&&◌, ◌==◌, length, slice_index}
use Rattle.std.specs.List.{range_with_len, list_all, filter}
use Rattle.std.proofs.lemmas.Bool.{and_parts}
use Rattle.std.proofs.lemmas.Bool.Decides.{nat_tests}
use Rattle.std.proofs.lemmas.List.FromFn.{get_or-map-range_with_len}
use Rattle.qrmatrix.specs.Bits.{bit}
use Rattle.qrmatrix.specs.Private.Counting.{count_below, one_if, sum_below}
use Rattle.qrdata.specs.Versions.{side_of, total_codewords}
use Rattle.qrmatrix.specs.Functions.{is_free}
use Rattle.qrmatrix.specs.Placement.{key, free_count, remainder_bits}
use Rattle.qrmatrix.specs.Information.{version_information}
use Rattle.gf256.specs.BinaryPolynomial.{binary_remainder}
use Rattle.qrmatrix.specs.Modules.{is_inside}
use Rattle.qrmatrix.specs.Private.FunctionRows.{function_row}
use Rattle.qrmatrix.specs.Reading.{walk}
use Rattle.labelcore.proofs.Laws.ComputedLaws.{by_version}
use Rattle.qrmatrix.proofs.Laws.FunctionRowLaws.{function_row_is}
use Rattle.qrmatrix.proofs.Laws.SumLaws.{sum_below_same, sum_by-count_by}

-- a place of the walk is in the square, but not in column 6
abbrev pub is_walked : ℕ → ℕ × ℕ → Bool
is_walked n p = is_inside n p.0 p.1 && not (p.0 == 6)

pub walked : (v : ℕ) → 1 ≤ v → v ≤ 10 → list_all (is_walked (side_of v)) (walk (side_of v)) ≡ true
unfolding walk
walked = by_version (λ v. list_all (is_walked (side_of v)) (walk (side_of v))) (λ v. true) refl

-- the keys of the walk count up from 0
pub keys : (v : ℕ) → 1 ≤ v → v ≤ 10
    → map (λ (p : ℕ × ℕ). key (side_of v) p.0 p.1) (walk (side_of v)) ≡ range_with_len 0 (side_of v * (side_of v - 1))
unfolding walk key
keys =
    by_version (λ v. map (λ (p : ℕ × ℕ). key (side_of v) p.0 p.1) (walk (side_of v)))
    (λ v. range_with_len 0 (side_of v * (side_of v - 1))) refl

-- the rows of a version, the taken modules as bits
taken_rows : ℕ → List ℕ
unfolding function_row
taken_rows v = map (λ y. (function_row v y).taken) (range_with_len 0 (side_of v))

-- whether rows leave a place free
is_left : List ℕ → ℕ → ℕ → Bool
is_left rows x y = not (bit (slice_index rows y) x)

left_is : (v : ℕ) → 1 ≤ v → v ≤ 10 → (x y : ℕ) → x < side_of v → y < side_of v
    → is_left (taken_rows v) x y ≡ is_free v x y
unfolding is_left taken_rows
left_is v l h x y lx ly =
    ap (λ w. not (bit w x))
    (get_or-map-range_with_len (λ y. (function_row v y).taken) 0 (side_of v) y y 0 ly (omega arith))
    ∙ rw ((function_row_is v l h y ly).taken x lx) (grind arith)

-- how many places are free in the square and on the walk
record Counts : Type 0 where
  square : ℕ
  walk : ℕ

-- how many places rows leave free
left_by : ℕ → List ℕ → Counts
unfolding is_left walk
left_by n rows = record {
  square = sum_below n (λ y. count_below n (λ x. is_left rows x y));
  walk = length (filter (λ (p : ℕ × ℕ). is_left rows p.0 p.1) (walk n));
}

-- how many modules the codewords and the remainder bits have
abbrev pub room : ℕ → ℕ
room v = 8 * total_codewords v + remainder_bits v

left : (v : ℕ) → 1 ≤ v → v ≤ 10 → left_by (side_of v) (taken_rows v) ≡ record { square = room v; walk = room v }
unfolding left_by taken_rows total_codewords remainder_bits version_information binary_remainder
left = by_version (λ v. left_by (side_of v) (taken_rows v)) (λ v. record { square = room v; walk = room v }) refl

-- tests that agree inside pass the same places
pub same_filter : (p q inside : ℕ × ℕ → Bool) → ((a : ℕ × ℕ) → inside a ≡ true → p a ≡ q a) → (xs : List (ℕ × ℕ))
    → list_all inside xs ≡ true → filter p xs ≡ filter q xs
same_filter p q inside h [] i = refl
same_filter p q inside h (x ∷ xs) i =
    let parts = and_parts (inside x) (list_all inside xs) i in
    rw (h x parts.0, same_filter p q inside h xs parts.1) refl

module _ (v : ℕ) (l : 1 ≤ v) (h : v ≤ 10) where
  pub counted : free_count v ≡ room v
  unfolding free_count left_by
  counted =
      let rows = taken_rows v in
      let n = side_of v in
      sum_by-count_by n (λ y x. is_free v x y)
      ∙ sym (sum_below_same n (λ y. count_below n (λ x. is_left rows x y)) (λ y. count_below n (λ x. is_free v x y))
      (λ y ly. sum_below_same n (λ x. one_if (is_left rows x y)) (λ x. one_if (is_free v x y))
      (λ x lx. ap one_if (left_is v l h x y lx ly)))) ∙ ap (λ (c : Counts). c.square) (left v l h)

  pub filtered : length (filter (λ (p : ℕ × ℕ). is_free v p.0 p.1) (walk (side_of v))) ≡ room v
  unfolding left_by
  filtered =
      let n = side_of v in
      let rows = taken_rows v in
      sym (ap length (same_filter (λ (p : ℕ × ℕ). is_left rows p.0 p.1) (λ (p : ℕ × ℕ). is_free v p.0 p.1) (is_walked n)
      (λ p i. left_is v l h p.0 p.1 (grind (arith, nat_tests)) (grind (arith, nat_tests))) (walk n) (walked v l h)))
      ∙ ap (λ (c : Counts). c.walk) (left v l h)
