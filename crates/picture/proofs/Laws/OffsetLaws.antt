-- Of a picture that is cut into blocks of one size, the pixels at one offset of each block are a smaller picture. Where
-- few pixels of the whole are wrong, far fewer are wrong at one of the offsets.
use Rattle.std.proofs.Common.{◌≡◌, ℕ, zero, suc, ◌+◌, ◌-◌, ◌*◌, ◌/◌, ◌%◌, ◌<◌, ◌≤◌, refl, sym, ap, ◌∙◌, arith, inl, inr}
use Rattle.std.proofs.Common.{Bool, true, false, not, ◌||◌, ◌==◌, cond, List, [], ◌∷◌, map, length}
use Rattle.std.specs.List.{filter, list_any}
use Rattle.std.proofs.Math.Bool.{or-true}
use Rattle.std.proofs.lemmas.Bool.{and_from, cases_lt, eq-eqb, false≢true}
use Rattle.std.proofs.lemmas.Bool.Decides.{nat_tests}
use Rattle.std.proofs.lemmas.List.{length-map}
use Rattle.std.proofs.lemmas.List.Filters.{length-filter_both}
use Rattle.std.proofs.lemmas.Map.Views.{any-filter_same}
use Rattle.std.proofs.lemmas.Nat.{div-add-mod', div-mul-add, mod-mul-add}
use Rattle.std.proofs.Math.Nat.{div-lt_iff_lt-mul, mod-lt, mul-suc}
use Rattle.qrmatrix.specs.Reading.{AgreeBut, is_among}
use Rattle.qrmatrix.proofs.Laws.PlaceLaws.{at_same_place, same_place}

-- what passes one test, passes another, so that all of it is kept
filter_within : {X : Type 0} (p q : X → Bool) → ((x : X) → p x ≡ true → q x ≡ true) → (xs : List X)
    → filter p (filter q xs) ≡ filter p xs
filter_within p q within [] = refl
filter_within {X = X} p q within (x ∷ xs) = at (p x) (q x) refl refl (filter_within p q within xs)
  where
    at : (a b : Bool) → p x ≡ a → q x ≡ b → filter p (filter q xs) ≡ filter p xs
        → filter p (cond b (x ∷ filter q xs) (filter q xs)) ≡ cond a (x ∷ filter p xs) (filter p xs)
    at true true is also rest = rw (is, rest) refl
    at true false is also rest = absurd (false≢true (sym also ∙ within x is))
    at false true is also rest = rw (is, rest) refl
    at false false is also rest = rest

-- where there are fewer than (limit + 1) n items, some key below n is that of no more than `limit`
few_of_key : {X : Type 0} (key : X → ℕ) (limit n : ℕ) (xs : List X) → length xs < (limit + 1) * n
    → (k : ℕ) × (k < n) × (length (filter (λ x. key x == k) xs) ≤ limit)
few_of_key key limit zero xs few = absurd (omega (arith, few))
few_of_key key limit (suc n) xs few = elim (cases_lt limit (length (filter (λ x. key x == n) xs))) [
  | inl many ↦
      let others = filter (λ x. not (key x == n)) xs in
      let both = length-filter_both (λ x. key x == n) (λ x. not (key x == n)) (λ x. refl) xs in
      let rest = few_of_key key limit n others (omega (arith, few, many, both, mul-suc (limit + 1) n)) in
      let kept : filter (λ x. key x == rest.0) others ≡ filter (λ x. key x == rest.0) xs =
      filter_within (λ x. key x == rest.0) (λ x. not (key x == n))
      (λ x is. other_key (key x) rest.0 n is rest.1) xs in
      (rest.0, omega (arith, rest.1), omega (arith, rest.2, ap length kept))
  | inr fine ↦ (n, omega arith, omega (arith, fine))
]
  where
    other_key : (j k n : ℕ) → (j == k) ≡ true → k < n → not (j == n) ≡ true
    other_key j k n is below = grind (arith, nat_tests)

any-map : {X Y : Type 0} (f : X → Y) (p : X → Bool) (q : Y → Bool) → ((x : X) → p x ≡ true → q (f x) ≡ true)
    → (xs : List X) → list_any p xs ≡ true → list_any q (map f xs) ≡ true
any-map f p q passes [] some = some
any-map f p q passes (x ∷ xs) some = at (p x) refl some (any-map f p q passes xs)
  where
    at : (b : Bool) → p x ≡ b → (b || list_any p xs) ≡ true
        → (list_any p xs ≡ true → list_any q (map f xs) ≡ true) → (q (f x) || list_any q (map f xs)) ≡ true
    at true is now later = rw (passes x is) refl
    at false is now later = rw (later now) (or-true (q (f x)))

-- the pixels at one offset of blocks, from the block in column `left` and row `top` on
abbrev pub at_offset : (wide high left top across down : ℕ) → (ℕ → ℕ → Bool) → ℕ → ℕ → Bool
at_offset wide high left top across down pixels column row =
    pixels ((left + column) * wide + across) ((top + row) * high + down)

-- an offset at which few pixels are wrong
pub record AgreeAtOffset (wide high left top limit : ℕ) (pixels other : ℕ → ℕ → Bool) : Type 0 where
  pub across : ℕ
  pub down : ℕ
  pub across_below : across < wide
  pub down_below : down < high
  pub turned : List (ℕ × ℕ)
  pub few : length turned ≤ limit
  pub agree : AgreeBut turned (at_offset wide high left top across down pixels)
      (at_offset wide high left top across down other)

module _ (wide high left top limit : ℕ) (some : 0 < high) (pixels other : ℕ → ℕ → Bool) (wrong : List (ℕ × ℕ))
    (agree : AgreeBut wrong pixels other)
  where
    -- the number of a place's offset
    offset : ℕ → ℕ → ℕ
    offset x y = x % wide * high + y % high

    block : ℕ × ℕ → ℕ × ℕ
    block p = (p.0 / wide - left, p.1 / high - top)

    pub agree_at_offset : length wrong < (limit + 1) * (wide * high)
        → AgreeAtOffset wide high left top limit pixels other
    unfolding offset block
    agree_at_offset near =
        let found = few_of_key (λ (p : ℕ × ℕ). offset p.0 p.1) limit (wide * high) wrong near in
        let k = found.0 in
        let across_below : k / high < wide = (div-lt_iff_lt-mul some).1 found.1 in
        let down_below : k % high < high = mod-lt k some in
        let kept = filter (λ (p : ℕ × ℕ). offset p.0 p.1 == k) wrong in
        record {
          across = k / high;
          down = k % high;
          across_below = across_below;
          down_below = down_below;
          turned = map block kept;
          few = omega (arith, found.2, length-map kept block);
          agree = λ column row not_among.
              let x = (left + column) * wide + k / high in
              let y = (top + row) * high + k % high in
              let number : offset x y ≡ k = (λ i. mod-mul-add (left + column) wide (k / high) across_below i * high
              + mod-mul-add (top + row) high (k % high) down_below i) ∙ div-add-mod' k high in
              let here : block (x, y) ≡ (column, row) =
              (λ i. (
                of_block left column wide (k / high) across_below i,
                of_block top row high (k % high) down_below i,
              )) in
              at x y (is_among wrong x y) refl (λ is. sym not_among ∙ any-map block (same_place (x, y))
              (same_place (column, row)) (λ p same. same_block (x, y) p (column, row) here same) kept
              (any-filter_same (same_place (x, y)) (λ (p : ℕ × ℕ). offset p.0 p.1 == k) true
              (λ p same. eq-eqb (offset p.0 p.1) k (sym (at_same_place offset (x, y) p same) ∙ number)) wrong ∙ is));
        }
      where
        of_block : (before n size within : ℕ) → within < size → ((before + n) * size + within) / size - before ≡ n
        of_block before n size within below = omega (arith, div-mul-add (before + n) size within below)

        same_block : (q p c : ℕ × ℕ) → block q ≡ c → same_place q p ≡ true → same_place c (block p) ≡ true
        same_block q p c e same =
            let moved : block q ≡ block p = at_same_place (λ x y. block (x, y)) q p same in
            let now : c ≡ block p = sym e ∙ moved in
            and_from _ _ (eq-eqb _ _ (ap (λ (p : ℕ × ℕ). p.0) now)) (eq-eqb _ _ (ap (λ (p : ℕ × ℕ). p.1) now))

        at : (x y : ℕ) (b : Bool) → is_among wrong x y ≡ b → (b ≡ true → false ≡ true) → other x y ≡ pixels x y
        at x y true is none = absurd (false≢true (none refl))
        at x y false is none = agree x y is
