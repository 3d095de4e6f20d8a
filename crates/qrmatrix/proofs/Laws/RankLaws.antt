-- How many free modules have a key below k, as k grows along the walk.
use Rattle.std.proofs.Common.{◌≡◌, ◌≢◌, ℕ, suc, ◌+◌, ◌-◌, ◌*◌, ◌/◌, ◌%◌, ◌<◌, ◌≤◌, refl, sym, ap, subst, ◌∙◌, arith}
use Rattle.std.proofs.Common.{Bool, true, false, ◌&&◌, Option, None, Some}
use Rattle.std.specs.Prelude.{is_none, nat_lt, ◌==◌, cond, if◌then◌else◌}
use Rattle.std.specs.Option.{option_map, option_or}
use Rattle.std.proofs.lemmas.Bool.{both_ways}
use Rattle.std.proofs.lemmas.Bool.Decides.{nat_tests}
use Rattle.std.proofs.lemmas.Nat.{div-mul-add, mod-mul-add, mul-le}
use Rattle.qrmatrix.specs.Private.Counting.{sum_below, count_below, one_if}
use Rattle.qrdata.specs.Versions.{side_of}
use Rattle.qrmatrix.specs.Functions.{Role, Function, alignment, finder, is_free, role, timing}
use Rattle.qrmatrix.specs.Placement.{key, rank}
use Rattle.qrmatrix.specs.Private.Placing.{free_below}
use Rattle.qrmatrix.proofs.Laws.SumLaws.{sum_below_same, sum_below_one, sum_below_zero, sum_by-count_by}

pub rank-free_below : (v x y : ℕ) → rank v x y ≡ free_below v (key (side_of v) x y)
unfolding rank free_below
rank-free_below v x y =
    let n = side_of v in
    sum_by-count_by n (λ j i. is_free v i j && nat_lt (key n i j) (key n x y))

timed : (f a : Option Bool) (b : Bool) (r : Option Role)
    → is_none (option_or (option_map Function (option_or f (option_or a (Some b)))) r) ≡ false
timed None None b r = refl
timed None (Some a) b r = refl
timed (Some f) a b r = refl

-- a free module is not in column 6
pub outside_at : (v x y : ℕ) → is_free v x y ≡ true → x ≢ 6
unfolding is_free role timing
outside_at v x y free e =
    both_ways (is_free v 6 y) (timed (finder (side_of v) 6 y) (alignment v 6 y) (y % 2 == 0) _)
    (subst (λ z. is_free v z y ≡ true) e free)

cell_same : (b : Bool) (j k : ℕ) → (b ≡ true → j ≢ k) → one_if (b && nat_lt j (suc k)) ≡ one_if (b && nat_lt j k)
cell_same b j k h = grind (arith, nat_tests)

cell_here : (b : Bool) (j k : ℕ) → j ≡ k → one_if (b && nat_lt j (suc k)) ≡ one_if (b && nat_lt j k) + one_if b
cell_here b j k h = grind (arith, nat_tests)

pub free_below_none : (v : ℕ) → free_below v 0 ≡ 0
unfolding free_below
free_below_none v =
    sum_below_zero (side_of v) (λ y. count_below (side_of v) (λ x. is_free v x y && nat_lt (key (side_of v) x y) 0))
    (λ y ly. sum_below_zero (side_of v) (λ x. one_if (is_free v x y && nat_lt (key (side_of v) x y) 0))
    (λ x lx. grind (arith, nat_tests)))

-- the place of a key
unfoldable pub place_column : ℕ → ℕ → ℕ
place_column n k =
    let d = 2 * (k / (2 * n)) + k % (2 * n) % 2 in cond (nat_lt d (n - 7)) (n - 1 - d) (n - 2 - d)

unfoldable pub place_row : ℕ → ℕ → ℕ
place_row n k =
    let t = (k % (2 * n)) / 2 in cond ((k / (2 * n)) % 2 == 0) (n - 1 - t) t

column_at : (n x d : ℕ) → 21 ≤ n → x < n → x ≢ 6 → d ≡ (if nat_lt 6 x then n - 1 - x else n - 2 - x)
    → (d < n - 1) × (cond (nat_lt d (n - 7)) (n - 1 - d) (n - 2 - d) ≡ x)
column_at n x d least lx ne e = (grind (arith, nat_tests), grind (arith, nat_tests))

row_at : (n y strip t : ℕ) → y < n → t ≡ (if strip % 2 == 0 then n - 1 - y else y)
    → (t < n) × (cond (strip % 2 == 0) (n - 1 - t) t ≡ y)
row_at n y strip t ly e = (grind (arith, nat_tests), grind (arith, nat_tests))

strips_below : (k strip n t m : ℕ) → k ≡ strip * (2 * n) + t → t < 2 * n → strip + 1 ≤ m → k < 2 * n * m
strips_below k strip n t m e l h = omega (arith, mul-le (strip + 1) (2 * n) m (2 * n) h (omega arith))

-- the place of the key of a module is that of the module, and the key is below that of the strips' end
pub record IsKeyed (v x y : ℕ) : Type 0 where
  pub column : place_column (side_of v) (key (side_of v) x y) ≡ x
  pub row : place_row (side_of v) (key (side_of v) x y) ≡ y
  pub below : key (side_of v) x y < 2 * side_of v * ((side_of v - 1) / 2)

module _ (v : ℕ) (l : 1 ≤ v) (h : v ≤ 10) where
  -- every module outside column 6 is keyed so
  pub keyed_at : (x y : ℕ) → x < side_of v → y < side_of v → x ≢ 6 → IsKeyed v x y
  unfolding key place_column place_row
  keyed_at x y lx ly ne =
      let n = side_of v in
      let d = if nat_lt 6 x then n - 1 - x else n - 2 - x in
      let t = if (d / 2) % 2 == 0 then n - 1 - y else y in
      let column = column_at n x d (omega arith) lx ne refl in
      let row = row_at n y (d / 2) t ly refl in
      let split : key n x y ≡ (d / 2) * (2 * n) + (2 * t + d % 2) = omega arith in
      let strip = ap (λ k. k / (2 * n)) split ∙ div-mul-add (d / 2) (2 * n) (2 * t + d % 2) (omega (arith, row.0)) in
      let place = ap (λ k. k % (2 * n)) split ∙ mod-mul-add (d / 2) (2 * n) (2 * t + d % 2) (omega (arith, row.0)) in
      let is_d : 2 * (d / 2) + (2 * t + d % 2) % 2 ≡ d = omega arith in
      let is_t : (2 * t + d % 2) / 2 ≡ t = omega arith in
      record {
        column = rw (strip, place, is_d) column.1;
        row = rw (strip, place, is_t) row.1;
        below =
            strips_below (key n x y) (d / 2) n (2 * t + d % 2) ((n - 1) / 2) split (omega (arith, row.0))
            (omega (arith, column.0));
      }

  -- no other free module has the key of a module
  -- two modules have four coordinates with their bounds; of x, y it is known that it is free, of a, b only that it is
  -- not in column 6
  pub unique : (x y a b : ℕ) → x < side_of v → y < side_of v → is_free v x y ≡ true → a < side_of v → b < side_of v
      → a ≢ 6 → key (side_of v) x y ≡ key (side_of v) a b → (x ≡ a) × (y ≡ b)
  unique x y a b lx ly free la lb ne e =
      let p = keyed_at x y lx ly (outside_at v x y free) in
      let q = keyed_at a b la lb ne in
      let columns = ap (place_column (side_of v)) e in
      let rows = ap (place_row (side_of v)) e in
      let column = p.column in
      let row = p.row in
      let other_column = q.column in
      let other_row = q.row in
      (cc, cc)

  -- the module of key k is counted from k + 1 on
  pub free_below_more : (a b k : ℕ) → a < side_of v → b < side_of v → a ≢ 6 → key (side_of v) a b ≡ k
      → free_below v (suc k) ≡ free_below v k + one_if (is_free v a b)
  unfolding free_below
  free_below_more a b k la lb ne e =
      let cell : ℕ → ℕ → ℕ → ℕ = λ j y x. one_if (is_free v x y && nat_lt (key (side_of v) x y) j) in
      sum_below_one (side_of v) (λ y. sum_below (side_of v) (cell (suc k) y)) (λ y. sum_below (side_of v) (cell k y)) b
      (one_if (is_free v a b)) lb
      (sum_below_one (side_of v) (cell (suc k) b) (cell k b) a (one_if (is_free v a b)) la
      (cell_here (is_free v a b) (key (side_of v) a b) k e)
      (λ x lx other. cell_same (is_free v x b) (key (side_of v) x b) k
      (λ free same. other (unique x b a b lx lb free la lb ne (same ∙ sym e)).0)))
      (λ y ly other. sum_below_same (side_of v) (cell (suc k) y) (cell k y)
      (λ x lx. cell_same (is_free v x y) (key (side_of v) x y) k
      (λ free same. other (unique x y a b lx ly free la lb ne (same ∙ sym e)).1)))
