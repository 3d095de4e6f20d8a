-- One step of the placement.
use Rattle.std.proofs.Common.{◌≡◌, ◌≢◌, ℕ, zero, suc, ◌+◌, ◌-◌, ◌*◌, ◌/◌, ◌%◌, ◌^◌, ◌<◌, ◌≤◌, refl, sym, ap, ◌∙◌, arith}
use Rattle.std.proofs.Common.{Bool, true, false, List, inl, inr, add-one, add-zero}
use Rattle.std.specs.Prelude.{◌==◌, ◌&&◌, nat_lt, if◌then◌else◌, bit_and}
use Rattle.std.proofs.lemmas.Bool.{cases_Bool}
use Rattle.std.proofs.lemmas.Bool.Decides.{nat_tests}
use Rattle.qrdata.specs.Versions.{side_of}
use Rattle.qrmatrix.specs.Functions.{is_free}
use Rattle.qrmatrix.specs.Placement.{key, codeword_bit, rank}
use Rattle.qrmatrix.specs.Bits.{bit}
use Rattle.qrmatrix.specs.Square.{value_at}
use Rattle.qrmatrix.specs.Private.Squares.{flip_if}
use Rattle.qrmatrix.specs.Private.Counting.{one_if}
use Rattle.qrmatrix.specs.Private.Drawing.{MarksFree}
use Rattle.qrmatrix.specs.Private.Placing.{HasBits, IsStrip, MovesOn, Placed, ShowsFree, free_below, is_before}
use Rattle.qrmatrix.specs.Private.Placing.{right_column, row_of}
use Rattle.qrmatrix.specs.declared.placement.Strip.{Strip}
use Rattle.qrmatrix.proofs.Laws.FunctionRowLaws.{free_turned}
use Rattle.qrmatrix.proofs.Laws.RankLaws.{free_below_more, free_below_none, rank-free_below, unique}
use Rattle.qrmatrix.proofs.Laws.RowBitsLaws.{and_bit, not_bit, two_bits}
use Rattle.std.specs.Int.{bit_not, w64}

-- a module is in the square but not in column 6, and has this key
record HasKey (v x y k : ℕ) : Type 0 where
  inside : x < side_of v
  row_inside : y < side_of v
  untimed : x ≢ 6
  has : key (side_of v) x y ≡ k

-- how many columns are to the right of column x, the timing column 6 not counted
abbrev columns_right : ℕ → ℕ → ℕ
columns_right n x = if nat_lt 6 x then n - 1 - x else n - 2 - x

-- the keys of the modules of a row of a strip: c is 0 for the right one and 1 for the left one
has_key : (v x y k s t c : ℕ) → s < (side_of v - 1) / 2 → t < side_of v → c < 2 → x + c ≡ right_column (side_of v) s
    → y ≡ row_of (side_of v) s t → k ≡ 2 * side_of v * s + 2 * t + c → HasKey v x y k
unfolding key
has_key v x y k s t c ls lt lc ex ey ek =
    let d : columns_right (side_of v) x ≡ 2 * s + c = grind (arith, nat_tests) in
    let q : (2 * s + c) / 2 ≡ s = omega arith in
    let r : (2 * s + c) % 2 ≡ c = omega arith in
    record {
      inside = grind (arith, nat_tests);
      row_inside = grind (arith, nat_tests);
      untimed = λ six. grind (arith, nat_tests);
      has = rw (d, q, r, ey, ek) (grind (arith, nat_tests));
    }

module _ (v : ℕ) (least : 1 ≤ v) (most : v ≤ 10) (codewords : List ℕ) (old m : ℕ → ℕ → Bool) (i k a b : ℕ)
    (p : Placed v codewords old m i k) (at : HasKey v a b k) where
  before_same : (x y : ℕ) → ((x == a) && (y == b)) ≡ false → is_before v (k + 1) x y ≡ is_before v k x y
  before_same x y ne =
      let other = unique v least most x y a b in
      let same = at.has in
      grind (arith, nat_tests, other, at.inside, at.row_inside, at.untimed)

  -- a bit is laid over the module of key k, if it is free
  step : (n : ℕ → ℕ → Bool) (value : Bool) → value ≡ (is_free v a b && codeword_bit codewords i)
      → ((x y : ℕ) → n x y ≡ flip_if (((x == a) && (y == b)) && value) (m x y))
      → Placed v codewords old n (i + one_if (is_free v a b)) (k + 1)
  step n value is flips =
      let more = free_below_more v least most a b k at.inside at.row_inside at.untimed at.has in
      let counted = p.counted in
      let rank_is : rank v a b ≡ i = rank-free_below v a b ∙ ap (free_below v) at.has ∙ sym counted in
      record {
        counted = rw (add-one k, more) (omega arith);
        shown = λ x y. elim (cases_Bool ((x == a) && (y == b))) [
          | inl here ↦
              let ex : x ≡ a = grind (arith, nat_tests) in
              let ey : y ≡ b = grind (arith, nat_tests) in
              rw (ex, ey)
              (grind (arith, nat_tests, flips a b, p.shown a b, at.inside, at.row_inside, at.has, rank_is, is))
          | inr other ↦ grind (arith, flips x y, p.shown x y, before_same x y other)
        ];
      }

-- nothing is placed yet
pub placed_none : (v : ℕ) (codewords : List ℕ) (m : ℕ → ℕ → Bool) (k : ℕ) → k ≡ 0 → Placed v codewords m m 0 k
placed_none v codewords m k e =
    record {
      counted = sym (ap (free_below v) e ∙ free_below_none v);
      shown = λ x y. rw e (grind (arith, nat_tests));
    }

-- the same count and key, by other names
placed_as : {v : ℕ} {codewords : List ℕ} {start m : ℕ → ℕ → Bool} (i j k l : ℕ) → i ≡ j → k ≡ l
    → Placed v codewords start m i k → Placed v codewords start m j l
placed_as i j k l ei ek p = rw (ei, ek) at p

-- the same count and row, by other names
pub renumbered : (number i j t u : ℕ) {v : ℕ} {codewords : List ℕ} {start m : ℕ → ℕ → Bool} → i ≡ j → t ≡ u
    → Placed v codewords start m i (2 * side_of v * number + 2 * t)
    → Placed v codewords start m j (2 * side_of v * number + 2 * u)
renumbered number i j t u {v} ei et p =
    placed_as i j (2 * side_of v * number + 2 * t) (2 * side_of v * number + 2 * u) ei (omega arith) p

-- two values of a row are turned over, and then one of them at a time
one_by_one : (p q e left right z : Bool) → (p ≡ true → q ≡ true → ⊥)
    → flip_if (e && (if p then left else (if q then right else false))) z
    ≡ flip_if ((p && e) && left) (flip_if ((q && e) && right) z)
one_by_one p q e left right z h = grind arith

count_of : (two : ℕ) → two < 4 → (two + 1) / 2 ≡ one_if (bit two 1) + one_if (bit two 0)
count_of two l = grind (arith, nat_tests)

-- the left module has the next bit if the right one is free
left_bit : (free : Bool) (bits : ℕ → Bool) (i : ℕ) (first second : Bool) → first ≡ bits i → second ≡ bits (i + 1)
    → (if free then second else first) ≡ bits (i + one_if free)
left_bit true bits i first second e f = f
left_bit false bits i first second e f = e ∙ ap bits (sym (add-zero i))

-- the bits for the two modules of a row are laid over it, where `free` says which of the two are free
-- place_row and place_free have m and o, the square before and after a flip, `two` by a call, and the other facts by
-- their contracts
pub row_placed : (strip : Strip) (marked m o : List (List Bool)) (codewords : List ℕ) (i t free two word : ℕ)
    → t < strip.side → strip.x + 1 < 57 → free < 4 → two < 4 → ShowsFree two free word → HasBits 2 word codewords i
    → bit free 1 ≡ value_at marked (strip.x + 1) (row_of strip.side strip.number t)
    → bit free 0 ≡ value_at marked strip.x (row_of strip.side strip.number t)
    → ((a b : ℕ) → value_at o a b ≡ flip_if ((b == row_of strip.side strip.number t)
    && bit (two * 2 ^ strip.x % 2 ^ 64) a) (value_at m a b))
    → MovesOn strip marked codewords m o i t (i + (free + 1) / 2) (t + 1)
row_placed strip marked m o codewords i t free two word lt lx lf l2 shows has right left flips v start is marks p =
    let x = strip.x in
    let y = row_of strip.side strip.number t in
    let k = 2 * side_of v * strip.number + 2 * t in
    let inside : t < side_of v = let same = is.side in omega arith in
    let row = ap (λ n. row_of n strip.number t) is.side in
    let column = is.column in
    let r : HasKey v (x + 1) y k =
    has_key v (x + 1) y k strip.number t 0 is.number inside (omega arith) (omega arith) row (omega arith) in
    let l : HasKey v x y (k + 1) =
    has_key v x y (k + 1) strip.number t 1 is.number inside (omega arith) column row (omega arith) in
    let free_right = right ∙ marks.inside (x + 1) y r.inside r.row_inside in
    let free_left = left ∙ marks.inside x y l.inside l.row_inside in
    let first : bit word 63 ≡ codeword_bit codewords i =
    has 0 (omega arith) ∙ ap (codeword_bit codewords) (add-zero i) in
    let second : bit word 62 ≡ codeword_bit codewords (i + 1) = has 1 (omega arith) in
    let half : ℕ → ℕ → Bool = λ a b. flip_if (((a == x + 1) && (b == y)) && bit two 1) (value_at m a b) in
    let i' = i + one_if (is_free v (x + 1) y) in
    let on_right = step v is.least is.most codewords start (value_at m) i k (x + 1) y p r half (bit two 1)
    (shows.right ∙ rw (free_right, first) refl) (λ a b. refl) in
    let on_left = step v is.least is.most codewords start half i' (k + 1) x y on_right l (value_at o) (bit two 0)
    (shows.left ∙ rw (free_left, free_right) (ap (λ b. is_free v x y && b)
    (left_bit (is_free v (x + 1) y) (codeword_bit codewords) i (bit word 63) (bit word 62) first second)))
    (λ a b. flips a b
    ∙ rw (two_bits two x a l2 (omega arith)) (one_by_one (a == x) (a == x + 1) (b == y) (bit two 0) (bit two 1)
    (value_at m a b) (λ ea eb. grind (arith, nat_tests)))) in
    let count : (free + 1) / 2 ≡ one_if (is_free v (x + 1) y) + one_if (is_free v x y) =
    count_of free lf ∙ rw (free_right, free_left) refl in
    placed_as (i' + one_if (is_free v x y)) (i + (free + 1) / 2) (k + 1 + 1)
    (2 * side_of v * strip.number + 2 * (t + 1))
    (omega arith) (omega arith) on_left

-- the module of a row of a strip in column x is free where the row of number x has a one for it
column_free : (v : ℕ) (strip : Strip) (marked : List (List Bool)) (word x t : ℕ) → IsStrip v strip
    → MarksFree v marked → ((y : ℕ) → bit word y ≡ value_at marked y x) → x ≤ strip.x + 1 → t < strip.side
    → value_at marked x (row_of strip.side strip.number t) ≡ bit word (row_of strip.side strip.number t)
column_free v strip marked word x t is marks bits lx lt =
    let y = row_of strip.side strip.number t in
    let same = is.side in
    let column = is.column in
    let inside : x < side_of v = grind (arith, nat_tests) in
    let row_inside : y < side_of v = grind (arith, nat_tests) in
    marks.inside x y inside row_inside ∙ free_turned v is.least is.most x y inside row_inside
    ∙ sym (marks.inside y x row_inside inside) ∙ sym (bits y)

module _ (v : ℕ) (strip : Strip) (marked : List (List Bool)) (left right t : ℕ) (is : IsStrip v strip)
    (marks : MarksFree v marked) (lefts : (y : ℕ) → bit left y ≡ value_at marked y strip.x)
    (rights : (y : ℕ) → bit right y ≡ value_at marked y (strip.x + 1)) (lt : t < strip.side) where
  -- both modules of a row are free where both words have a one
  pub both_free : bit (bit_and left right) (row_of strip.side strip.number t) ≡ true
      → (value_at marked strip.x (row_of strip.side strip.number t) ≡ true)
      × (value_at marked (strip.x + 1) (row_of strip.side strip.number t) ≡ true)
  both_free h =
      let parts = and_bit left right (row_of strip.side strip.number t) in (
        column_free v strip marked left strip.x t is marks lefts (omega arith) lt ∙ grind (arith, parts, h),
        column_free v strip marked right (strip.x + 1) t is marks rights (omega arith) lt ∙ grind (arith, parts, h),
      )

  -- neither is where neither has a one
  pub none_free : left < 2 ^ 64 → right < 2 ^ 64 → row_of strip.side strip.number t < 64
      → bit (bit_and (bit_not w64 left) (bit_not w64 right)) (row_of strip.side strip.number t) ≡ true
      → (value_at marked strip.x (row_of strip.side strip.number t) ≡ false)
      × (value_at marked (strip.x + 1) (row_of strip.side strip.number t) ≡ false)
  none_free l r few h =
      let y = row_of strip.side strip.number t in
      let parts = and_bit (bit_not w64 left) (bit_not w64 right) y in
      let no_left = not_bit left y l few in
      let no_right = not_bit right y r few in (
        column_free v strip marked left strip.x t is marks lefts (omega arith) lt
            ∙ grind (arith, parts, h, no_left, no_right),
        column_free v strip marked right (strip.x + 1) t is marks rights (omega arith) lt
            ∙ grind (arith, parts, h, no_left, no_right),
      )

-- no bit is laid over a module
unlaid : (here b : Bool) → b ≡ flip_if (here && false) b
unlaid true b = refl
unlaid false b = refl

-- a row of a strip that has no free module is passed
row_passed : (strip : Strip) (marked m : List (List Bool)) (codewords : List ℕ) (i t : ℕ) → t < strip.side
    → value_at marked (strip.x + 1) (row_of strip.side strip.number t) ≡ false
    → value_at marked strip.x (row_of strip.side strip.number t) ≡ false
    → MovesOn strip marked codewords m m i t i (t + 1)
row_passed strip marked m codewords i t lt right left v start is marks p =
    let x = strip.x in
    let y = row_of strip.side strip.number t in
    let k = 2 * side_of v * strip.number + 2 * t in
    let inside : t < side_of v = let same = is.side in omega arith in
    let row = ap (λ n. row_of n strip.number t) is.side in
    let column = is.column in
    let r : HasKey v (x + 1) y k =
    has_key v (x + 1) y k strip.number t 0 is.number inside (omega arith) (omega arith) row (omega arith) in
    let l : HasKey v x y (k + 1) =
    has_key v x y (k + 1) strip.number t 1 is.number inside (omega arith) column row (omega arith) in
    let no_right : is_free v (x + 1) y ≡ false = sym (marks.inside (x + 1) y r.inside r.row_inside) ∙ right in
    let no_left : is_free v x y ≡ false = sym (marks.inside x y l.inside l.row_inside) ∙ left in
    let i' = i + one_if (is_free v (x + 1) y) in
    let on_right = step v is.least is.most codewords start (value_at m) i k (x + 1) y p r (value_at m) false
    (rw no_right refl) (λ a b. unlaid ((a == x + 1) && (b == y)) (value_at m a b)) in
    let on_left = step v is.least is.most codewords start (value_at m) i' (k + 1) x y on_right l (value_at m) false
    (rw no_left refl) (λ a b. unlaid ((a == x) && (b == y)) (value_at m a b)) in
    let none : i' + one_if (is_free v x y) ≡ i = rw (no_right, no_left) (omega arith) in
    placed_as (i' + one_if (is_free v x y)) i (k + 1 + 1) (2 * side_of v * strip.number + 2 * (t + 1)) none
    (omega arith) on_left

-- rows of a strip that have no free module are passed
pub rows_passed : (strip : Strip) (marked m : List (List Bool)) (codewords : List ℕ) (i t count : ℕ)
    → t + count ≤ strip.side
    → ((j : ℕ) → j < count → (value_at marked strip.x (row_of strip.side strip.number (t + j)) ≡ false)
    × (value_at marked (strip.x + 1) (row_of strip.side strip.number (t + j)) ≡ false))
    → MovesOn strip marked codewords m m i t i (t + count)
rows_passed strip marked m codewords i t zero inside none v start is marks p =
    renumbered strip.number i i t (t + 0) refl (omega arith) p
rows_passed strip marked m codewords i t (suc count) inside none v start is marks p =
    let row = none count (omega arith) in
    renumbered strip.number i i (t + count + 1) (t + suc count) refl (omega arith)
    (row_passed strip marked m codewords i (t + count) (omega arith) row.1 row.0 v start is marks
    (rows_passed strip marked m codewords i t count (omega arith) (λ j l. none j (omega arith)) v start is marks p))

-- a whole strip is placed
pub strip_placed : (v k i j : ℕ) (strip : Strip) (codewords : List ℕ) (start : ℕ → ℕ → Bool)
    (free old new : List (List Bool)) → IsStrip v strip → MarksFree v free → strip.number ≡ k
    → MovesOn strip free codewords old new i 0 j strip.side
    → Placed v codewords start (value_at old) i (2 * side_of v * k)
    → Placed v codewords start (value_at new) j (2 * side_of v * (k + 1))
strip_placed v k i j strip codewords start free old new is marks e moves p =
    let begins : 2 * side_of v * k ≡ 2 * side_of v * strip.number + 2 * 0 = rw e (omega arith) in
    let ends : 2 * side_of v * strip.number + 2 * strip.side ≡ 2 * side_of v * (k + 1) = rw (e, is.side) (omega arith) in
    placed_as j j _ _ refl ends (moves v start is marks (placed_as i i _ _ refl begins p))
