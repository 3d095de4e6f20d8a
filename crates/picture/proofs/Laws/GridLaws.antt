-- Rows of pixels, by their columns.
use Rattle.std.proofs.Common.{◌≡◌, ℕ, ◌+◌, ◌-◌, ◌*◌, ◌/◌, ◌%◌, ◌^◌, ◌<◌, ◌≤◌, Bool, false, List, ◌++◌, map, length, drop}
use Rattle.std.proofs.Common.{◌&&◌, length-append, length-drop, zero-add, refl, ap, sym, ◌∙◌, arith, inl, inr, rules, ◌⊎◌}
use Rattle.std.proofs.Math.ListN.{get_or, replicate}
use Rattle.std.proofs.lemmas.Bool.{cases_lt}
use Rattle.std.proofs.lemmas.Bool.Decides.{nat_tests}
use Rattle.std.specs.List.{range_with_len}
use Rattle.std.specs.Prelude.{nat_lt}
use Rattle.std.proofs.lemmas.List.{get_or_append_left, get_or_default, get_or-replicate, length-replicate, places}
use Rattle.std.proofs.lemmas.List.{same_lists}
use borrow.Rule.Slice.PartMut.{put_mid}
use Rattle.std.proofs.lemmas.Nat.{div_below, div-add-mod', le-div, mul-le}
use Rattle.std.proofs.lemmas.List.FromFn.{length-map-range_with_len, get_or-map-range_with_len}
use Rattle.qrmatrix.specs.Bits.{bit}
use Rattle.qrmatrix.proofs.Laws.RowBitsLaws.{above_bit, up_bit}
use Rattle.picture.specs.Picture.{AreEqualRows, Picture, with_quiet_zone, enlargement}
use Rattle.picture.specs.declared.quiet_zone.QuietZone.{QuietZone}
use Rattle.picture.specs.Text.{below, pixel_row}
use Rattle.picture.proofs.Laws.SampleLaws.{map-range}

-- a row that is known to be equal to another has its pixels
pub pixel_row-equal : (p : Picture) (y count row : ℕ) → AreEqualRows p y count → y ≤ row → row < y + count
    → pixel_row p y ≡ pixel_row p row
pixel_row-equal p y count row same low high =
    let place : y + (row - y) ≡ row = omega arith in
    sym (ap (pixel_row p) (sym place) ∙ map-range (λ x. p.dark x (y + (row - y))) (λ x. p.dark x y) 0 p.width
    (λ x low h. same.equal x (row - y) (omega arith) (omega arith)))

-- a row whose bits are known
pub pixel_row-bits : (p : Picture) (y bits width : ℕ) → width ≡ p.width
    → ((x : ℕ) → bit bits x ≡ (nat_lt x p.width && p.dark x y)) → map (bit bits) (below width) ≡ pixel_row p y
pixel_row-bits p y bits width wide same =
    rw wide (map-range (bit bits) (λ x. p.dark x y) 0 p.width (λ x low high. rw (same x) (grind (arith, nat_tests))))

-- the pixels from column x on, by their places
pub filled_from : (f : ℕ → Bool) (x : ℕ) (bs : List Bool) (n : ℕ) → length bs ≡ n
    → ((k : ℕ) → k < n → get_or bs k false ≡ f (x + k)) → bs ≡ map f (range_with_len x n)
filled_from f x bs n size each = same_lists bs (map f (range_with_len x n))
    (size ∙ sym (length-map-range_with_len f x n))
    (λ k d h. get_or_default bs k d false h ∙ each k (omega arith)
    ∙ sym (get_or-map-range_with_len f x n k (x + k) d (omega arith) refl))

-- equal rows, each repeated, from the row y on
pub equal_rows-enlargement : (p : Picture) (s y count : ℕ) → 0 < s → AreEqualRows p (y / s) count
    → AreEqualRows (enlargement p s) y (count * s - y % s)
equal_rows-enlargement p s y count some h =
    let more : 0 < count = h.some in
    let inside : y / s + count ≤ p.height = h.inside in
    let whole : y / s * s + y % s ≡ y = div-add-mod' y s in
    let product : (y / s + count) * s ≡ y / s * s + count * s = omega arith in
    let least : 1 * s ≤ count * s = mul-le 1 s count s (omega arith) (omega arith) in
    let within : y % s < s = omega arith in
    let most : (y / s + count) * s ≤ p.height * s = mul-le (y / s + count) s p.height s inside (omega arith) in
    record {
      some = omega arith;
      inside = omega arith;
      equal = λ x k wide below.
          let low : y / s ≤ (y + k) / s = le-div (y / s) (y + k) s some (omega arith) in
          let high : (y + k) / s < y / s + count = div_below (y + k) s (y / s + count) some (omega arith) in
          let place : (y + k) / s ≡ y / s + ((y + k) / s - y / s) = omega arith in
          ap (p.dark (x / s)) place
          ∙ h.equal (x / s) ((y + k) / s - y / s) (div_below x s p.width some wide) (omega arith);
    }

-- the zones round a picture
module _ (p : Picture) (zone : QuietZone) where
  dark-lower : (x y k : ℕ) → zone.top ≤ y → (y - zone.top) + k < p.height → ((column : ℕ) → column < p.width
      → p.dark column ((y - zone.top) + k) ≡ p.dark column (y - zone.top))
      → (with_quiet_zone p zone).dark x (y + k) ≡ (with_quiet_zone p zone).dark x y
  dark-lower x y k low inside same =
      let row : (y + k) - zone.top ≡ (y - zone.top) + k = omega arith in
      grind (arith, nat_tests)

  pub equal_rows-with_quiet_zone : (y count : ℕ) → zone.top ≤ y → AreEqualRows p (y - zone.top) count
      → AreEqualRows (with_quiet_zone p zone) y count
  equal_rows-with_quiet_zone y count low h = record {
    some = h.some;
    inside = let inside = h.inside in omega arith;
    equal = λ x k wide below.
        let inside = h.inside in
        dark-lower x y k low (omega arith) (λ column narrow. h.equal column k narrow below);
  }

  -- the bits of a row, moved up by the columns of the zone
  pub row_bits_in_zone : (y row : ℕ) → zone.left + p.width < 64 → zone.top ≤ y → y < zone.top + p.height
      → ((x : ℕ) → bit row x ≡ (nat_lt x p.width && p.dark x (y - zone.top)))
      → (x : ℕ) → bit (row * 2 ^ zone.left % 2 ^ 64) x
      ≡ (nat_lt x (zone.left + p.width + zone.right) && (with_quiet_zone p zone).dark x y)
  row_bits_in_zone y row narrow low high bits x =
      elim (cases_lt x 64) [
        | inl l ↦ rw (up_bit row zone.left x l, bits (x - zone.left)) (grind (arith, nat_tests))
        | inr g ↦ rw (above_bit (row * 2 ^ zone.left % 2 ^ 64) 64 x (omega arith) g) (grind (arith, nat_tests))
      ]

  -- a row of the quiet zone
  pub pixel_row-light : (y : ℕ) → (y < zone.top) ⊎ (zone.top + p.height ≤ y)
      → replicate (zone.left + p.width + zone.right) false ≡ pixel_row (with_quiet_zone p zone) y
  pixel_row-light y outside =
      let n = zone.left + p.width + zone.right in
      filled_from (λ x. (with_quiet_zone p zone).dark x y) 0 (replicate n false) n (length-replicate n false)
      (λ k h. get_or-replicate n k false false h ∙ elim outside [
        | inl above ↦ grind (arith, nat_tests)
        | inr below ↦ grind (arith, nat_tests)
      ])

-- a row of the picture, over light pixels
-- `light`, `row` and `w` are the results of fill, read_row and width in the read_row of Framed, the only caller: it
-- has one fact on each by the call, and two on y by its tests against the zone
pub put_mid-pixel_row : (p : Picture) (zone : QuietZone) (y : ℕ) (light row : List Bool) (w : ℕ)
    → light ≡ replicate (zone.left + p.width + zone.right) false → w ≡ p.width → zone.top ≤ y → y < zone.top + p.height
    → row ≡ pixel_row p (y - zone.top) →
    put_mid zone.left (zone.left + w - zone.left) light row ≡ pixel_row (with_quiet_zone p zone) y
put_mid-pixel_row p zone y light row w e width low high same =
    let n = zone.left + p.width + zone.right in
    let part : zone.left + w - zone.left ≡ p.width = omega arith in
    let size : length row ≡ p.width =
    ap length same ∙ length-map-range_with_len (λ x. p.dark x (y - zone.top)) 0 p.width in
    let long : length light ≡ n = ap length e ∙ length-replicate n false in
    let whole = put_mid zone.left p.width light row in
    let light_at : (k : ℕ) → k < n → get_or light k false ≡ false = λ k h. rw e (get_or-replicate n k false false h) in
    let row_at : (k : ℕ) → k < p.width → get_or row k false ≡ p.dark k (y - zone.top) = λ k h.
    rw same (get_or-map-range_with_len (λ x. p.dark x (y - zone.top)) 0 p.width k k false h (zero-add k)) in
    rw part (filled_from (λ x. (with_quiet_zone p zone).dark x y) 0 whole n (search (rules, places)) (λ k h.
    elim (cases_lt k zone.left) [
      | inl left ↦
          let at : get_or whole k false ≡ get_or light k false = search (rules, places) in
          at ∙ light_at k h ∙ grind (arith, nat_tests)
      | inr past ↦ elim (cases_lt k (zone.left + p.width)) [
        | inl inside ↦
            let at : get_or whole k false ≡ get_or row (k - zone.left) false = search (rules, places) in
            at ∙ row_at (k - zone.left) (omega arith) ∙ grind (arith, nat_tests)
        | inr behind ↦
            let at : get_or whole k false ≡ get_or light k false = search (rules, places) in
            at ∙ light_at k h ∙ grind (arith, nat_tests)
      ]
    ]))

-- a row of the picture, and what was after it
-- the read_row of Scaled, the only caller, has `row` and `w` by two calls and `before` by its own argument; the four
-- facts are what these calls ensure, what it requires, and that the scale is not 0
pub spread-pixel_row : (p : Picture) (s y : ℕ) (row before : List Bool) (w : ℕ) → 0 < s → w ≡ p.width
    → length before ≡ p.width * s → row ≡ pixel_row p (y / s) →
    map (λ x. get_or (row ++ drop w before) (x / s) false) (below (length (row ++ drop w before)))
    ≡ pixel_row (enlargement p s) y
spread-pixel_row p s y row before w some width size same =
    let columns : length row ≡ p.width = ap length same ∙ length-map-range_with_len (λ x. p.dark x (y / s)) 0 p.width in
    let least : p.width * 1 ≤ p.width * s = mul-le p.width 1 p.width s (omega arith) (omega arith) in
    let whole : length (row ++ drop w before) ≡ p.width * s =
    omega (arith, length-append {A = Bool}, length-drop {A = Bool}) in
    rw whole (map-range _ (λ x. p.dark (x / s) (y / s)) 0 (p.width * s) (λ x _ h.
    let inside : x / s < p.width = div_below x s p.width some (omega arith) in
    get_or_append_left row (drop w before) false (x / s) (omega arith)
    ∙ rw same (get_or-map-range_with_len (λ x. p.dark x (y / s)) 0 p.width (x / s) (x / s) false inside
    (zero-add (x / s)))))
