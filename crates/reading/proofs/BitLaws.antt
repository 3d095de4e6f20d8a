-- Rows of bits.
use Rattle.std.proofs.Common.{◌≡◌, ℕ, ◌+◌, ◌-◌, ◌*◌, ◌/◌, ◌<◌, ◌≤◌, true, ◌%◌, ap, sym, ◌∙◌, arith, nat_le, List, get_or}
use Rattle.std.specs.Bool.{beq}
use Rattle.std.proofs.lemmas.Bool.{and_parts, leb-true}
use Rattle.picture.specs.Picture.{AreEqualRows}
use Rattle.qrmatrix.specs.Bits.{bit}
use Rattle.reading.specs.Dots.{bits_picture, is_inside, row_end}
use Rattle.reading.specs.declared.bits.BitRegion.{BitRegion}

module _ (r : BitRegion) (y end : ℕ) (high : y < r.height) (ends : end ≡ row_end r) where
  -- the rows from one on end where the region does
  pub rows_inside : (size : ℕ) → is_inside r size ≡ true
      → (r.top + y) * r.stride + r.left / 8 + (r.height - y - 1) * r.stride + (end - r.left / 8) ≤ size
  rows_inside size inside =
      let fits = leb-true ((r.top + r.height - 1) * r.stride + row_end r) size (and_parts (nat_le (row_end r) r.stride) _ inside).1 in
      let last : r.top + r.height - 1 ≡ (r.top + y) + (r.height - y - 1) = omega (arith, high) in
      let rows : (r.top + r.height - 1) * r.stride ≡ (r.top + y) * r.stride + (r.height - y - 1) * r.stride =
      ap (λ n. n * r.stride) last ∙ omega arith in
      omega (arith, ends, fits, rows)

  -- rows whose bytes are equal
  pub rows_equal : (bytes : List ℕ) (count : ℕ) → 0 < count → count ≤ r.height - y
      → ((k x : ℕ) → k < count → x < end - r.left / 8
      → get_or bytes ((r.top + y) * r.stride + r.left / 8 + k * r.stride + x) 0
      ≡ get_or bytes ((r.top + y) * r.stride + r.left / 8 + x) 0)
      → AreEqualRows (bits_picture r bytes) y count
  rows_equal bytes count some most equal = record {
    some = some;
    inside = omega (arith, most, high);
    equal = λ x k wide more.
        let at = (r.left + x) / 8 in
        let within : at - r.left / 8 < end - r.left / 8 = omega (arith, ends, wide) in
        let here : (r.top + y) * r.stride + r.left / 8 + (at - r.left / 8) ≡ (r.top + y) * r.stride + at = omega arith in
        let there : (r.top + y) * r.stride + r.left / 8 + k * r.stride + (at - r.left / 8) ≡ (r.top + (y + k)) * r.stride + at =
        omega arith in
        let same : get_or bytes ((r.top + (y + k)) * r.stride + at) 0 ≡ get_or bytes ((r.top + y) * r.stride + at) 0 =
        ap (λ n. get_or bytes n 0) (sym there) ∙ equal k (at - r.left / 8) more within ∙ ap (λ n. get_or bytes n 0) here in
        ap (λ byte. beq (bit byte (7 - (r.left + x) % 8)) r.dark) same;
  }
