use Rattle.std.proofs.Common.{◌≡◌, ◌==◌, ◌+◌, ◌*◌, ◌/◌, ◌%◌, ◌^◌, ◌<◌, ◌∙◌, ℕ, zero, suc, map, not, ap, arith, refl}
use Rattle.std.proofs.Common.{one-mul, zero-mul}
use Rattle.std.specs.Int.{bit_at}
use Rattle.std.specs.Prelude.{bit_and}
use Rattle.std.proofs.lemmas.Bool.{ne_eqb}
use Rattle.std.proofs.lemmas.Nat.{pow_pos}
use Rattle.std.proofs.lemmas.Nat.Bits.{and_pow, bit_at-lt}
use Rattle.qrmatrix.specs.Bits.{bit}
use Rattle.qrmatrix.proofs.Laws.RowBitsLaws.{mod_bit, shr_bit}
use Rattle.picture.specs.Text.{below}
use Rattle.picture.proofs.bits.bits_of.Goals as goal

by_bit : (u m : ℕ) → u < 2 → 0 < m → not (u * m == 0) ≡ (u == 1)
by_bit zero m small some = simp zero-mul refl
by_bit (suc zero) m small some = rw (one-mul m, ne_eqb m 0 (λ e. omega arith)) refl
by_bit (suc (suc u)) m small some = absurd (omega arith)

-- whether a byte has a bit, as the code finds it
shown : (byte r : ℕ) → not (bit_and byte (2 ^ r) == 0) ≡ bit byte r
shown byte r = rw (and_pow byte r) (by_bit (bit_at byte r) (2 ^ r) (bit_at-lt byte r) (pow_pos r))

-- bit j of a row is bit j % 8 of its byte j / 8
bit_of_byte : (row j : ℕ) → not (bit_and (row / 2 ^ (8 * (j / 8)) % 256) (2 ^ (j % 8)) == 0) ≡ bit row j
bit_of_byte row j =
    let first = 8 * (j / 8) in
    let place : j % 8 + first ≡ j = omega arith in
    shown (row / 2 ^ first % 256) (j % 8) ∙ mod_bit 8 (row / 2 ^ first) (j % 8) (omega arith)
    ∙ shr_bit row first (j % 8) ∙ ap (bit row) place

pub returns : goal.returns
returns c = c.are_some.ensures ∙ ap (map (λ value. not (value == 0))) c.bits_in_bytes.ensures
    ∙ (λ i. map (λ j. bit_of_byte c.args.row j i) (below 64))
