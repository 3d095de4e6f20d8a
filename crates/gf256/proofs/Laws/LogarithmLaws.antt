-- The tables hold the powers of 2 and their logarithms: tests computed over the whole tables.
use Rattle.std.proofs.Common.{◌≡◌, ℕ, zero, suc, ◌+◌, ◌*◌, ◌/◌, ◌%◌, ◌<◌, ◌≤◌, true, ◌==◌, get_or, refl, sym, ap, ◌∙◌}
use Rattle.std.proofs.Common.{arith, eqb-true}
use Rattle.gf256.specs.BinaryPolynomial.{binary_product, binary_remainder}
use Rattle.gf256.specs.Field.{field_product, field_power}
use Rattle.gf256.specs.declared.tables.TheConstants.{POWERS, LOGARITHMS}
use Rattle.gf256.proofs.Laws.AllBelowLaws.{all_below, all_below-at}

-- the power 2^i, and the logarithm of a
unfoldable pub exp : ℕ → ℕ
exp i = get_or POWERS i 0

unfoldable pub log : ℕ → ℕ
log a = get_or LOGARITHMS a 0

steps : all_below (λ i. exp (suc i) == field_product 2 (exp i)) 510 ≡ true
unfolding all_below exp field_product binary_product binary_remainder
steps = refl

pub exp-power : (i : ℕ) → i ≤ 510 → exp i ≡ field_power 2 i
unfolding exp field_power
exp-power zero h = refl
exp-power (suc i) h =
    eqb-true _ _ (all_below-at (λ i. exp (suc i) == field_product 2 (exp i)) 510 i steps (omega arith))
    ∙ ap (field_product 2) (exp-power i (omega arith))

-- the powers begin again
period : (i : ℕ) → field_power 2 (255 + i) ≡ field_power 2 i
unfolding exp field_power
period zero = sym (exp-power 255 (omega arith)) ∙ exp-power 0 (omega arith)
period (suc i) =
    let one_more : 255 + suc i ≡ suc (255 + i) = omega arith in
    ap (field_power 2) one_more ∙ ap (field_product 2) (period i)

turns : (n i : ℕ) → field_power 2 (n * 255 + i) ≡ field_power 2 i
turns zero i = ap (field_power 2) (omega arith)
turns (suc n) i = ap (field_power 2) (omega arith) ∙ period (n * 255 + i) ∙ turns n i

-- the power of 2 by the table
pub field_power-table : (i : ℕ) → exp (i % 255) ≡ field_power 2 i
field_power-table i =
    exp-power (i % 255) (omega arith) ∙ sym (turns (i / 255) (i % 255)) ∙ ap (field_power 2) (omega arith)

logs : all_below (λ a. exp (log (suc a) % 255) == suc a) 255 ≡ true
unfolding all_below exp log
logs = refl

pub power-log : (a : ℕ) → 0 < a → a < 256 → field_power 2 (log a) ≡ a
power-log zero some h = absurd (omega arith)
power-log (suc a) some h = sym (field_power-table (log (suc a)))
    ∙ eqb-true _ _ (all_below-at (λ a. exp (log (suc a) % 255) == suc a) 255 a logs (omega arith))

pub ruleset of_powers = (exp-power, field_power-table)
