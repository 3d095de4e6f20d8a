-- No product of elements but 0 is 0, and the powers of alpha below the 255th differ: tests computed over the tables.
use Rattle.std.proofs.Common.{◌≡◌, ℕ, zero, suc, ◌+◌, ◌*◌, ◌<◌, ◌%◌, true, ◌==◌, nat_lt, refl, sym, ap, subst, ◌∙◌}
use Rattle.std.proofs.Common.{arith, eqb-true, ltb-true}
use Rattle.std.proofs.Math.Nat.{mul-suc}
use Rattle.gf256.specs.Field.{field_product, field_power}
use Rattle.gf256.proofs.Laws.AllBelowLaws.{all_below, all_below-at}
use Rattle.gf256.proofs.Laws.LogarithmLaws.{exp, log, exp-power, field_power-table, power-log}
use Rattle.gf256.proofs.Laws.EvaluationLaws.{field_power-add}

positive_powers : all_below (λ i. nat_lt 0 (exp i)) 255 ≡ true
unfolding all_below exp
positive_powers = refl

-- a power of alpha is not 0
pub field_power-positive : (i : ℕ) → 0 < field_power 2 i
field_power-positive i = subst (λ a. 0 < a) (field_power-table i)
    (ltb-true _ _ (all_below-at (λ i. nat_lt 0 (exp i)) 255 (i % 255) positive_powers (omega arith)))

-- a product is 0 only where a factor is
pub field_product-positive : (a b : ℕ) → 0 < a → a < 256 → 0 < b → b < 256 → 0 < field_product a b
field_product-positive a b some ha other hb =
    let product : field_power 2 (log a + log b) ≡ field_product a b =
    field_power-add 2 (log a) (log b) (omega arith)
    ∙ (λ i. field_product (power-log a some ha i) (power-log b other hb i)) in
    subst (λ c. 0 < c) product (field_power-positive (log a + log b))

logarithms : all_below (λ i. log (exp i) == i) 255 ≡ true
unfolding all_below exp log
logarithms = refl

log-power : (i : ℕ) → i < 255 → log (field_power 2 i) ≡ i
log-power i h = ap log (sym (exp-power i (omega arith)))
    ∙ eqb-true _ _ (all_below-at (λ i. log (exp i) == i) 255 i logarithms h)

-- the powers of alpha from 0 to 254 differ
pub field_power-differs : (i j : ℕ) → i < 255 → j < 255 → field_power 2 i ≡ field_power 2 j → i ≡ j
field_power-differs i j hi hj same = sym (log-power i hi) ∙ ap log same ∙ log-power j hj

-- a power of a power
pub field_power-power : (x i n : ℕ) → x < 256 → field_power (field_power x i) n ≡ field_power x (i * n)
unfolding field_power
field_power-power x i zero h = ap (field_power x) {x = 0} {y = i * 0} (omega arith)
field_power-power x i (suc n) h =
    ap (field_product (field_power x i)) (field_power-power x i n h) ∙ sym (field_power-add x i (i * n) h)
    ∙ ap (field_power x) {x = i + i * n} {y = i * suc n} (sym (mul-suc i n ∙ omega arith))
