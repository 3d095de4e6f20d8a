-- The generator polynomials by the logarithms of their coefficients: tests computed over all of them.
use Rattle.std.proofs.Common.{◌≡◌, ℕ, ◌-◌, ◌*◌, ◌/◌, ◌%◌, ◌≤◌, List, ◌∷◌, map, take, drop, refl, ◌∙◌, arith, true}
use Rattle.std.specs.Str.{bytes_eq}
use Rattle.std.proofs.lemmas.Slice.Eq.{bytes_eq-Decides}
use Rattle.gf256.specs.BinaryPolynomial.{binary_product, binary_remainder}
use Rattle.gf256.specs.Field.{field_product, field_power}
use Rattle.gf256.specs.Polynomial.{polynomial_sum, polynomial_product, scalar_multiple}
use Rattle.gf256.specs.ErrorCorrection.{generator}
use Rattle.gf256.specs.declared.tables.TheConstants.{GENERATORS}
use Rattle.gf256.proofs.Laws.AllBelowLaws.{all_below, all_below-at}
use Rattle.gf256.proofs.Laws.LogarithmLaws.{exp, field_power-table}

-- the logarithms of the generator of k error correction codewords in the table
unfoldable pub logarithms_at : ℕ → List ℕ
logarithms_at k = take k (drop (k * (k - 1) / 2) GENERATORS)

generators : all_below (λ k. bytes_eq (generator k) (1 ∷ map (λ e. exp (e % 255)) (logarithms_at k))) 31 ≡ true
unfolding all_below exp logarithms_at generator polynomial_product polynomial_sum scalar_multiple field_power
    field_product binary_product binary_remainder
generators = refl

pub generator-logarithms : (k : ℕ) → k ≤ 30 → generator k ≡ 1 ∷ map (field_power 2) (logarithms_at k)
generator-logarithms k most =
    (bytes_eq-Decides (generator k) (1 ∷ map (λ e. exp (e % 255)) (logarithms_at k))).0 (all_below-at
    (λ k. bytes_eq (generator k) (1 ∷ map (λ e. exp (e % 255)) (logarithms_at k))) 31 k generators (omega arith))
    ∙ (λ i. 1 ∷ map (λ e. field_power-table e i) (logarithms_at k))
