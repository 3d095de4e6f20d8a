use Rattle.std.proofs.Common.{◌≡◌, ◌+◌, ◌-◌, ◌*◌, ◌/◌, ◌∷◌, map, take, drop, subst, sym, arith}
use Rattle.gf256.specs.Field.{field_power}
use Rattle.gf256.specs.ErrorCorrection.{generator}
use Rattle.gf256.specs.declared.tables.TheConstants.{GENERATORS}
use Rattle.gf256.proofs.GeneratorTableLaws.{generator-logarithms, logarithms_at}
use Rattle.gf256.proofs.generator.logarithms_of.Goals as goal

pub returns-clause-coefficients : goal.returns-clause-coefficients
unfolding logarithms_at
returns-clause-coefficients c =
    let k = c.args.k in
    let first = k * (k - 1) / 2 in
    let count : first + k - first ≡ k = omega arith in
    subst (λ n. generator k ≡ 1 ∷ map (field_power 2) (take n (drop first GENERATORS))) (sym count)
    (generator-logarithms k c.requires.1)
