use Rattle.std.proofs.Common.{◌∙◌, arith, map, sym}
use Rattle.std.proofs.lemmas.Grind.{same_number_lists}
use Rattle.std.proofs.lemmas.List.{get_or-map, length-map}
use Rattle.gf256.specs.Field.{alpha, field_product}
use Rattle.gf256.specs.Polynomial.{scalar_multiple}
use Rattle.gf256.proofs.generator.doubled.Goals as goal

pub returns : goal.returns
unfolding scalar_multiple
returns c =
    let p = c.args.polynomial.now in
    let times_alpha = field_product alpha in
    let whole = c.loop-j.invariant.whole in
    same_number_lists c.loop-j.product (map times_alpha p) (omega (arith, whole, length-map p times_alpha))
    (λ k h. c.loop-j.invariant.so_far k (omega (arith, h, whole))
    ∙ sym (get_or-map times_alpha p k 0 0 (omega (arith, h, whole))))
