use Rattle.std.proofs.Common.{◌+◌, ◌∙◌, arith}
use Rattle.gf256.proofs.Laws.EvaluationLaws.{field_power-add}
use Rattle.gf256.proofs.Laws.LogarithmLaws.{exp, exp-power}
use Rattle.gf256.proofs.field.product_of_powers.Goals as goal

pub returns : goal.returns
unfolding exp
returns c = rw (c.from.ensures, c.from-2.ensures) (exp-power (c.args.i + c.args.j) (omega arith)
    ∙ field_power-add 2 c.args.i c.args.j (omega arith))
