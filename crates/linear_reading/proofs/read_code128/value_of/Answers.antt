use Rattle.std.proofs.Common.{◌∙◌, ap, arith, get_or}
use Rattle.std.specs.Bool.{then_some}
use Rattle.linear_reading.specs.declared.tables.TheConstants.{VALUES}
use Rattle.linear_reading.proofs.FoundLaws.{value_found, values_low}
use Rattle.linear_reading.proofs.read_code128.value_of.Goals as goal

pub bounds-from-2 : goal.bounds-from-2
bounds-from-2 c = omega (arith, values_low c.from.result (omega arith), c.from-2.ensures)

pub returns : goal.returns
returns c =
    c.then_some.ensures ∙ ap (λ b. then_some b (get_or VALUES c.from.result 0)) c.same_modules.ensures
    ∙ value_found c.args.group.now (get_or VALUES c.from.result 0) c.from-2.result _ c.requires
    (values_low c.from.result (omega arith)) (ap (λ i. get_or VALUES i 0) (c.from.ensures ∙ c.number_of.ensures))
    c.from-2.ensures
