use Rattle.std.proofs.Common.{◌<◌, All, sym, ◌∙◌, subst}
use Rattle.linear.proofs.Laws.Code128Laws.{data_values-below}
use Rattle.linear.proofs.code128.push_code128.Goals as goal

pub push_characters-requires-clause-values : goal.push_characters-requires-clause-values
push_characters-requires-clause-values c =
    subst (All (λ value. value < 106)) (sym (c.deref.ensures.0 ∙ c.push_values.ensures))
    (data_values-below c.start_set-set.result c.args.data.now c.requires.valid)
