use Rattle.std.proofs.Common.{ap, refl, subst, sym, ◌∙◌, List}
use Rattle.std.specs.Prelude.{Bool}
use Rattle.picture.specs.Picture.{bars}
use Rattle.capi.specs.Modules.{PutsModules}
use Rattle.capi.proofs.ModuleLaws.{no_numbers, of_each, row_answers, row_full}
use Rattle.capi.proofs.symbol.row_modules.Goals as goal

pub returns-in-Ok-clause-answers : goal.returns-in-Ok-clause-answers
returns-in-Ok-clause-answers c =
    let label = c.args.label.now in
    let items = c.row_of.new.row.items in
    row_answers _ _ _ _ c.args.symbology items label.height c.requires.linear (c.in-Ok.ensures.drawn label)
    (subst (PutsModules _ _) (c.new.ensures ∙ ap (λ (r : List Bool). bars r 1) c.as_slice.ensures.value)
    (c.offer_grid.ensures c.args.message.now))
    (λ symbol same wide high. c.info_of.ensures.size symbol same (wide ∙ sym c.len.ensures.value) high)
    (λ symbol same high. c.info_of.ensures.drawn symbol same (high ∙ sym (c.from-height.ensures ∙ c.height.ensures.value)))

pub returns-in-Ok-clause-numbers : goal.returns-in-Ok-clause-numbers
returns-in-Ok-clause-numbers c =
    of_each (λ symbol. no_numbers c.args.label.now c.args.symbology c.args.bytes.now _ c.requires.linear c.info_of.ensures.zeros) _

pub returns-in-Ok-clause-full : goal.returns-in-Ok-clause-full
returns-in-Ok-clause-full c =
    let label = c.args.label.now in
    rw c.info_of.ensures.length
    (row_full _ c.args.symbology _ _ _ _ (c.in-Ok.ensures.drawn label) (c.put_full-length.ensures label))

pub returns-in-Err-clause-answers : goal.returns-in-Err-clause-answers
returns-in-Err-clause-answers c =
    rw (c.in-Err.ensures.refused c.args.label.now) (c.told_nothing.ensures _ _ _ _ refl c.refused.ensures)
