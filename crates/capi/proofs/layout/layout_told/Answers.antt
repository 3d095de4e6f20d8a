use Rattle.std.proofs.Common.{refl, sym, subst, ◌∙◌}
use Rattle.capi.specs.Layout.{AnswersLayout, IsLayoutOf}
use Rattle.capi.proofs.LayoutLaws.{laid_out}
use Rattle.capi.proofs.layout.layout_told.Goals as goal

pub returns-in-Some : goal.returns-in-Some
returns-in-Some c = subst (AnswersLayout 0 c.layout_of.result) (sym c.in-Some.is ∙ c.symbology_numbered.ensures) (
  refl,
  c.layout_of.ensures,
  subst (IsLayoutOf c.in-Some.symbology) (sym c.layout_of.ensures) (laid_out c.in-Some.symbology),
)
