use Rattle.qrdata.specs.Private.Table.{better_choice}
use Rattle.qrdata.proofs.ChoiceOrderLaws.{is_lighter, is_no_lighter}
use Rattle.qrdata.proofs.segmentation.better.Goals as goal

pub returns-then-second-first : goal.returns-then-second-first
unfolding better_choice
returns-then-second-first c = rw (
  c.copied.ensures,
  ← c.first.view_is,
  ← c.second.view_is,
  is_lighter c.first.inside.key c.second.inside.key c.first.invariant c.second.invariant c.if-second-first.true,
)

pub returns-else-second-first : goal.returns-else-second-first
unfolding better_choice
returns-else-second-first c = rw (
  c.copied-else-second-first.ensures,
  ← c.first.view_is,
  ← c.second.view_is,
  is_no_lighter c.first.inside.key c.second.inside.key c.first.invariant c.second.invariant c.if-second-first.false,
)
