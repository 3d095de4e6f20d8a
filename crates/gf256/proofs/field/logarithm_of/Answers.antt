use Rattle.gf256.proofs.Laws.LogarithmLaws.{log, power-log}
use Rattle.gf256.proofs.field.logarithm_of.Goals as goal

pub returns : goal.returns
unfolding log
returns c = rw c.from.ensures (power-log c.args.element c.requires c.ranges.element.fits)
