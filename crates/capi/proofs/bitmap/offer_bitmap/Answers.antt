use Rattle.std.proofs.Common.{arith}
use Rattle.std.proofs.lemmas.Grind.{common_steps}
use Rattle.capi.proofs.bitmap.offer_bitmap.Goals as goal

pub new-picture-requires-clause-fits : goal.new-picture-requires-clause-fits
new-picture-requires-clause-fits g c = grind (arith, common_steps)

pub put_dots-requires-clause-narrow : goal.put_dots-requires-clause-narrow
put_dots-requires-clause-narrow g c = grind (arith, common_steps)

pub put_dots-requires-clause-low : goal.put_dots-requires-clause-low
put_dots-requires-clause-low g c = grind (arith, common_steps)
