use Rattle.std.proofs.Common.{arith}
use Rattle.std.proofs.lemmas.Grind.{common_steps}
use Rattle.linear_reading.proofs.read_ean.halves.Goals as goal

pub slice_bounds-each_group-count : goal.slice_bounds-each_group-count
slice_bounds-each_group-count g c = grind (arith, common_steps)

pub slice_bounds-each_group-start : goal.slice_bounds-each_group-start
slice_bounds-each_group-start g c = grind (arith, common_steps)

pub each_group-left-requires : goal.each_group-left-requires
each_group-left-requires g c = grind (arith, common_steps)

pub slice_bounds-each_group-count-2 : goal.slice_bounds-each_group-count-2
slice_bounds-each_group-count-2 g c = grind (arith, common_steps)

pub slice_bounds-each_group-start-2 : goal.slice_bounds-each_group-start-2
slice_bounds-each_group-start-2 g c = grind (arith, common_steps)

pub each_group-right-requires : goal.each_group-right-requires
each_group-right-requires g c = grind (arith, common_steps)

pub returns : goal.returns
returns g c = grind (arith, common_steps)
