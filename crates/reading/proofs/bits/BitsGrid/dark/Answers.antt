use Rattle.std.proofs.Common.{arith}
use Rattle.std.proofs.lemmas.Grind.{common_steps}
use Rattle.reading.proofs.bits.BitsGrid.dark.Goals as goal

pub overflow_mul-row : goal.overflow_mul-row
overflow_mul-row c = grind (arith, common_steps)

pub overflow_add-byte : goal.overflow_add-byte
overflow_add-byte c = grind (arith, common_steps)

pub bounds-self-row : goal.bounds-self-row
bounds-self-row c = grind (arith, common_steps)

pub returns : goal.returns
returns c = grind (arith, common_steps)
