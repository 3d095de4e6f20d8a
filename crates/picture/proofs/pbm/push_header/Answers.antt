use Rattle.std.proofs.Common.{arith}
use Rattle.std.proofs.lemmas.Grind.{common_steps}
use Rattle.picture.proofs.pbm.push_header.Goals as goal

pub append-requires-4 : goal.append-requires-4
append-requires-4 c = grind (arith, common_steps)

pub append-requires-5 : goal.append-requires-5
append-requires-5 c = grind (arith, common_steps)
