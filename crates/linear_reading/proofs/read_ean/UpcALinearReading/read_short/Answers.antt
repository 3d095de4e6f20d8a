use Rattle.std.proofs.Common.{arith}
use Rattle.std.proofs.lemmas.Grind.{common_steps}
use Rattle.linear_reading.proofs.read_ean.UpcALinearReading.read_short.Goals as goal

pub returns-in-48 : goal.returns-in-48
returns-in-48 c = grind (arith, common_steps)
