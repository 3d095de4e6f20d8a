use Rattle.std.proofs.Common.{arith}
use Rattle.std.proofs.lemmas.Grind.{common_steps}
use Rattle.linear_reading.proofs.read_code128.symbol_data.Goals as goal

pub returns-in_err-set_of-in-len2-up : goal.returns-in_err-set_of-in-len2-up
returns-in_err-set_of-in-len2-up c = grind (arith, common_steps)

pub returns-in_ok-set_of-in-len2-up : goal.returns-in_ok-set_of-in-len2-up
returns-in_ok-set_of-in-len2-up c = grind (arith, common_steps)
