use Rattle.std.proofs.Common.{arith}
use Rattle.std.proofs.lemmas.Grind.{common_steps}
use Rattle.linear_reading.proofs.read_ean.with_first_digit.Goals as goal

pub push-requires : goal.push-requires
push-requires c = grind (arith, common_steps)

pub push-requires-in-loop-letter : goal.push-requires-in-loop-letter
push-requires-in-loop-letter c = grind (arith, common_steps)

pub returns-in_err-first : goal.returns-in_err-first
returns-in_err-first c = grind (arith, common_steps)

pub insert-requires : goal.insert-requires
insert-requires c = grind (arith, common_steps)

pub returns : goal.returns
returns c = grind (arith, common_steps)
