use Rattle.std.proofs.Common.{arith}
use Rattle.std.proofs.lemmas.Grind.{common_steps}
use Rattle.linear_reading.proofs.read_ean.has_guards.Goals as goal

pub returns-then-row-half-clause-guards : goal.returns-then-row-half-clause-guards
returns-then-row-half-clause-guards c = grind (arith, common_steps)

pub returns-then-same_modules-2-clause-guards : goal.returns-then-same_modules-2-clause-guards
returns-then-same_modules-2-clause-guards c = grind (arith, common_steps)
