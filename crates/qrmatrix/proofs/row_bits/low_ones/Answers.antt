use Rattle.std.proofs.Common.{◌∙◌, ap, arith, ◌-◌}
use Rattle.std.proofs.lemmas.Nat.{one_shl}
use Rattle.qrmatrix.specs.Bits.{bit}
use Rattle.qrmatrix.proofs.Laws.RowBitsLaws.{low_bit, ones_narrow}
use Rattle.qrmatrix.proofs.row_bits.low_ones.Goals as goal

pub returns-clause-value : goal.returns-clause-value
returns-clause-value c = ap (λ z. z - 1) (one_shl c.args.count 64 (omega arith))

pub returns-clause-bits : goal.returns-clause-bits
returns-clause-bits c = λ i. ap (λ z. bit (z - 1) i) (one_shl c.args.count 64 (omega arith)) ∙ low_bit c.args.count i

pub returns-clause-bound : goal.returns-clause-bound
returns-clause-bound c = rw (one_shl c.args.count 64 (omega arith)) (ones_narrow c.args.count c.requires)
