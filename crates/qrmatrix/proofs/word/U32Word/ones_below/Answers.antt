use Rattle.qrmatrix.proofs.RowSumLaws.{few_ones, ones_below}
use Rattle.qrmatrix.proofs.word.U32Word.ones_below.Goals as goal

pub returns-clause-value : goal.returns-clause-value
returns-clause-value c = ones_below 32 c.args.self c.args.count c.requires

pub returns-clause-bound : goal.returns-clause-bound
returns-clause-bound c = few_ones 32 c.args.self c.args.count c.requires
