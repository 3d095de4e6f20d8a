use Rattle.qrmatrix.proofs.RowSumLaws.{lowest_bit}
use Rattle.qrmatrix.proofs.word.U32Word.lowest.Goals as goal

pub returns : goal.returns
returns c = lowest_bit 32 c.args.self c.args.count c.requires
