use Rattle.qrmatrix.proofs.RowSumLaws.{lowest_bit}
use Rattle.qrmatrix.proofs.word.U64Word.lowest.Goals as goal

pub returns : goal.returns
returns c = lowest_bit 64 c.args.self c.args.count c.requires
