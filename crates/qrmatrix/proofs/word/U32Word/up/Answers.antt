use Rattle.qrmatrix.proofs.Laws.RowBitsLaws.{moved_up_bit}
use Rattle.qrmatrix.proofs.word.U32Word.up.Goals as goal

pub returns : goal.returns
returns c = λ i l. moved_up_bit 32 c.args.self c.args.places i l
