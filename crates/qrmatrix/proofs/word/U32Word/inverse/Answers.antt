use Rattle.std.proofs.Common.{arith}
use Rattle.std.specs.Int.{w32}
use Rattle.qrmatrix.proofs.Laws.RowBitsLaws.{inverse_bit}
use Rattle.qrmatrix.proofs.word.U32Word.inverse.Goals as goal

pub returns : goal.returns
returns c = λ i l. inverse_bit w32 c.args.self i (omega arith) l
