use Rattle.std.proofs.Common.{arith}
use Rattle.qrdata.proofs.Laws.PaddingLaws.{length-bits_in}
use Rattle.qrdata.proofs.bits.Bits.len.Goals as goal

pub returns : goal.returns
returns c = omega (arith, c.len.ensures.value, length-bits_in c.args.self.now)
