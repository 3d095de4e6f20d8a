use Rattle.qr_reading.proofs.Laws.WalkedBitLaws.{pair_bits}
use Rattle.qr_reading.proofs.walk.pair_at.Goals as goal

pub returns-clause-bits : goal.returns-clause-bits
returns-clause-bits c = pair_bits c.args.row c.args.x
