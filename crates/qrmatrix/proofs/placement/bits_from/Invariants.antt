use Rattle.qrmatrix.proofs.TwoBitsLaws.{HasCodewords}
use Rattle.qrmatrix.proofs.placement.bits_from.Given as goal

abbrev pub invariant-loop-j : goal.invariant-loop-j
invariant-loop-j l = HasCodewords l.bits l.bytes l.first l.j
