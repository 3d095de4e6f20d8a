use Rattle.qrmatrix.proofs.FormatLaws.{DrawnTo}
use Rattle.qrmatrix.proofs.format.draw_format.Given as goal

abbrev pub invariant-loop-i : goal.invariant-loop-i
invariant-loop-i l = DrawnTo l.side l.information l.i l.fn.modules l.modules
