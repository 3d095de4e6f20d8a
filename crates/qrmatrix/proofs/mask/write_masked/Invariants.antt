use Rattle.std.proofs.Common.{◌*◌}
use Rattle.qrmatrix.specs.Private.Drawing.{IsMaskedTo}
use Rattle.qrmatrix.proofs.mask.write_masked.Given as goal

abbrev pub invariant-loop-block : goal.invariant-loop-block
invariant-loop-block l = IsMaskedTo (12 * l.block) l.mask l.free l.modules l.fn.masked l.masked
