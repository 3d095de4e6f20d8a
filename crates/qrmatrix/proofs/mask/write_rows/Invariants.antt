use Rattle.std.proofs.Common.{◌+◌, Bool, List}
use Rattle.qrmatrix.specs.Private.Drawing.{IsMaskedTo}
use Rattle.qrmatrix.proofs.mask.write_rows.Given as goal

abbrev pub invariant-loop-place : goal.invariant-loop-place
invariant-loop-place l = (start : List (List Bool)) → IsMaskedTo l.first l.mask l.free l.modules start l.fn.masked
    → IsMaskedTo (l.first + l.place) l.mask l.free l.modules start l.masked
