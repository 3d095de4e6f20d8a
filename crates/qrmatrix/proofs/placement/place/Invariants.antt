use Rattle.std.proofs.Common.{◌≡◌, ◌*◌, ◌≤◌}
use Rattle.qrdata.specs.Versions.{side_of}
use Rattle.qrmatrix.specs.Square.{value_at}
use Rattle.qrmatrix.specs.Private.Placing.{Placed}
use Rattle.qrmatrix.proofs.placement.place.Given as goal

abbrev pub invariant-loop-pair : goal.invariant-loop-pair
invariant-loop-pair l = record {
  placed : Placed l.fn.version l.bytes (value_at l.fn.modules) (value_at l.modules) l.i
      (2 * side_of l.fn.version * (2 * l.pair));
  bound : l.i ≤ 228 * l.pair;
  width : l.side ≡ side_of l.fn.version;
}
