use Rattle.std.proofs.Common.{◌-◌, ◌+◌, ◌*◌, ◌≤◌}
use Rattle.qrmatrix.specs.Private.Placing.{MovesOn}
use Rattle.qrmatrix.proofs.placement.place_strip.Given as goal

abbrev pub invariant-loop-t : goal.invariant-loop-t
invariant-loop-t l = record {
  placed : MovesOn l.strip l.free l.bytes l.fn.modules l.modules l.first 0 l.i l.t;
  bound : l.i ≤ l.first + 2 * l.t;
  inside : l.t ≤ l.strip.side;
}

abbrev pub decreases-loop-t : goal.decreases-loop-t
decreases-loop-t l = l.strip.side - l.t
