use Rattle.std.proofs.Common.{◌≡◌}
use Rattle.qr_reading.specs.Private.ReadSoFar.{Leaves, after}
use Rattle.qrdata.specs.Reading.{payload_at}
use Rattle.qr_reading.proofs.segment_reading.read_payload.Given as goal

-- what was read and what is still to be read are all of it, and there is room for it
abbrev pub invariant-loop-left : goal.invariant-loop-left
invariant-loop-left l = record {
  all : after l.out.items (payload_at l.mode l.left l.rest)
      ≡ after l.fn.out.items (payload_at l.mode l.count l.bits);
  left : Leaves l.out.items l.bits l.rest;
}

abbrev pub decreases-loop-left : goal.decreases-loop-left
decreases-loop-left l = l.left
