use Rattle.std.proofs.Common.{◌≡◌, ℕ, ◌≤◌, length}
use Rattle.qr_reading.specs.Private.ReadSoFar.{HasRoom, with_rest}
use Rattle.qrdata.specs.Reading.{segments_at}
use Rattle.qr_reading.proofs.segment_reading.read_segments.Given as goal

-- What was read and what is still to be read are all of it, and there is room for it. Each segment has a bit at least,
-- so that no more segments follow than there are bits.
abbrev pub invariant-loop-rest : goal.invariant-loop-rest
invariant-loop-rest l = record {
  most : ℕ;
  enough : length l.rest ≤ most;
  all : with_rest l.out.items (segments_at l.version most l.rest)
      ≡ segments_at l.version (length l.bits) l.bits;
  room : HasRoom l.out.items l.rest;
}

abbrev pub decreases-loop-rest : goal.decreases-loop-rest
decreases-loop-rest l = length l.rest
