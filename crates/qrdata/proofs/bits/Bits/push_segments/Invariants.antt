use Rattle.std.proofs.Common.{◌≡◌, ◌+◌, ◌≤◌, ◌++◌, drop, length}
use Rattle.qrdata.specs.Private.BitsInCodewords.{bits_in}
use Rattle.qrdata.specs.Segments.{IsSegmentation, cost, segments_bits}
use Rattle.qrdata.proofs.bits.Bits.push_segments.Given as goal

-- what is written and what is to come are all the bits; the segments to come hold the bytes to come, and there is room
-- for them
abbrev pub invariant-loop-segment : goal.invariant-loop-segment
invariant-loop-segment l = record {
  written : bits_in l.self ++ segments_bits l.version (drop l.segment-index l.segments) (drop l.place l.bytes)
      ≡ bits_in l.fn.self ++ segments_bits l.version l.segments l.bytes;
  room : length (bits_in l.self) + cost l.version (drop l.segment-index l.segments) ≤ 2775;
  inside : l.place ≤ length l.bytes;
  cut : IsSegmentation l.version (drop l.segment-index l.segments) (drop l.place l.bytes);
}
