use Rattle.std.proofs.Common.{◌≡◌, ℕ, ◌+◌, ◌-◌, ◌<◌, List, ◌++◌, drop, take, length, get_or, append-nil, arith, ap}
use Rattle.std.proofs.Common.{length-append, Bool}
use Rattle.std.proofs.lemmas.List.{drop-drop, drop_all, drop_more, length-drop}
use Rattle.std.proofs.lemmas.List.Sums.{sum_by-cons}
use Rattle.qrdata.specs.Private.BitsInCodewords.{bits_in}
use Rattle.qrdata.specs.declared.mode.Segment.{Segment}
use Rattle.qrdata.specs.Segments.{IsFirstSegment, IsSegmentation, segment_bits, segment_length, segments_bits}
use Rattle.qrdata.proofs.Laws.BitStringLaws.{next_written}
use Rattle.qrdata.proofs.Laws.LengthLaws.{default_segment, length-segment_bits_front}
use Rattle.qrdata.proofs.bits.Bits.push_segments.Goals as goal

-- the next segment is one of the bytes that are left
next_held : (version : ℕ) (segments : List Segment) (i : ℕ) (bytes : List ℕ) → i < length segments
    → IsSegmentation version (drop i segments) bytes → IsFirstSegment version bytes (get_or segments i default_segment)
    × IsSegmentation version (drop (i + 1) segments) (drop (get_or segments i default_segment).len bytes)
next_held version segments i bytes inside cut = rw (drop_more segments i default_segment inside) at cut

pub loop-segment-preserved : goal.loop-segment-preserved
unfolding segments_bits
loop-segment-preserved c =
    let version = c.args.version in
    let segments = c.args.segments.now in
    let i = c.loop-segment.segment-index in
    let place = c.loop-segment.place in
    let rest = drop place c.args.bytes.now in
    let s = get_or segments i default_segment in
    let next = drop_more segments i default_segment c.loop-segment-test.true in
    let held = next_held version segments i rest c.loop-segment-test.true c.loop-segment.invariant.cut in
    let piece : place + c.from.result - place ≡ s.len = omega (arith, c.from.ensures) in
    let written : bits_in c.push_segment.new.self ≡ bits_in c.loop-segment.self
    ++ segment_bits version s.mode (take s.len rest) = rw piece at c.push_segment.ensures in
    record {
      written = rw (c.from.ensures, ← drop-drop s.len place c.args.bytes.now)
          (next_written _ _ _ written (rw next at c.loop-segment.invariant.written));
      room = omega (
        arith,
        ap length written,
        length-append {A = Bool},
        length-segment_bits_front version s.mode s.len rest held.0.inside,
        sum_by-cons (segment_length version) s (drop (i + 1) segments),
        (rw next at c.loop-segment.invariant.room),
      );
      inside = omega (arith, held.0.inside, length-drop place c.args.bytes.now, c.from.ensures);
      cut = rw (c.from.ensures, ← drop-drop s.len place c.args.bytes.now) held.1;
    }

pub returns : goal.returns
unfolding segments_bits
returns c =
    rw (drop_all c.loop-segment.segment-index c.args.segments.now c.loop-segment-test.false, append-nil)
    at c.loop-segment.invariant.written
