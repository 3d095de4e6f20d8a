use Rattle.std.proofs.Common.{◌≡◌, ◌≤◌, ◌<◌, ◌^◌, ◌+◌, ◌-◌, refl, arith, take_all, sym, ap, ◌∙◌, length, ◌++◌, slice_range, length-append, take, List, ℕ}
use borrow.Rule.Slice.PartMut.{put_mid}
use Rattle.capi.specs.Room.{put_text}
use Rattle.capi.specs.Slice.{room_of, Puts}
use Rattle.capi.specs.declared.slice_sink.SliceSink.{SliceSink}
use Rattle.capi.proofs.SliceLaws.{put_fits, put_last}
use Rattle.capi.proofs.slice_sink.SliceSinkSink.repeat.Goals as goal

-- the last bytes of what was put, copied behind themselves
again : (before s : SliceSink) (front last : List ℕ) (size : ℕ) → length last ≡ size
    → s.count + size ≤ length (room_of s) → length (room_of s) < 2 ^ 64 - 1
    → Puts before s (front ++ last)
    → put_mid s.count size (room_of s) (slice_range (room_of s) (s.count - size) s.count) ≡ put_text (room_of s) s.count last
again before s front last size e fits small h =
    let sum = length-append front last in
    let filled = h.room (omega (arith, small, h.size)) in
    let total : s.count ≡ before.count + length (front ++ last) = omega (arith, h.count, fits, small) in
    let place : s.count - size ≡ before.count + length front = omega (arith, total, sum, e) in
    let found : slice_range (room_of s) (s.count - size) s.count ≡ last =
    rw (place, filled, total)
    (put_last (room_of before) before.count front last (omega (arith, h.size, total, fits))) in
    let whole : take size last ≡ last = take_all size last (omega (arith, e)) in
    ap (put_mid s.count size (room_of s)) (found ∙ sym whole)
    ∙ put_fits (room_of s) s.count last size (omega (arith, fits)) (omega (arith, e, fits))

pub returns : goal.returns
returns c =
    let s = c.args.self.now in
    record {
      bytes = λ _ before front last size h. record {
        same = refl;
        size = c.put_again.auto.room;
        count = omega (arith, size);
        room = λ small. c.put_again.ensures ∙ again before s front last c.args.count size (omega arith) small h;
      };
      count = refl;
      flushed = λ _. refl;
      kept = λ e. search;
    }
