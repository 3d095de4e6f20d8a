use Rattle.std.proofs.Common.{refl, arith, take_all, ap, ◌∙◌, length}
use Rattle.capi.specs.Private.Puts.{put_length}
use Rattle.capi.proofs.slice_sink.SliceSinkSink.write.Goals as goal

pub returns : goal.returns
returns c =
    let s = c.args.self.now in
    let bytes = c.args.bytes.now in
    let whole = take_all (length bytes) bytes (omega arith) in
    record {
      some = omega (arith, c.requires);
      bound = omega arith;
      bytes = record {
        same = refl;
        size = ap length c.put.ensures ∙ put_length s.room.now s.count bytes;
        count = rw whole (omega (arith, c.saturating_add-self.ensures));
        room = λ small. rw whole c.put.ensures;
      };
      count = refl;
      flushed = refl;
    }
