use Rattle.std.proofs.Common.{refl}
use Rattle.capi.specs.Private.Puts.{Puts_none}
use Rattle.capi.proofs.slice_sink.SliceSinkSink.flush.Goals as goal

pub returns : goal.returns
returns c =
    let none = Puts_none c.args.self.now in
    record {
      bytes = record { same = none.same; size = none.size; count = none.count; room = none.room };
      count = refl;
      flushed = refl;
      buffered = tt;
    }
