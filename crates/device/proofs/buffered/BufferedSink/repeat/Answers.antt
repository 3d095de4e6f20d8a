use Rattle.std.proofs.Common.{arith, refl}
use Rattle.device.proofs.PassingLaws.{PassesOn-repeated}
use Rattle.device.proofs.buffered.BufferedSink.repeat.Goals as goal

pub returns : goal.returns
returns g c =
    let s = c.args.self.now in
    record {
      bytes = λ _ before front last size h.
          PassesOn-repeated g.S.Sink.took before.sink s.sink _ front last s.bytes c.put_again.new.room s.start s.end
          c.args.count (g.met.S.Sink.took_none s.sink) (omega arith) (omega arith) c.put_again.ensures size h;
      count = refl;
      flushed = λ _. refl;
      kept = λ e. search;
    }
