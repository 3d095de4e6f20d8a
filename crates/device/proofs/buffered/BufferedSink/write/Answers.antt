use Rattle.std.proofs.Common.{take, sym, subst, ap, arith, ◌∙◌}
use Rattle.device.specs.Buffered.{buffered_bytes}
use Rattle.device.specs.Passing.{PassesOn}
use Rattle.device.proofs.PassingLaws.{PassesOn-more}
use Rattle.device.proofs.buffered.BufferedSink.write.Goals as goal

pub returns : goal.returns
returns g c =
    let took = g.S.Sink.took in
    let old = c.args.self.now in
    let mid = c.make_room.new.self in
    let new = c.buffer.new.self in
    let more = take c.min-count.result c.args.bytes.now in
    record {
      some = omega (arith, c.requires, c.in_ok-make_room.ensures.room);
      bound = omega arith;
      bytes = subst (λ s. PassesOn took old.sink s (buffered_bytes old) (buffered_bytes new) more)
          (sym c.buffer.ensures.sink)
          (PassesOn-more took old.sink mid.sink (buffered_bytes old) (buffered_bytes mid) (buffered_bytes new)
          more c.in_ok-make_room.ensures.passes.bytes c.buffer.ensures.buffered);
      count = ap g.S.Sink.failures c.buffer.ensures.sink ∙ c.in_ok-make_room.ensures.passes.count;
      flushed = c.buffer.ensures.flushed;
    }
