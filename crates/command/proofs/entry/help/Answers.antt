use Rattle.std.proofs.Common.{sym}
use Rattle.command.proofs.ProgramLaws.{Helps-flushed, prints-flushed}
use Rattle.std.proofs.lemmas.Result.{err_from_is_err_and}
use Rattle.command.proofs.entry.help.Goals as goal

pub returns-in_err-write_whole : goal.returns-in_err-write_whole
returns-in_err-write_whole g c =
    let p = err_from_is_err_and c.from_residual.result c.from_residual.ensures.1 in
    let h = c.in_err-write_whole.ensures in
    rw (p.1) (record {
      helps = record { text = c.as_bytes.result.now; bytes = h.bytes; count = h.count; flushed = tt };
      prints = rw (sym c.as_bytes.ensures.value) h.bytes;
    })

pub returns : goal.returns
returns g c =
    let h = c.in_ok-write_whole.ensures in
    record {
      helps = Helps-flushed g.O.Sink c.args.output.now c.write_whole.new.sink c.flush.new.self c.as_bytes.result.now
          g.met.O.Sink.took_joined h.bytes h.count c.flush.result c.flush.ensures;
      prints = rw (sym c.as_bytes.ensures.value) (prints-flushed g.O.Sink c.args.output.now c.write_whole.new.sink
          c.flush.new.self c.as_bytes.result.now g.met.O.Sink.took_joined h.bytes c.flush.result c.flush.ensures);
    }
