use Rattle.std.proofs.Common.{refl, sym}
use Rattle.command.proofs.entry.run_choice.Goals as goal

pub returns-in-Ok : goal.returns-in-Ok
returns-in-Ok g c =
    rw (c.in-Some.is, sym c.as_str.ensures.value) (
      c.in-Ok.ensures.opened,
      refl,
      (
        c.new-source.result,
        c.run_streams.new.source,
        c.new-source.ensures.new,
        rw c.new-source.ensures.reader c.in-Ok.ensures.bytes,
        record { runs = c.run_streams.ensures.runs; whole = c.run_streams.ensures.whole },
      ),
    )
