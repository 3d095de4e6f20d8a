use Rattle.filter.proofs.Laws.Words.{[], Images, Messages, flushes}
use Rattle.filter.proofs.Laws.ScriptLaws.{event_took, none_taken, Stops-first}
use Rattle.filter.proofs.filter.flush_both.Goals as goal

pub returns-in_default-clause-sends : goal.returns-in_default-clause-sends
returns-in_default-clause-sends g c run =
    Stops-first run _ Images flushes [] (none_taken _ _ c.flush.ensures.bytes (g.met.E.Sink.took_none _))

pub returns-in_default-flush-clause-sends : goal.returns-in_default-flush-clause-sends
returns-in_default-flush-clause-sends g c run =
    Stops-first run _ Messages flushes [] (none_taken _ _ c.flush.ensures.bytes c.flush-2.ensures.bytes)

pub returns-clause-sends : goal.returns-clause-sends
returns-clause-sends g c run =
    event_took run _ _ flushes c.flush.ensures.bytes c.flush-2.ensures.bytes
