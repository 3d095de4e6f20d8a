use Rattle.filter.proofs.Laws.Words.{[], refused, Images, Messages, of_line}
use Rattle.filter.proofs.Laws.ScriptLaws.{event_stops, event_took, none_taken, Stops-first}
use Rattle.filter.proofs.line_end.refuse.Goals as goal

pub returns-in_default-clause-sends : goal.returns-in_default-clause-sends
returns-in_default-clause-sends g c run = (Stops-first run _ Images
    (of_line c.args.number (refused c.args.fault.now)) []
    (none_taken _ _ c.pass_on.ensures.bytes (g.met.E.Sink.took_none _)))

pub returns-in-Ok-write_fault-clause-sends : goal.returns-in-Ok-write_fault-clause-sends
returns-in-Ok-write_fault-clause-sends g c run = (event_took run _ _
    (of_line c.args.number (refused c.args.fault.now)) c.pass_on.ensures.bytes c.in-Ok-write_fault.ensures.bytes)

pub returns-in-Err-clause-sends : goal.returns-in-Err-clause-sends
returns-in-Err-clause-sends g c run = (event_stops run _ Messages
    (of_line c.args.number (refused c.args.fault.now)) [] c.in-Err.ensures.bytes c.pass_on.ensures.bytes)
