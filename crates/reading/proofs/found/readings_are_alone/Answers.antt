use Rattle.reading.proofs.Laws.AloneLaws.{read_upright}
use Rattle.reading.proofs.found.readings_are_alone.Goals as goal

pub returns : goal.returns
returns c = λ p symbology scale full some read. rw (read_upright 0 p symbology scale full some read)
