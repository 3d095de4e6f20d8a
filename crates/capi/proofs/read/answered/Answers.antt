use Rattle.std.proofs.Common.{[]}
use Rattle.capi.proofs.read.answered.Goals as goal

pub returns-in-None : goal.returns-in-None
returns-in-None c = rw c.in-None.is (c.declined.ensures c.args.room.now [])
