use Rattle.std.proofs.Common.{[]}
use Rattle.capi.specs.Read.{modules_asked}
use Rattle.capi.proofs.read.read_modules_into.Goals as goal

pub returns-in_default : goal.returns-in_default
unfolding modules_asked
returns-in_default c = rw (← c.in_default.ensures) (c.declined.ensures c.args.out.now [])

pub returns-in-None : goal.returns-in-None
unfolding modules_asked
returns-in-None c = rw (← c.in-Some.ensures, ← c.in-None.ensures) (c.declined-in-None.ensures c.args.out.now [])
