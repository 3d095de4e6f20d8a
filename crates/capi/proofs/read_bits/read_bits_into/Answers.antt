use Rattle.capi.specs.Read.{bits_asked}
use Rattle.capi.proofs.read_bits.read_bits_into.Goals as goal

pub returns-in_default : goal.returns-in_default
unfolding bits_asked
returns-in_default c = rw (← c.in_default.ensures) (c.nothing_found.ensures c.args.out.now)

pub returns-in-None : goal.returns-in-None
unfolding bits_asked
returns-in-None c = rw (← c.in-Some.ensures, c.in-None.ensures) (c.nothing_found-in-None.ensures c.args.out.now)
