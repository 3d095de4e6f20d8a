use Rattle.capi.proofs.read_bits.found.Goals as goal

pub returns-in-None : goal.returns-in-None
returns-in-None c = rw c.in-None.is (c.nothing_found.ensures c.args.room.now)
