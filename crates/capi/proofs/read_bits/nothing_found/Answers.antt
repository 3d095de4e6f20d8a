use Rattle.std.proofs.Common.{[], refl}
use Rattle.capi.proofs.read_bits.nothing_found.Goals as goal

pub returns : goal.returns
returns c = λ room. (c.declined.ensures room [], refl)
