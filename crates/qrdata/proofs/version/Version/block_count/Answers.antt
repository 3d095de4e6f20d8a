use Rattle.qrdata.proofs.Laws.VersionLaws.{IsSound-of}
use Rattle.qrdata.proofs.version.Version.block_count.Goals as goal

pub returns-clause-value : goal.returns-clause-value
returns-clause-value c = rw (c.from.ensures, c.place_of.ensures, ← c.self.view_is)
    ((IsSound-of c.self.inside.number c.args.level c.self.invariant).coded_blocks _)
