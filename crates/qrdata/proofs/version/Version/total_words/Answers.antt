use Rattle.labelcore.specs.declared.level.Level.TheVariants.{L}
use Rattle.qrdata.proofs.Laws.VersionLaws.{IsSound-of}
use Rattle.qrdata.proofs.version.Version.total_words.Goals as goal

pub returns : goal.returns
returns c = rw (c.from.ensures, ← c.self.view_is) ((IsSound-of c.self.inside.number L c.self.invariant).coded_total _)
