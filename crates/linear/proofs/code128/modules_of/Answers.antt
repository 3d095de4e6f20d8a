use Rattle.linear.proofs.Laws.TableLaws.{CHARACTERS-character_modules}
use Rattle.linear.proofs.code128.modules_of.Goals as goal

pub returns : goal.returns
returns c = CHARACTERS-character_modules _ c.args.value _ c.from.ensures c.requires
