use Rattle.std.proofs.Common.{◌∙◌, sym}
use Rattle.reading.proofs.FirstLaws.{from_first, light_unread}
use Rattle.reading.proofs.found.read_upright.Goals as goal

pub returns-in_default-clause-read : goal.returns-in_default-clause-read
returns-in_default-clause-read g c =
    sym (light_unread c.args.turns (g.G.Grid.picture c.args.dots.now) c.in_default.ensures)

pub returns-clause-read : goal.returns-clause-read
returns-clause-read g c =
    c.read_first.ensures ∙ from_first (g.G.Grid.picture c.args.dots.now) _ _ c.in-Some.ensures c.args.turns
