use Rattle.std.proofs.Common.{arith}
use Rattle.picture.proofs.Laws.GridLaws.{equal_rows-with_quiet_zone}
use Rattle.picture.proofs.framed.FramedGrid.equal_rows.Goals as goal

pub returns-then-y-self-2 : goal.returns-then-y-self-2
returns-then-y-self-2 g c =
    let p = g.G.Grid.picture c.args.self.now.grid in
    equal_rows-with_quiet_zone p c.args.self.now.zone c.args.y c.equal_rows.result (omega arith) c.equal_rows.ensures
