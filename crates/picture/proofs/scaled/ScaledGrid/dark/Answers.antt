use Rattle.std.proofs.Common.{arith}
use Rattle.std.proofs.lemmas.Nat.{div_below}
use Rattle.picture.proofs.scaled.ScaledGrid.dark.Goals as goal

pub dark-requires-clause-in_width : goal.dark-requires-clause-in_width
dark-requires-clause-in_width g c =
    let s = c.args.self.now in
    div_below c.args.x s.scale (g.G.Grid.picture s.grid).width (omega arith) c.requires.in_width

pub dark-requires-clause-in_height : goal.dark-requires-clause-in_height
dark-requires-clause-in_height g c =
    let s = c.args.self.now in
    div_below c.args.y s.scale (g.G.Grid.picture s.grid).height (omega arith) c.requires.in_height

pub returns : goal.returns
returns g c = c.dark.ensures
