use Rattle.std.proofs.Common.{arith}
use Rattle.std.proofs.lemmas.Nat.{div_below, mul-le}
use Rattle.picture.proofs.Laws.GridLaws.{equal_rows-enlargement}
use Rattle.picture.proofs.scaled.ScaledGrid.equal_rows.Goals as goal

pub returns : goal.returns
returns g c =
    equal_rows-enlargement (g.G.Grid.picture c.args.self.now.grid) c.args.self.now.scale c.args.y c.equal_rows.result
    (omega arith) c.equal_rows.ensures

pub equal_rows-requires : goal.equal_rows-requires
equal_rows-requires g c =
    let s = c.args.self.now in
    div_below c.args.y s.scale (g.G.Grid.picture s.grid).height (omega arith) c.requires

pub overflow_mul-result : goal.overflow_mul-result
overflow_mul-result g c =
    let s = c.args.self.now in
    let inside = c.equal_rows.ensures.inside in
    let rows = (g.G.Grid.picture s.grid).height in
    let most = mul-le c.equal_rows.result s.scale rows s.scale (omega arith) (omega arith) in
    omega arith

pub overflow_sub-result : goal.overflow_sub-result
overflow_sub-result g c =
    let s = c.args.self.now in
    let some = c.equal_rows.ensures.some in
    let more = mul-le 1 s.scale c.equal_rows.result s.scale (omega arith) (omega arith) in
    omega arith
